use Rattle.oas_runs.proofs.OrderLemmas.{order_apart, order_behind}
use Rattle.std.proofs.Common.{◌≡◌, ◌≢◌, ◌≤◌, ◌∙◌, length, rules}
use Rattle.std.specs.Cmp.Lexicographic.{slice_cmp}
use Rattle.std.specs.Ordering.{nat_cmp}
use Rattle.oas_runs.proofs.ordering.order_of.Goals as goal

pub returns-then-left_front-right_front : goal.returns-then-left_front-right_front
returns-then-left_front-right_front c =
    let one : 8 ≤ length c.loop-left.left.now = search rules in
    let other : 8 ≤ length c.loop-left.right.now = search rules in
    let apart : c.number_of-left_front.result ≢ c.number_of-right_front.result = search rules in
    let is : c.cmp.result ≡ nat_cmp c.number_of-left_front.result c.number_of-right_front.result = search rules in
    is
    ∙ order_apart c.loop-left.left.now c.loop-left.right.now c.number_of-left_front.result c.number_of-right_front.result c.number_of-left_front.ensures.bytes
    c.number_of-right_front.ensures.bytes one other c.number_of-left_front.ensures.number c.number_of-right_front.ensures.number apart
    ∙ c.loop-left.invariant

pub loop-left-preserved : goal.loop-left-preserved
loop-left-preserved c =
    let one : 8 ≤ length c.loop-left.left.now = search rules in
    let other : 8 ≤ length c.loop-left.right.now = search rules in
    let same : c.number_of-left_front.result ≡ c.number_of-right_front.result = search rules in
    (λ i. slice_cmp nat_cmp (c.after-left.ensures i) (c.after-right.ensures i))
    ∙ order_behind c.loop-left.left.now c.loop-left.right.now c.number_of-left_front.result c.number_of-right_front.result c.number_of-left_front.ensures.bytes
    c.number_of-right_front.ensures.bytes one other c.number_of-left_front.ensures.number c.number_of-right_front.ensures.number same
    ∙ c.loop-left.invariant
