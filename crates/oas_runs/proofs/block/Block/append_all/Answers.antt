use Rattle.std.proofs.Common.{◌≤◌, ℕ, List, ◌++◌, length, arith, ap, ◌∙◌, length-append}
use Rattle.std.specs.Prelude.{drop}
use Rattle.oas_runs.specs.Entries.{entries}
use Rattle.oas_runs.specs.Laws.EntryLaws.{IsMore}
use Rattle.oas_runs.proofs.EntryLemmas.{appended_all}
use Rattle.oas_runs.proofs.block.Block.append_all.Goals as goal
use Rattle.oas_runs.proofs.block.Block.append_all.Goals.{In_ok-extend_from_slice}

more : (c : In_ok-extend_from_slice) → IsMore (drop c.self.inside.start c.extend_from_slice.new.self.items) (entries (drop c.self.inside.start c.self.inside.bytes.items) ++ entries c.left-left.result.now)
more c = appended_all c.self.inside.start c.self.inside.bytes.items c.extend_from_slice.new.self.items c.left-left.result.now c.self.invariant.0 c.self.invariant.1 c.left-left.ensures.block
    (c.in_ok-extend_from_slice.ensures.items ∙ ap (λ (bs : List ℕ). bs ++ c.left-left.result.now) c.reserve_more.ensures.items)

pub invariant_of-self-2 : goal.invariant_of-self-2
invariant_of-self-2 c =
    let within : c.self.inside.start ≤ length c.extend_from_slice.new.self.items =
    omega (arith, c.self.invariant.0, ap length c.in_ok-extend_from_slice.ensures.items, ap length c.reserve_more.ensures.items, length-append c.reserve_more.new.bytes.items c.left-left.result.now) in
    (within, (more c).block)

pub returns-clause-ok : goal.returns-clause-ok
returns-clause-ok c = (more c).entries ∙ (λ i. c.self.view_is i ++ c.left-left.ensures.is i)
