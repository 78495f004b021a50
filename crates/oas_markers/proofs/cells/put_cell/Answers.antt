use Rattle.std.proofs.Common.{◌≡◌, ◌++◌, List, ℕ, length, length-append, refl, sym, ap, subst, arith}
use Rattle.std.specs.List.Sorted.{IsStrictlySortedBy}
use Rattle.std.specs.Map.{keys_of}
use Rattle.std.proofs.lemmas.Result.{err_from_is_err_and}
use Rattle.oas_num.proofs.PuttingLemmas.{begins, fails_at, ends, ◌▸◌}
use Rattle.oas_elements.specs.declared.element.Element.{Element}
use Rattle.oas_elements.specs.Element.{element_cmp}
use Rattle.oas_difference.proofs.Steps.{sorted_of}
use Rattle.oas_markers.specs.Markers.{alone}
use Rattle.oas_markers.specs.Held.{held_item, change_items}
use Rattle.oas_markers.proofs.Firsts.{first_then, on_ok}
use Rattle.oas_difference.proofs.EntryLemmas.{left_is}
use Rattle.oas_markers.proofs.cells.put_cell.Goals as goal

pub put_changes-requires-clause-before : goal.put_changes-requires-clause-before
put_changes-requires-clause-before g c =
    subst (λ (es : List (Element × ℕ)). IsStrictlySortedBy element_cmp (keys_of es)) (sym c.new-before.ensures) (sorted_of c.args.pair.before c.requires.before)

pub put_changes-requires-clause-after : goal.put_changes-requires-clause-after
put_changes-requires-clause-after g c =
    subst (λ (es : List (Element × ℕ)). IsStrictlySortedBy element_cmp (keys_of es)) (sym c.new-after.ensures) (sorted_of c.args.pair.after c.requires.after)

pub returns-in_err-put_alone-clause-writes : goal.returns-in_err-put_alone-clause-writes
returns-in_err-put_alone-clause-writes g c =
    let p = err_from_is_err_and c.from_residual.result c.from_residual.ensures.1 in
    let pair = c.args.pair in
    let name = pair.name.now in
    let first = alone c.is_some-is_before.result c.is_some-is_after.result name in
    let rest = change_items c.args.gone c.args.come name c.new-before.result c.new-after.result in
    let step : held_item c.args.gone c.args.come (name, (pair.before, pair.after)) ≡ first ++ rest = λ i. alone (sym c.is_some-is_before.ensures i) (sym c.is_some-is_after.ensures i) name
    ++ change_items c.args.gone c.args.come name (sym c.new-before.ensures i) (sym c.new-after.ensures i) in
    rw p.1 (fails_at _ (left_is (begins _ _) (first_then c.args.left.now _ first rest _ step refl)) c.in_err-put_alone.ensures.writes)

pub returns-clause-writes : goal.returns-clause-writes
returns-clause-writes g c =
    let pair = c.args.pair in
    let name = pair.name.now in
    let first = alone c.is_some-is_before.result c.is_some-is_after.result name in
    let rest = change_items c.args.gone c.args.come name c.new-before.result c.new-after.result in
    let step : held_item c.args.gone c.args.come (name, (pair.before, pair.after)) ≡ first ++ rest = λ i. alone (sym c.is_some-is_before.ensures i) (sym c.is_some-is_after.ensures i) name
    ++ change_items c.args.gone c.args.come name (sym c.new-before.ensures i) (sym c.new-after.ensures i) in
    ends _ _ (left_is (begins _ _) (first_then c.args.left.now c.put_alone.new.left first rest _ step c.in_ok-put_alone.ensures.left) ▸ c.in_ok-put_alone.ensures.writes) c.put_changes.ensures.writes

pub returns-clause-left : goal.returns-clause-left
returns-clause-left g c =
    let pair = c.args.pair in
    let name = pair.name.now in
    let first = alone c.is_some-is_before.result c.is_some-is_after.result name in
    let rest = change_items c.args.gone c.args.come name c.new-before.result c.new-after.result in
    let step : held_item c.args.gone c.args.come (name, (pair.before, pair.after)) ≡ first ++ rest = λ i. alone (sym c.is_some-is_before.ensures i) (sym c.is_some-is_after.ensures i) name
    ++ change_items c.args.gone c.args.come name (sym c.new-before.ensures i) (sym c.new-after.ensures i) in
    let long : length (held_item c.args.gone c.args.come (name, (pair.before, pair.after))) ≡ length (first ++ rest) = ap length step in
    on_ok c.put_changes.result (λ h. omega (arith, h, c.in_ok-put_alone.ensures.left, long, length-append first rest)) c.put_changes.ensures.left
