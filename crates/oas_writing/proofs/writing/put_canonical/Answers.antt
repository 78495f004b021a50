use Rattle.std.proofs.Common.{◌≡◌, ℕ, ◌≤◌, ◌^◌, List, sym, subst, ◌∙◌, arith}
use Rattle.std.specs.List.{AllByRecursion}
use Rattle.std.proofs.lemmas.Result.{err_from_is_err_and}
use Rattle.oas_num.specs.Ratio.{Ratio}
use Rattle.oas_elements.specs.Contents.{Cell, expanded, IsCell}
use Rattle.oas_elements.specs.Meaning.{cells_weight}
use Rattle.oas_listing.specs.Bytes.{canonical_bytes}
use Rattle.oas_listing.proofs.PuttingLemmas.{first, first_fails, fails_at, last_fails, ends, ◌▸◌}
use Rattle.oas_writing.proofs.writing.put_canonical.Goals as goal

unit_is : (u v : Ratio) (num den : ℕ) → num ≡ u.num → den ≡ u.den → u ≡ v → record { num = num; den = den } ≡ v
unit_is u v num den n d e = (λ i. record { num = n i; den = d i }) ∙ e

pub put_cells-requires-clause-are : goal.put_cells-requires-clause-are
put_cells-requires-clause-are g c =
    let l = c.args.layout.now in
    (l.profile, subst (λ (cs : List Cell). AllByRecursion (IsCell l.profile) cs) (sym c.cells-cells.ensures.cells) c.cells-cells.ensures.layout.cells)

pub put_cells-requires-clause-light : goal.put_cells-requires-clause-light
put_cells-requires-clause-light g c =
    let h = c.cells-cells.ensures.layout in
    subst (λ (cs : List Cell). cells_weight (expanded cs) ≤ 2 ^ 30) (sym c.cells-cells.ensures.cells) (omega (arith, h.light, h.limits.light))

pub returns-in_err-head-clause-counts : goal.returns-in_err-head-clause-counts
unfolding canonical_bytes
returns-in_err-head-clause-counts g c =
    let p = err_from_is_err_and c.from_residual.result c.from_residual.ensures.1 in
    let unit = unit_is c.unit-unit.result c.args.layout.now.unit c.num.result c.den.result c.num.ensures.value c.den.ensures.value c.unit-unit.ensures in
    rw p.1 (first_fails _ (rw unit at c.in_err-head.ensures.counts))

pub returns-in_err-body-clause-counts : goal.returns-in_err-body-clause-counts
unfolding canonical_bytes
returns-in_err-body-clause-counts g c =
    let p = err_from_is_err_and c.from_residual-in_err-body.result c.from_residual-in_err-body.ensures.1 in
    let unit = unit_is c.unit-unit.result c.args.layout.now.unit c.num.result c.den.result c.num.ensures.value c.den.ensures.value c.unit-unit.ensures in
    rw p.1 (fails_at _ (first _ (rw unit at c.in_ok-head.ensures.counts))
    (rw c.cells-cells.ensures.cells at c.in_err-body.ensures.counts))

pub returns-in_err-end-clause-counts : goal.returns-in_err-end-clause-counts
unfolding canonical_bytes
returns-in_err-end-clause-counts g c =
    let p = err_from_is_err_and c.from_residual-in_err-end.result c.from_residual-in_err-end.ensures.1 in
    let unit = unit_is c.unit-unit.result c.args.layout.now.unit c.num.result c.den.result c.num.ensures.value c.den.ensures.value c.unit-unit.ensures in
    rw p.1 (last_fails (first _ (rw unit at c.in_ok-head.ensures.counts)
    ▸ (rw c.cells-cells.ensures.cells at c.in_ok-body.ensures.counts)) c.in_err-end.ensures.counts)

pub returns-clause-counts : goal.returns-clause-counts
unfolding canonical_bytes
returns-clause-counts g c =
    let unit = unit_is c.unit-unit.result c.args.layout.now.unit c.num.result c.den.result c.num.ensures.value c.den.ensures.value c.unit-unit.ensures in
    ends (first _ (rw unit at c.in_ok-head.ensures.counts)
    ▸ (rw c.cells-cells.ensures.cells at c.in_ok-body.ensures.counts)) c.in_ok-end.ensures.counts
