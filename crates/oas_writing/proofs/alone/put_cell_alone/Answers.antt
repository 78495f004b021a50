use Rattle.std.proofs.Common.{◌≡◌, ℕ, arith}
use Rattle.std.proofs.lemmas.Result.{err_from_is_err_and}
use Rattle.oas_num.specs.Ratio.{Ratio}
use Rattle.oas_listing.proofs.PuttingLemmas.{first, first_fails, fails_at, last_fails, ends, ◌▸◌}
use Rattle.oas_writing.proofs.AloneLemmas.{alone_bytes, alone_means, cell_short}
use Rattle.oas_writing.proofs.alone.put_cell_alone.Goals as goal

unit_is : (u : Ratio) (num den : ℕ) → num ≡ u.num → den ≡ u.den → record { num = num; den = den } ≡ u
unit_is u num den n d = λ i. record { num = n i; den = d i }

pub returns-in_err-head-clause-counts : goal.returns-in_err-head-clause-counts
returns-in_err-head-clause-counts g c =
    let p = err_from_is_err_and c.from_residual.result c.from_residual.ensures.1 in
    let unit = unit_is c.args.unit c.num.result c.den.result c.num.ensures.value c.den.ensures.value in
    rw (p.1, alone_bytes c.args.unit _) (first_fails _ (rw unit at c.in_err-head.ensures.counts))

pub returns-in_err-body-clause-counts : goal.returns-in_err-body-clause-counts
returns-in_err-body-clause-counts g c =
    let p = err_from_is_err_and c.from_residual-in_err-body.result c.from_residual-in_err-body.ensures.1 in
    let unit = unit_is c.args.unit c.num.result c.den.result c.num.ensures.value c.den.ensures.value in
    rw (p.1, alone_bytes c.args.unit _) (fails_at _ (first _ (rw unit at c.in_ok-head.ensures.counts)) c.in_err-body.ensures)

pub returns-in_err-end-clause-counts : goal.returns-in_err-end-clause-counts
returns-in_err-end-clause-counts g c =
    let p = err_from_is_err_and c.from_residual-in_err-end.result c.from_residual-in_err-end.ensures.1 in
    let unit = unit_is c.args.unit c.num.result c.den.result c.num.ensures.value c.den.ensures.value in
    rw (p.1, alone_bytes c.args.unit _) (last_fails (first _ (rw unit at c.in_ok-head.ensures.counts) ▸ c.in_ok-body.ensures) c.in_err-end.ensures.counts)

pub overflow_add-result : goal.overflow_add-result
overflow_add-result g c =
    omega (arith, c.in_ok-head.ensures.short, c.in_ok-body.ensures.count_is, cell_short c.args.name.now c.args.elements c.fits.ensures.sound c.fits.ensures.light)

pub overflow_add-result-2 : goal.overflow_add-result-2
overflow_add-result-2 g c =
    omega (arith, c.in_ok-head.ensures.short, c.in_ok-end.ensures.short, c.in_ok-body.ensures.count_is, cell_short c.args.name.now c.args.elements c.fits.ensures.sound c.fits.ensures.light)

pub returns-clause-counts : goal.returns-clause-counts
returns-clause-counts g c =
    let unit = unit_is c.args.unit c.num.result c.den.result c.num.ensures.value c.den.ensures.value in
    rw (alone_bytes c.args.unit _) (ends (first _ (rw unit at c.in_ok-head.ensures.counts) ▸ c.in_ok-body.ensures) c.in_ok-end.ensures.counts)

pub returns-in_err-head-clause-means : goal.returns-in_err-head-clause-means
returns-in_err-head-clause-means g c = λ l has. alone_means c.args.unit c.args.name.now c.args.elements l has

pub returns-in_err-body-clause-means : goal.returns-in_err-body-clause-means
returns-in_err-body-clause-means g c = λ l has. alone_means c.args.unit c.args.name.now c.args.elements l has

pub returns-in_err-end-clause-means : goal.returns-in_err-end-clause-means
returns-in_err-end-clause-means g c = λ l has. alone_means c.args.unit c.args.name.now c.args.elements l has

pub returns-clause-means : goal.returns-clause-means
returns-clause-means g c = λ l has. alone_means c.args.unit c.args.name.now c.args.elements l has
