use Rattle.std.proofs.Common.{w64}
use Rattle.std.proofs.lemmas.Int.{to_z-of_z}
use Rattle.std.proofs.lemmas.Result.{err_from_is_err_and}
use Rattle.oas_listing.proofs.PuttingLemmas.{first, first_fails, fails_at, last_fails, ends, ◌▸◌}
use Rattle.oas_writing.proofs.elements.put_path.Goals as goal

pub returns-in_err-front : goal.returns-in_err-front
returns-in_err-front g c =
    let p = err_from_is_err_and c.from_residual.result c.from_residual.ensures.1 in
    rw p.1 (first_fails _ c.in_err-front.ensures)

pub returns-in_err-first : goal.returns-in_err-first
returns-in_err-first g c =
    let p = err_from_is_err_and c.from_residual-in_err-first.result c.from_residual-in_err-first.ensures.1 in
    rw p.1 (fails_at _ (first _ c.in_ok-front.ensures) c.in_err-first.ensures.counts)

pub returns-in_err-second : goal.returns-in_err-second
returns-in_err-second g c =
    let p = err_from_is_err_and c.from_residual-in_err-second.result c.from_residual-in_err-second.ensures.1 in
    rw p.1 (fails_at _ (first _ c.in_ok-front.ensures ▸ c.in_ok-first.ensures.counts) c.in_err-second.ensures.counts)

pub returns-in_err-wide : goal.returns-in_err-wide
returns-in_err-wide g c =
    let p = err_from_is_err_and c.from_residual-in_err-wide.result c.from_residual-in_err-wide.ensures.1 in
    rw p.1 (fails_at _ (first _ c.in_ok-front.ensures ▸ c.in_ok-first.ensures.counts ▸ c.in_ok-second.ensures.counts) c.in_err-wide.ensures.counts)

pub returns-in_err-scheme : goal.returns-in_err-scheme
returns-in_err-scheme g c =
    let p = err_from_is_err_and c.from_residual-in_err-scheme.result c.from_residual-in_err-scheme.ensures.1 in
    rw p.1 (fails_at _ (first _ c.in_ok-front.ensures ▸ c.in_ok-first.ensures.counts ▸ c.in_ok-second.ensures.counts ▸ c.in_ok-wide.ensures.counts) c.in_err-scheme.ensures)

pub returns-in_err-before : goal.returns-in_err-before
returns-in_err-before g c =
    let p = err_from_is_err_and c.from_residual-in_err-before.result c.from_residual-in_err-before.ensures.1 in
    rw p.1 (fails_at _ (first _ c.in_ok-front.ensures ▸ c.in_ok-first.ensures.counts ▸ c.in_ok-second.ensures.counts ▸ c.in_ok-wide.ensures.counts ▸ c.in_ok-scheme.ensures)
    (simp (to_z-of_z w64 c.args.start c.ranges.start) at c.in_err-before.ensures.counts))

pub returns-in_err-after : goal.returns-in_err-after
returns-in_err-after g c =
    let p = err_from_is_err_and c.from_residual-in_err-after.result c.from_residual-in_err-after.ensures.1 in
    rw p.1 (fails_at _ (first _ c.in_ok-front.ensures ▸ c.in_ok-first.ensures.counts ▸ c.in_ok-second.ensures.counts ▸ c.in_ok-wide.ensures.counts ▸ c.in_ok-scheme.ensures ▸
    (simp (to_z-of_z w64 c.args.start c.ranges.start) at c.in_ok-before.ensures.counts)) (simp (to_z-of_z w64 c.args.end c.ranges.end) at c.in_err-after.ensures.counts))

pub returns-in_err-line : goal.returns-in_err-line
returns-in_err-line g c =
    let p = err_from_is_err_and c.from_residual-in_err-line.result c.from_residual-in_err-line.ensures.1 in
    rw p.1 (last_fails (first _ c.in_ok-front.ensures ▸ c.in_ok-first.ensures.counts ▸ c.in_ok-second.ensures.counts ▸ c.in_ok-wide.ensures.counts ▸ c.in_ok-scheme.ensures ▸
    (simp (to_z-of_z w64 c.args.start c.ranges.start) at c.in_ok-before.ensures.counts) ▸
    (simp (to_z-of_z w64 c.args.end c.ranges.end) at c.in_ok-after.ensures.counts)) c.in_err-line.ensures.counts)

pub returns : goal.returns
returns g c = ends (first _ c.in_ok-front.ensures ▸ c.in_ok-first.ensures.counts ▸ c.in_ok-second.ensures.counts ▸ c.in_ok-wide.ensures.counts ▸ c.in_ok-scheme.ensures ▸
    (simp (to_z-of_z w64 c.args.start c.ranges.start) at c.in_ok-before.ensures.counts) ▸ (simp (to_z-of_z w64 c.args.end c.ranges.end) at c.in_ok-after.ensures.counts)) c.in_ok-line.ensures.counts
