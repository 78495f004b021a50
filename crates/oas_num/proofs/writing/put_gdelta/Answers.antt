use Rattle.std.proofs.Common.{◌≡◌, ap, ◌∙◌, w64}
use Rattle.std.proofs.lemmas.Int.{to_z-of_z}
use Rattle.std.proofs.lemmas.Result.{err_from_is_err_and}
use Rattle.oas_num.specs.Style.{code}
use Rattle.oas_num.specs.Writing.{shortest_gdelta}
use Rattle.oas_num.proofs.WritingLemmas.{front_fails, Writes-then}
use Rattle.oas_num.proofs.writing.put_gdelta.Goals as goal

pub returns-in_err-put_unsigned : goal.returns-in_err-put_unsigned
unfolding shortest_gdelta
returns-in_err-put_unsigned g c =
    let p = err_from_is_err_and c.from_residual.result c.from_residual.ensures.1 in
    let e : c.coded.result ≡ code c.args.dx = c.coded.ensures ∙ ap code (to_z-of_z w64 c.args.dx c.ranges.dx) in
    rw (p.1, ← e) (front_fails _ _ _ _ _ _ c.in_err-put_unsigned.ensures)

pub returns : goal.returns
unfolding shortest_gdelta
returns g c =
    let e : c.coded.result ≡ code c.args.dx = c.coded.ensures ∙ ap code (to_z-of_z w64 c.args.dx c.ranges.dx) in
    let f : c.coded-2.result ≡ code c.args.dy = c.coded-2.ensures ∙ ap code (to_z-of_z w64 c.args.dy c.ranges.dy) in
    rw (← e, ← f) (Writes-then _ _ _ _ _ _ _ _ c.in_ok-put_unsigned.ensures c.put_unsigned-2.ensures)
