use Rattle.std.proofs.Common.{refl, sym, subst}
use Rattle.oas_narrow.specs.declared.places.Rejection.{Rejection}
use Rattle.oas_prepare.specs.Run.{Stops}
use Rattle.oas_prepare.proofs.Refusing.{magic_stops, magic_taken, start_stops, unit_stops, started}
use Rattle.oas_prepare.proofs.heads.read_wide_head.Goals as goal

pub returns-in-Err : goal.returns-in-Err
returns-in-Err g c = λ limits dropping.
    subst (λ (e : Rejection). Stops limits dropping (g.S.Source.script c.args.source.now) e (g.S.Source.script c.read_magic.new.source)) (sym c.rejected.ensures) (magic_stops c.in-Err.why c.in-Err.ensures)

pub returns-in-Err-read : goal.returns-in-Err-read
returns-in-Err-read g c = λ limits dropping.
    subst (λ (e : Rejection). Stops limits dropping (g.S.Source.script c.args.source.now) e (g.S.Source.script c.read.new.source)) (sym c.rejected-in-Err-read.ensures)
    (start_stops (magic_taken c.in_default.ensures) c.in-Err-read.why c.in-Err-read.ensures)

pub returns-in-Some : goal.returns-in-Some
returns-in-Some g c = started (magic_taken c.in_default.ensures) c.in-Ok.ensures c.in-Some.ensures.some

pub returns-in-None : goal.returns-in-None
returns-in-None g c = λ limits dropping.
    subst (λ (e : Rejection). Stops limits dropping (g.S.Source.script c.args.source.now) e (g.S.Source.script c.read.new.source)) (sym c.rejected-in-None.ensures)
    (unit_stops (magic_taken c.in_default.ensures) c.in-Ok.ensures (c.in-None.ensures.none refl))
