use Rattle.std.proofs.Common.{inr}
use Rattle.std.proofs.lemmas.Result.{err_from_is_err_and}
use Rattle.oas_peek.specs.Named.{named_record}
use Rattle.oas_narrow.specs.WideRecord.TheVariants.{Profile}
use Rattle.oas_prepare.proofs.AtHand.{named_read, stops_one}
use Rattle.oas_prepare.proofs.gathering.take_named.Goals as goal

pub returns-in_err-taken : goal.returns-in_err-taken
returns-in_err-taken g c =
    let p = err_from_is_err_and c.from_residual.result c.from_residual.ensures.1 in
    let at_hand = c.in-Some in
    rw (p.1, p.2) (inr (stops_one c.requires (named_read c.args.flag_in_end (rw c.ahead.ensures at at_hand.ensures) c.skip.ensures) c.in_err-taken.ensures.stopped))

pub returns-in-Some : goal.returns-in-Some
returns-in-Some g c =
    let at_hand = c.in-Some in
    record {
      next = Profile (named_record at_hand.found.element);
      read = named_read c.args.flag_in_end (rw c.ahead.ensures at at_hand.ensures) c.skip.ensures;
      taken = c.in_ok-taken.ensures.taken;
      same = c.in_ok-taken.ensures.same;
    }
