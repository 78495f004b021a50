use Rattle.std.proofs.Common.{inr}
use Rattle.std.proofs.lemmas.Result.{err_from_is_err_and}
use Rattle.oas_record.specs.declared.records.Record.TheVariants.{Rectangle}
use Rattle.oas_narrow.specs.WideRecord.TheVariants.{Profile}
use Rattle.oas_prepare.proofs.AtHand.{rectangle_read, stops_one}
use Rattle.oas_prepare.proofs.gathering.take_rectangle.Goals as goal

pub returns-in_err-take_rectangle : goal.returns-in_err-take_rectangle
returns-in_err-take_rectangle g c =
    let p = err_from_is_err_and c.from_residual.result c.from_residual.ensures.1 in
    rw (p.1, p.2) (inr (stops_one c.requires (rectangle_read c.args.flag_in_end (rw c.ahead.ensures at c.in-Some.ensures) c.skip.ensures) c.in_err-take_rectangle.ensures.stopped))

pub returns-in-Some : goal.returns-in-Some
returns-in-Some g c = record {
  next = Profile (Rectangle c.in-Some.found.rectangle);
  read = rectangle_read c.args.flag_in_end (rw c.ahead.ensures at c.in-Some.ensures) c.skip.ensures;
  taken = c.in_ok-take_rectangle.ensures.taken;
  same = c.in_ok-take_rectangle.ensures.same;
}
