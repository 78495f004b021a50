use Rattle.std.proofs.Common.{inr, ◌∙◌}
use Rattle.std.proofs.lemmas.Result.{err_from_is_err_and}
use Rattle.oas_peek.specs.Named.{named_record}
use Rattle.oas_file.proofs.Taking.{named_read}
use Rattle.oas_file.proofs.reading.take_named.Goals as goal

pub returns-in_err-taken : goal.returns-in_err-taken
returns-in_err-taken g c =
    let p = err_from_is_err_and c.from_residual.result c.from_residual.ensures.1 in
    let at_hand = c.in-Some in
    rw (p.1, p.2) (inr (record {
      next = named_record at_hand.found.element;
      read = named_read c.args.flag_in_end (rw c.ahead.ensures at at_hand.ensures) c.skip.ensures;
      reason = λ records stands. let e = c.in_err-taken.ensures.refused records stands in (e.0 ∙ c.requires, e.1);
    }))

pub returns-in-Some : goal.returns-in-Some
returns-in-Some g c =
    let at_hand = c.in-Some in
    record {
      next = named_record at_hand.found.element;
      read = named_read c.args.flag_in_end (rw c.ahead.ensures at at_hand.ensures) c.skip.ensures;
      taken = c.in_ok-taken.ensures.taken;
      same = record { unit = c.in_ok-taken.ensures.unit; limits = c.in_ok-taken.ensures.limits; profile = c.in_ok-taken.ensures.profile };
    }
