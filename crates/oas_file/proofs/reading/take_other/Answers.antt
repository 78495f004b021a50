use Rattle.std.proofs.Common.{inr, ◌∙◌}
use Rattle.std.proofs.lemmas.Result.{err_from_is_err_and}
use Rattle.oas_file.proofs.Taking.{figure_read, hand_read}
use Rattle.oas_file.proofs.reading.take_other.Goals as goal

pub returns-in_err-take : goal.returns-in_err-take
returns-in_err-take g c =
    let p = err_from_is_err_and c.from_residual.result c.from_residual.ensures.1 in
    let at_hand = c.in-Some in
    rw (p.1, p.2) (inr (record {
      next = at_hand.figure.record;
      read = figure_read c.args.flag_in_end (rw c.ahead.ensures at at_hand.ensures) c.skip.ensures;
      reason = λ records stands. let e = c.in_err-take.ensures.refused records stands in (e.0 ∙ c.requires, e.1);
    }))

pub returns-in-Some : goal.returns-in-Some
returns-in-Some g c =
    let at_hand = c.in-Some in
    record {
      next = at_hand.figure.record;
      read = figure_read c.args.flag_in_end (rw c.ahead.ensures at at_hand.ensures) c.skip.ensures;
      taken = c.in_ok-take.ensures.taken;
      same = record { unit = c.in_ok-take.ensures.unit; limits = c.in_ok-take.ensures.limits; profile = c.in_ok-take.ensures.profile };
    }

pub returns-in_err-take-2 : goal.returns-in_err-take-2
returns-in_err-take-2 g c =
    let p = err_from_is_err_and c.from_residual-in_err-take-2.result c.from_residual-in_err-take-2.ensures.1 in
    let at_hand = c.in-Some-find_record in
    rw (p.1, p.2) (inr (record {
      next = at_hand.found.record;
      read = hand_read (rw c.ahead-2.ensures at at_hand.ensures) c.skip-in-Some-find_record.ensures;
      reason = λ records stands. let e = c.in_err-take-2.ensures.refused records stands in (e.0 ∙ c.requires, e.1);
    }))

pub returns-in-Some-find_record : goal.returns-in-Some-find_record
returns-in-Some-find_record g c =
    let at_hand = c.in-Some-find_record in
    record {
      next = at_hand.found.record;
      read = hand_read (rw c.ahead-2.ensures at at_hand.ensures) c.skip-in-Some-find_record.ensures;
      taken = c.in_ok-take-2.ensures.taken;
      same = record { unit = c.in_ok-take-2.ensures.unit; limits = c.in_ok-take-2.ensures.limits; profile = c.in_ok-take-2.ensures.profile };
    }

pub returns-in_err-take-3 : goal.returns-in_err-take-3
returns-in_err-take-3 g c =
    let p = err_from_is_err_and c.from_residual-in_err-take-3.result c.from_residual-in_err-take-3.ensures.1 in
    rw (p.1, p.2) (inr (record {
      next = c.in-Some-2.record;
      read = rw c.in-Some-2.is at c.in_ok-record.ensures;
      reason = λ records stands. let e = c.in_err-take-3.ensures.refused records stands in (e.0 ∙ c.requires, e.1);
    }))
