use Rattle.std.proofs.Common.{inr, sym, subst, rules}
use Rattle.std.proofs.lemmas.Result.{err_from_is_err_and}
use Rattle.oas_narrow.specs.WideFiles.{IsInner}
use Rattle.oas_narrow.specs.WideRecord.TheVariants.{Profile}
use Rattle.oas_prepare.proofs.AtHand.{figure_read, plain_inner, inner_read, stops_one}
use Rattle.oas_prepare.proofs.gathering.take_other.Goals as goal

pub returns-in_err-take_plain : goal.returns-in_err-take_plain
returns-in_err-take_plain g c =
    let p = err_from_is_err_and c.from_residual.result c.from_residual.ensures.1 in
    rw (p.1, p.2) (inr (stops_one c.requires (figure_read c.args.flag_in_end (rw c.ahead.ensures at c.in-Some.ensures) c.skip.ensures) c.in_err-take_plain.ensures.stopped))

pub returns-in-Some : goal.returns-in-Some
returns-in-Some g c = record {
  next = Profile c.in-Some.figure.record;
  read = figure_read c.args.flag_in_end (rw c.ahead.ensures at c.in-Some.ensures) c.skip.ensures;
  taken = c.in_ok-take_plain.ensures.taken;
  same = c.in_ok-take_plain.ensures.same;
}

pub returns-in_err-take_plain-in-Profile : goal.returns-in_err-take_plain-in-Profile
returns-in_err-take_plain-in-Profile g c =
    let p = err_from_is_err_and c.from_residual-in_err-take_plain-in-Profile.result c.from_residual-in_err-take_plain-in-Profile.ensures.1 in
    let read = rw c.in-Profile.is at c.in_ok-other.ensures in
    rw (p.1, p.2) (inr (stops_one c.requires (inner_read (plain_inner c.in-Profile.record) read) c.in_err-take_plain-in-Profile.ensures.stopped))

pub returns-in_err-take-in_default-2 : goal.returns-in_err-take-in_default-2
returns-in_err-take-in_default-2 g c =
    let p = err_from_is_err_and c.from_residual-in_err-take-in_default-2.result c.from_residual-in_err-take-in_default-2.ensures.1 in
    let inner : IsInner c.in_default-2.other = search rules in
    rw (p.1, p.2) (inr (stops_one c.requires (inner_read (subst IsInner (sym c.in_default-2.other-is) inner) c.in_ok-other.ensures) c.in_err-take-in_default-2.ensures.stopped))
