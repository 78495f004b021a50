use Rattle.std.proofs.Common.{inr, ◌∙◌}
use Rattle.std.proofs.lemmas.Result.{err_from_is_err_and}
use Rattle.oas_record.specs.declared.records.Record.TheVariants.{Rectangle}
use Rattle.oas_file.proofs.Taking.{peeked_read}
use Rattle.oas_file.proofs.reading.take_found.Goals as goal

pub returns-in_err-take_rectangle : goal.returns-in_err-take_rectangle
returns-in_err-take_rectangle g c flag_in_end =
    let p = err_from_is_err_and c.from_residual.result c.from_residual.ensures.1 in
    rw (p.1, p.2) (inr (record {
      next = Rectangle c.args.found.rectangle;
      read = peeked_read flag_in_end c.requires.found c.skip.ensures;
      reason = λ records stands. let e = c.in_err-take_rectangle.ensures.refused records stands in (e.0 ∙ c.requires.place, e.1);
    }))

pub returns : goal.returns
returns g c flag_in_end = record {
  next = Rectangle c.args.found.rectangle;
  read = peeked_read flag_in_end c.requires.found c.skip.ensures;
  taken = c.in_ok-take_rectangle.ensures.taken;
  same = record { unit = c.in_ok-take_rectangle.ensures.unit; limits = c.in_ok-take_rectangle.ensures.limits; profile = c.in_ok-take_rectangle.ensures.profile };
}
