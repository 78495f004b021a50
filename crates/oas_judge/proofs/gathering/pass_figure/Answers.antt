use Rattle.std.proofs.Common.{false, ap, arith}
use Rattle.std.specs.Option.{option_map}
use Rattle.oas_judge.specs.declared.series.Series.{Series}
use Rattle.oas_judge.specs.Series.{figure_record}
use Rattle.oas_judge.proofs.SeriesItems.{record_some, IsBehind, series_more}
use Rattle.oas_judge.proofs.gathering.pass_figure.Goals as goal

pub returns-clause-more : goal.returns-clause-more
returns-clause-more c first h =
    let r = c.in-Some.found.record in
    let length = c.in-Some.found.length in
    let weight = c.in-Some-see_figure.weight in
    let is = rw c.behind.ensures at (rw c.in-Some.is at c.peek_figure-next.ensures) in
    let seen = c.in-Some-see_figure.ensures.some _ is in
    let room = c.may_have.ensures.0 c.if-not-may_have.false in
    let b : IsBehind c.args.ahead.now c.args.room.elements c.args.room.weight c.args.judge.now c.args.series.now c.in-Some.found.record c.in-Some.found.length c.in-Some-see_figure.weight c.with.result c.see_figure.new.self = record {
      within = is.within;
      spelled = λ in_end. record { holds = is.inner; spelled = is.spelled in_end };
      seen = seen.0;
      weighs = seen.1;
      few = room.0;
      light = omega (arith, c.in-Some-see_figure.ensures.light, c.requires);
      is = c.with.ensures;
    } in
    rw c.in-Some.is (series_more c.args.ahead.now c.args.room.elements c.args.room.weight first c.args.judge.now c.args.series.now r length weight c.with.result c.see_figure.new.self b
    (option_map figure_record c.args.last.now) h (c.is_like_figure.ensures c.if-not-is_like_figure.false))

pub returns-clause-longer : goal.returns-clause-longer
returns-clause-longer c done =
    let is = rw c.behind.ensures at (rw c.in-Some.is at c.peek_figure-next.ensures) in
    omega (arith, record_some _ _ _ is.within (is.spelled false), ap (λ (v : Series). v.length) c.with.ensures)
