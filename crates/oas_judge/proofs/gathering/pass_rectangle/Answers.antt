use Rattle.std.proofs.Common.{false, ap, arith}
use Rattle.std.specs.Option.{option_map}
use Rattle.oas_record.specs.declared.records.Record.TheVariants.{Rectangle as OneRectangle}
use Rattle.oas_judge.specs.declared.series.Series.{Series}
use Rattle.oas_judge.proofs.SeriesItems.{rectangle_weighs, like_rectangle, record_some, IsBehind, series_more}
use Rattle.oas_judge.proofs.gathering.pass_rectangle.Goals as goal

pub returns-clause-more : goal.returns-clause-more
returns-clause-more c first h =
    let found = c.in-Some.found in
    let is = rw c.behind.ensures at c.in-Some.ensures in
    let seen = c.see_rectangle.ensures.yes c.if-not-see_rectangle.false _ is in
    let room = c.may_have.ensures.0 c.if-not-may_have.false in
    let b : IsBehind c.args.ahead.now c.args.room.elements c.args.room.weight c.args.judge.now c.args.series.now (OneRectangle c.in-Some.found.rectangle) c.in-Some.found.length 1 c.with.result c.see_rectangle.new.self = record {
      within = is.within;
      spelled = λ in_end. record { holds = λ e. cc; spelled = is.spelled in_end };
      seen = seen;
      weighs = rectangle_weighs found.rectangle seen.element seen.is;
      few = room.0;
      light = room.1;
      is = c.with.ensures;
    } in
    series_more c.args.ahead.now c.args.room.elements c.args.room.weight first c.args.judge.now c.args.series.now (OneRectangle found.rectangle) found.length 1 c.with.result c.see_rectangle.new.self b (option_map (λ q. OneRectangle q) c.args.last.now) h (like_rectangle c.args.last.now found.rectangle)

pub returns-clause-longer : goal.returns-clause-longer
returns-clause-longer c done =
    let is = rw c.behind.ensures at c.in-Some.ensures in
    omega (arith, record_some _ _ _ is.within (is.spelled false), ap (λ (v : Series). v.length) c.with.ensures)
