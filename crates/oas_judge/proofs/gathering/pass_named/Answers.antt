use Rattle.std.proofs.Common.{false, ap, arith, sym, ◌∙◌}
use Rattle.std.specs.Option.{option_map}
use Rattle.oas_peek.specs.Named.{named_record}
use Rattle.oas_writing.proofs.Taking.{named_inner}
use Rattle.oas_judge.specs.declared.series.Series.{Series}
use Rattle.oas_judge.proofs.SeriesItems.{named_weighs, record_some, IsBehind, series_more}
use Rattle.oas_judge.proofs.gathering.pass_named.Goals as goal

pub returns-clause-more : goal.returns-clause-more
returns-clause-more c first h =
    let element = c.in-Some.found.element in
    let length = c.in-Some.found.length in
    let weight = c.in-Some-weight_named.weight in
    let is = rw c.behind.ensures at c.in-Some.ensures in
    let seen = c.see_named.ensures.yes c.if-not-see_named.false _ is in
    let room = c.may_have.ensures.0 c.if-not-may_have.false in
    let b : IsBehind c.args.ahead.now c.args.room.elements c.args.room.weight c.args.judge.now c.args.series.now (named_record c.in-Some.found.element) c.in-Some.found.length c.in-Some-weight_named.weight c.with.result c.see_named.new.self = record {
      within = is.within;
      spelled = λ in_end. record { holds = named_inner element; spelled = is.spelled in_end };
      seen = seen;
      weighs = named_weighs element weight (sym c.weight_named.ensures ∙ c.in-Some-weight_named.is) seen.element seen.is;
      few = room.0;
      light = room.1;
      is = c.with.ensures;
    } in
    series_more c.args.ahead.now c.args.room.elements c.args.room.weight first c.args.judge.now c.args.series.now (named_record element) length weight c.with.result c.see_named.new.self b (option_map named_record c.args.last.now) h (c.is_like_named.ensures c.if-not-is_like_named.false)

pub returns-clause-longer : goal.returns-clause-longer
returns-clause-longer c done =
    let is = rw c.behind.ensures at c.in-Some.ensures in
    omega (arith, record_some _ _ _ is.within (is.spelled false), ap (λ (v : Series). v.length) c.with.ensures)
