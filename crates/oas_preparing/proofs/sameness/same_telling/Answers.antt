use Rattle.std.proofs.Common.{Ok}
use Rattle.oas_preparing.specs.Answers.{answered}
use Rattle.oas_preparing.specs.Sameness.{sameness_text}
use Rattle.oas_preparing.proofs.AnswerLemmas.{delivers}
use Rattle.oas_preparing.proofs.sameness.same_telling.Goals as goal

pub returns-in-Ok : goal.returns-in-Ok
returns-in-Ok g c =
    let found = c.in-Ok.comparison in
    let written = c.write_sameness-written.result in
    let wrote = c.write_sameness-written.ensures in (
      Ok found,
      answered found written,
      c.conclude_both.ensures.answers,
      c.in-Ok.ensures,
      delivers found g.W.Device.calls sameness_text written c.args.out.now c.write_sameness-written.new.out wrote.written wrote.refused,
      c.conclude_both.ensures.ends,
    )
