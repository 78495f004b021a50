use Rattle.std.specs.Prelude.{IfOk, IfErr}
use Rattle.std.proofs.Common.{◌≡◌, ◌∙◌, List, ℕ, Ok, Err, ap, subst, refl}
use Rattle.oas_num.specs.Written.{IsWritten, IsCutOff}
use Rattle.oas_info.specs.declared.info.Info.{Info}
use Rattle.oas_command.specs.Info.{info_lines}
use Rattle.oas_command.specs.Lines.{line_of}
use Rattle.oas_command.proofs.RunLemmas.{result_after, done, delivers, tells}
use Rattle.oas_command.proofs.runs.info.info_telling.Goals as goal

pub returns-in-Ok : goal.returns-in-Ok
returns-in-Ok g c =
    let refusal = c.no_memory.result in
    (Ok c.in-Ok.layout, Err refusal, Err refusal, c.refuse.ensures.status, c.in-Ok.ensures, (c.no_memory.ensures.why, c.no_memory.ensures.place ∙ c.at.ensures), (refl, refl), c.refuse.ensures.tells)

pub returns-in-Ok-facts_and_text : goal.returns-in-Ok-facts_and_text
returns-in-Ok-facts_and_text g c =
    let info = c.in-Ok-facts_and_text.field-0-0 in
    let written = c.write_line-written.result in
    let wrote = c.write_line-written.ensures in
    let out = c.args.out.now in
    let after = c.write_line-written.new.writer in
    let lines : line_of c.as_slice.result.now ≡ info_lines c.args.form info = ap line_of (c.as_slice.ensures.value ∙ c.in-Ok-facts_and_text.ensures.text) in
    let whole = subst (λ (t : List ℕ). IfOk written (IsWritten g.W.Device.calls out t after)) lines wrote.written in
    let cut = subst (λ (t : List ℕ). IfErr written (IsCutOff g.W.Device.calls out t after)) lines wrote.refused in (
      Ok c.in-Ok.layout,
      Ok info,
      result_after {T = Info} info written,
      done {T = Info} info written _ c.conclude.ensures.answers,
      c.in-Ok.ensures,
      c.in-Ok-facts_and_text.ensures.facts,
      delivers {T = Info} info g.W.Device.calls (info_lines c.args.form) written out after whole cut,
      tells {T = Info} info g.K.Sink.given g.K.Sink.failures c.args.name.now c.args.told.now written c.conclude.new.told c.conclude.ensures.ends,
    )
