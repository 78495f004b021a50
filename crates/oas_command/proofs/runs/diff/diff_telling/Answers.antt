use Rattle.std.specs.Prelude.{IfOk, IfErr}
use Rattle.std.proofs.Common.{◌≡◌, List, ℕ, Ok, ap, subst}
use Rattle.oas_num.specs.Written.{IsWritten, IsCutOff}
use Rattle.oas_elements.specs.Contents.{Contents, meaning_of}
use Rattle.oas_markers.specs.DifferenceOptions.{difference_by}
use Rattle.oas_command.specs.Diff.{diff_text}
use Rattle.oas_command.proofs.DiffLemmas.{differs}
use Rattle.oas_command.proofs.RunLemmas.{result_after, delivers, tells}
use Rattle.oas_command.proofs.runs.diff.diff_telling.Goals as goal

pub returns-in-Ok : goal.returns-in-Ok
returns-in-Ok g c =
    let both = c.in-Ok.ensures in
    let a = c.in-Ok.before in
    let b = c.in-Ok.after in
    let found : Contents × Contents = (a, b) in
    let options = c.args.options in
    let text : difference_by options a.profile (meaning_of a) (meaning_of b) ≡ diff_text options found = ap (λ p. difference_by options p (meaning_of a) (meaning_of b)) both.0.by in
    let written = c.write_difference-written.result in
    let out = c.args.out.now in
    let after = c.write_difference-written.new.writer in
    let whole = subst (λ (t : List ℕ). IfOk written (IsWritten g.W.Device.calls out t after)) text c.write_difference-written.ensures.written in
    let cut = subst (λ (t : List ℕ). IfErr written (IsCutOff g.W.Device.calls out t after)) text c.write_difference-written.ensures.refused in (
      Ok found,
      result_after {T = Contents × Contents} found written,
      differs options g.W.Device.calls out after found written _ _ whole c.status_of_length.ensures c.conclude.ensures.answers,
      both,
      delivers {T = Contents × Contents} found g.W.Device.calls (diff_text options) written out after whole cut,
      tells {T = Contents × Contents} found g.K.Sink.given g.K.Sink.failures c.args.name_a.now c.args.told.now written c.conclude.new.told c.conclude.ensures.ends,
    )
