use Rattle.std.specs.Prelude.{IfOk, IfErr}
use Rattle.std.proofs.Common.{◌≡◌, List, ℕ, Result, Ok, Err, ap, subst, refl}
use Rattle.oas_num.specs.declared.refusals.Refusal.{Refusal}
use Rattle.oas_num.specs.Written.{IsWritten, IsCutOff}
use Rattle.oas_elements.specs.Contents.{Contents, meaning_of}
use Rattle.oas_markers.specs.DifferenceOptions.{difference_by}
use Rattle.oas_markers.specs.Choice.{chosen}
use Rattle.oas_markers.specs.Markers.{markers}
use Rattle.oas_markers.specs.Written.{IsMarked, IsMarkedUpTo}
use Rattle.oas_command.specs.Diff.{diff_text}
use Rattle.oas_command.specs.Marking.{marks}
use Rattle.oas_command.proofs.MarkLemmas.{marks_differ, marks_follow}
use Rattle.oas_command.proofs.RunLemmas.{result_after, tells}
use Rattle.oas_command.proofs.runs.mark.marking_telling.Goals as goal

pub returns-in-Ok-write_difference : goal.returns-in-Ok-write_difference
returns-in-Ok-write_difference g c =
    let both = c.in-Ok.ensures in
    let a = c.in-Ok.before in
    let b = c.in-Ok.after in
    let found : Contents × Contents = (a, b) in
    let options = c.args.options in
    let count = c.in-Ok-write_difference.length in
    let out = c.args.out.now in
    let after = c.write_difference.new.writer in
    let text : difference_by options a.profile (meaning_of a) (meaning_of b) ≡ diff_text options found = ap (λ p. difference_by options p (meaning_of a) (meaning_of b)) both.0.by in
    let whole = subst (λ (t : List ℕ). IsWritten g.W.Device.calls out t after count) text c.in-Ok-write_difference.ensures.written in
    let marked = c.write_markers-marked.result in
    let old = c.args.markers.now in
    let new = c.write_markers-marked.new.writer in
    let choice = options.choice in
    let most = c.args.most in
    let same : markers most choice.layers a.profile (chosen choice (meaning_of a)) (chosen choice (meaning_of b)) ≡ marks options most found =
    ap (λ p. markers most choice.layers p (chosen choice (meaning_of a)) (chosen choice (meaning_of b))) both.0.by in
    let all = subst (λ (t : List ℕ). IfOk marked (IsMarked g.M.Device.calls old t new)) same c.write_markers-marked.ensures.written in
    let cut = subst (λ (t : List ℕ). IfErr marked (IsMarkedUpTo g.M.Device.calls old t new)) same c.write_markers-marked.ensures.refused in (
      Ok found,
      Ok found,
      result_after {T = Contents × Contents} found marked,
      marks_differ found options g.W.Device.calls out after count marked _ _ whole c.status_of_length.ensures c.conclude.ensures.answers,
      both,
      (refl, whole.took),
      marks_follow found options most g.M.Device.calls marked old new all cut,
      tells {T = Contents × Contents} found g.K.Sink.given g.K.Sink.failures c.args.name_of_markers.now c.args.told.now marked c.conclude.new.told c.conclude.ensures.ends,
    )

pub returns-in-Ok : goal.returns-in-Ok
returns-in-Ok g c =
    let both = c.in-Ok.ensures in
    let a = c.in-Ok.before in
    let b = c.in-Ok.after in
    let found : Contents × Contents = (a, b) in
    let options = c.args.options in
    let refusal = c.in-Err.refusal in
    let failed : Result (Contents × Contents) Refusal = Err refusal in
    let old = c.args.markers.now in
    let text : difference_by options a.profile (meaning_of a) (meaning_of b) ≡ diff_text options found = ap (λ p. difference_by options p (meaning_of a) (meaning_of b)) both.0.by in
    let cut = subst (λ (t : List ℕ). IsCutOff g.W.Device.calls c.args.out.now t c.write_difference.new.writer refusal) text c.in-Err.ensures.refused in
    (Ok found, failed, failed, c.refuse.ensures.status, both, cut, (refl {a = failed}, refl {a = old}), c.refuse.ensures.tells)
