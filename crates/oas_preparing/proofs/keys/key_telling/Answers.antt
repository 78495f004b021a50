use Rattle.std.proofs.Common.{◌≡◌, List, ℕ, Result, Ok, Err, refl, ap, subst, ◌∙◌}
use Rattle.oas_prepare.specs.Report.{Report}
use Rattle.oas_prepare.specs.Rejection.{Rejection}
use Rattle.oas_preparing.specs.Answers.{reported, answered, key_text}
use Rattle.oas_preparing.specs.Runs.{status_of, Ends}
use Rattle.oas_preparing.proofs.AnswerLemmas.{delivers, reports}
use Rattle.oas_preparing.proofs.keys.key_telling.Goals as goal

pub returns-in-Ok : goal.returns-in-Ok
returns-in-Ok g c =
    let key = rw c.in-Ok.is at c.in_ok-key.ensures in
    let found : List ℕ × Report = c.in-Ok.found in
    let written = c.write_named_key-written.result in
    let wrote = c.write_named_key-written.ensures in
    let told : c.answered.result ≡ reported (answered found written) = c.answered.ensures ∙ reports found.0 found.1 written in
    record {
      again = key.again;
      last = key.last;
      gives = key.gives;
      ran = (
        Ok found,
        answered found written,
        c.conclude.ensures.answers ∙ ap status_of told,
        key.ran,
        delivers found g.W.Device.calls (key_text c.args.label) written c.args.out.now c.write_named_key-written.new.out wrote.written wrote.refused,
        subst (λ (r : Result Report Rejection). Ends g.K.Sink.given g.K.Sink.failures c.args.name.now c.args.told.now r c.conclude.new.told) told c.conclude.ensures.ends,
      );
    }

pub returns-in-Err : goal.returns-in-Err
returns-in-Err g c =
    let key = rw c.in-Err.is at c.in_ok-key.ensures in
    record {
      again = key.again;
      last = key.last;
      gives = key.gives;
      ran = (Err c.in-Err.rejection, Err c.in-Err.rejection, c.reject.ensures.status, key.ran, (refl, refl), c.reject.ensures.tells);
    }
