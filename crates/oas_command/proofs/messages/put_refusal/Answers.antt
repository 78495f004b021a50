use Rattle.std.proofs.Common.{◌≡◌, ◌∙◌, ap}
use Rattle.std.specs.Prelude.{decimal}
use Rattle.std.proofs.lemmas.Result.{err_from_is_err_and}
use Rattle.oas_num.specs.Refusals.{number_of}
use Rattle.oas_num.proofs.PuttingLemmas.{first, fails_at, ends, ◌▸◌}
use Rattle.oas_command.proofs.messages.put_refusal.Goals as goal

pub returns-in_err-put_all-2 : goal.returns-in_err-put_all-2
returns-in_err-put_all-2 g c =
    let p = err_from_is_err_and c.from_residual-in_err-put_all-2.result c.from_residual-in_err-put_all-2.ensures.1 in
    let e : c.as_bytes.result.now ≡ c.args.name.now = c.as_bytes.ensures.value in
    rw (p.1, ← e) (fails_at _ (first _ c.in_ok-put_all.ensures) c.in_err-put_all-2.ensures)

pub returns-in_err-put_all-3 : goal.returns-in_err-put_all-3
returns-in_err-put_all-3 g c =
    let p = err_from_is_err_and c.from_residual-in_err-put_all-3.result c.from_residual-in_err-put_all-3.ensures.1 in
    let e : c.as_bytes.result.now ≡ c.args.name.now = c.as_bytes.ensures.value in
    let n : c.as_bytes-2.result.now ≡ decimal (number_of c.args.refusal.why) = c.as_bytes-2.ensures.value ∙ c.format.ensures.text ∙ ap decimal c.number.ensures in
    rw (p.1, ← e, ← n) (fails_at _ (first _ c.in_ok-put_all.ensures ▸ c.in_ok-put_all-2.ensures) c.in_err-put_all-3.ensures)

pub returns-in_err-put_all-4 : goal.returns-in_err-put_all-4
returns-in_err-put_all-4 g c =
    let p = err_from_is_err_and c.from_residual-in_err-put_all-4.result c.from_residual-in_err-put_all-4.ensures.1 in
    let e : c.as_bytes.result.now ≡ c.args.name.now = c.as_bytes.ensures.value in
    let n : c.as_bytes-2.result.now ≡ decimal (number_of c.args.refusal.why) = c.as_bytes-2.ensures.value ∙ c.format.ensures.text ∙ ap decimal c.number.ensures in
    rw (p.1, ← e, ← n) (fails_at _ (first _ c.in_ok-put_all.ensures ▸ c.in_ok-put_all-2.ensures ▸ c.in_ok-put_all-3.ensures) c.in_err-put_all-4.ensures)

pub returns-in_err-put_all-5 : goal.returns-in_err-put_all-5
returns-in_err-put_all-5 g c =
    let p = err_from_is_err_and c.from_residual-in_err-put_all-5.result c.from_residual-in_err-put_all-5.ensures.1 in
    let e : c.as_bytes.result.now ≡ c.args.name.now = c.as_bytes.ensures.value in
    let n : c.as_bytes-2.result.now ≡ decimal (number_of c.args.refusal.why) = c.as_bytes-2.ensures.value ∙ c.format.ensures.text ∙ ap decimal c.number.ensures in
    let t : c.as_bytes-3.result.now ≡ decimal c.args.refusal.at = c.as_bytes-3.ensures.value ∙ c.format-2.ensures.text in
    rw (p.1, ← e, ← n, ← t) (fails_at _ (first _ c.in_ok-put_all.ensures ▸ c.in_ok-put_all-2.ensures ▸ c.in_ok-put_all-3.ensures ▸ c.in_ok-put_all-4.ensures) c.in_err-put_all-5.ensures)

pub returns : goal.returns
returns g c =
    let e : c.as_bytes.result.now ≡ c.args.name.now = c.as_bytes.ensures.value in
    let n : c.as_bytes-2.result.now ≡ decimal (number_of c.args.refusal.why) = c.as_bytes-2.ensures.value ∙ c.format.ensures.text ∙ ap decimal c.number.ensures in
    let t : c.as_bytes-3.result.now ≡ decimal c.args.refusal.at = c.as_bytes-3.ensures.value ∙ c.format-2.ensures.text in
    rw (← e, ← n, ← t) (ends _ _ (first _ c.in_ok-put_all.ensures ▸ c.in_ok-put_all-2.ensures ▸ c.in_ok-put_all-3.ensures ▸ c.in_ok-put_all-4.ensures ▸ c.in_ok-put_all-5.ensures) c.put_all-6.ensures)
