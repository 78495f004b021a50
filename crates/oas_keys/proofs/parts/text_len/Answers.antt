use Rattle.std.proofs.lemmas.List.{length-drop}
use Rattle.std.proofs.lemmas.Grind.{common_steps}
use Rattle.std.proofs.Common.{◌≡◌, ◌∙◌, ◌-◌, length, take, drop, ap, arith}
use Rattle.oas_keys.specs.Reading.{text_len}
use Rattle.oas_keys.proofs.PartLemmas.{len_behind, len_fits}
use Rattle.oas_keys.proofs.parts.text_len.Goals as goal

pub overflow_add-result : goal.overflow_add-result
overflow_add-result c =
    let all : take (length c.args.bytes.now - c.steps_len-whole.result) (drop c.steps_len-whole.result c.args.bytes.now) ≡ drop c.steps_len-whole.result c.args.bytes.now = grind (arith, common_steps) in
    let is = c.first_zero.ensures.len ∙ ap text_len all in
    let fits = len_fits (drop c.steps_len-whole.result c.args.bytes.now) in
    let left = length-drop c.steps_len-whole.result c.args.bytes.now in
    omega (arith, c.steps_len-whole.ensures.fits)

pub returns : goal.returns
returns c =
    let all : take (length c.args.bytes.now - c.steps_len-whole.result) (drop c.steps_len-whole.result c.args.bytes.now) ≡ drop c.steps_len-whole.result c.args.bytes.now = grind (arith, common_steps) in
    let is = c.first_zero.ensures.len ∙ ap text_len all in
    let on = len_behind c.args.bytes.now c.steps_len-whole.result c.steps_len-whole.ensures.fits c.steps_len-whole.ensures.none in
    record { len = omega arith }
