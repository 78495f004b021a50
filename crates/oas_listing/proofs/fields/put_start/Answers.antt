use Rattle.std.proofs.Common.{◌≡◌, List, ℕ, ◌∷◌, ◌++◌, flat_map, decimal, ap, ◌∙◌, append-nil}
use Rattle.std.specs.Fmt.{signed_decimal}
use Rattle.oas_num.proofs.PuttingLemmas.{first, ends}
use Rattle.oas_listing.proofs.FieldLemmas.{two_lists}
use Rattle.oas_listing.proofs.fields.put_start.Goals as goal

pub returns : goal.returns
returns g c =
    let values = flat_map (λ n. 32 ∷ decimal n) c.args.values.now in
    let signed = flat_map (λ z. 32 ∷ signed_decimal z) c.args.signed.now in
    let last : c.prepend_signed_numbers.new.self ≡ signed = c.prepend_signed_numbers.ensures.bytes ∙ ap (λ (b : List ℕ). signed ++ b) c.new-numbers.ensures ∙ append-nil signed in
    let all : c.as_slice.result.now ≡ values ++ signed = c.as_slice.ensures ∙ c.prepend_numbers.ensures.bytes ∙ ap (λ (b : List ℕ). values ++ b) last in
    rw (two_lists decimal signed_decimal c.args.values.now c.args.signed.now) (ends _ _ (first _ c.in_ok-put_all.ensures) (rw all at c.put_all-2.ensures))
