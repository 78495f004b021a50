use Rattle.std.proofs.Common.{◌≡◌, List, ℕ, [], ◌∷◌, ◌++◌, flat_map, decimal, ap, ◌∙◌, append-nil, rules, w64}
use Rattle.std.specs.Fmt.{signed_decimal}
use Rattle.std.proofs.lemmas.Int.{to_z-of_z}
use Rattle.std.proofs.lemmas.Result.{err_from_is_err_and}
use Rattle.oas_elements.specs.Element.{turn_count}
use Rattle.oas_num.proofs.PuttingLemmas.{first, begins, fails_at, ends, ◌▸◌}
use Rattle.oas_listing.specs.Listing.{flip_count}
use Rattle.oas_listing.proofs.FieldLemmas.{placement_fields}
use Rattle.oas_listing.proofs.elements.put_placement.Goals as goal

pub returns-in_err-put_all : goal.returns-in_err-put_all
returns-in_err-put_all g c =
    let p = err_from_is_err_and c.from_residual.result c.from_residual.ensures.1 in
    rw p.1 (fails_at _ (begins _ _) c.in_err-put_all.ensures)

pub returns-in_err-put_field : goal.returns-in_err-put_field
returns-in_err-put_field g c =
    let p = err_from_is_err_and c.from_residual-in_err-put_field.result c.from_residual-in_err-put_field.ensures.1 in
    rw p.1 (fails_at _ (first _ c.in_ok-put_all.ensures) c.in_err-put_field.ensures)

pub returns : goal.returns
returns g c =
    let turns : c.turn_number.result ≡ turn_count c.args.turns = c.turn_number.ensures in
    let flip : c.flip_number.result ≡ flip_count c.args.flip = c.flip_number.ensures in
    let place = flat_map (λ z. 32 ∷ signed_decimal z) (c.args.x ∷ c.args.y ∷ []) in
    let turned = flat_map (λ n. 32 ∷ decimal n) (c.turn_number.result ∷ c.flip_number.result ∷ []) in
    let last : c.prepend_numbers.new.self ≡ turned = c.prepend_numbers.ensures.bytes ∙ ap (λ (b : List ℕ). turned ++ b) c.new-numbers.ensures ∙ append-nil turned in
    let all : c.as_slice.result.now ≡ place ++ turned =
    c.as_slice.ensures ∙ simp (to_z-of_z w64 c.args.x (search rules), to_z-of_z w64 c.args.y (search rules)) at c.prepend_signed_numbers.ensures.bytes ∙ ap (λ (b : List ℕ). place ++ b) last in
    rw (placement_fields c.args.cell.now c.args.x c.args.y (turn_count c.args.turns) (flip_count c.args.flip), ← turns, ← flip)
    (ends _ _ (first _ c.in_ok-put_all.ensures ▸ c.in_ok-put_field.ensures) (rw all at c.put_all-2.ensures))
