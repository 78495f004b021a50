-- The element that a placement or a text at hand gives by its own fields.
use Rattle.std.proofs.Common.{◌≡◌, ℕ, ℤ, ◌<◌, ◌^◌, Bool, true, false, List, length, Option, Some, refl, sym, ap, ◌∙◌, arith}
use Rattle.std.specs.Borrow.{Bor}
use Rattle.std.specs.Prelude.{◌&&◌}
use Rattle.oas_num.specs.Texts.{IsName, IsLabel}
use Rattle.oas_record.specs.declared.placements.Turn.TheVariants.{Quarters}
use Rattle.oas_elements.specs.declared.element.Element.TheVariants.{Placement, Text}
use Rattle.oas_elements.specs.declared.element.Turns.{Turns}
use Rattle.oas_elements.specs.declared.element.Turns.TheVariants.{T0, T1, T2, T3}
use Rattle.oas_elements.specs.Element.{turn_count}
use Rattle.oas_elements.specs.Grid.{is_coordinate}
use Rattle.oas_writing.specs.Turns.{turned}
use Rattle.oas_peek.specs.declared.named.Given.TheVariants.{Bytes}
use Rattle.oas_peek.specs.declared.named.NamedOnce.{NamedOnce}
use Rattle.oas_peek.specs.declared.named.NamedOnce.TheVariants as once
use Rattle.oas_judge.specs.Peeked.{IsNamedBy}

turned_back : (turns : Turns) → turned (Quarters (turn_count turns)) ≡ turns
turned_back T0 = refl
turned_back T1 = refl
turned_back T2 = refl
turned_back T3 = refl

both_within : (a b : Bool) → a ≡ true → b ≡ true → (a && b) ≡ true
both_within true b e f = f
both_within false b e f = cc

-- a placement by the name of its cell
pub placement_named : (next : NamedOnce) (name : Bor (List ℕ)) (quarters : ℕ) (flip : Bool) (x y : Option ℤ) (turns : Turns) (at : ℤ × ℤ) → next ≡ once.Placement (Bytes name) quarters flip x y
    → turn_count turns ≡ quarters → (x ≡ Some at.0) × (y ≡ Some at.1) × (is_coordinate at.0 ≡ true) × (is_coordinate at.1 ≡ true) → length name.now < 2 ^ 30 → IsName name.now
    → IsNamedBy next (Placement name.now at.0 at.1 turns flip)
placement_named next name quarters flip x y turns at is turned_is there light class =
    let t : turned (Quarters quarters) ≡ turns = ap (λ (n : ℕ). turned (Quarters n)) (sym turned_is) ∙ turned_back turns in
    rw (is, there.0, there.1) (record {
      drawn = rw t refl;
      is = rw turned_is refl;
      fit = record { points = refl; inside = both_within (is_coordinate at.0) (is_coordinate at.1) there.2 there.3; light = omega (arith, light) };
      fits = class;
    })

-- a text by its string
pub text_named : (next : NamedOnce) (string : Bor (List ℕ)) (textlayer texttype : ℕ) (x y : Option ℤ) (at : ℤ × ℤ) → next ≡ once.Text (Bytes string) (Some textlayer) (Some texttype) x y
    → textlayer < 2 ^ 64 → texttype < 2 ^ 64 → (x ≡ Some at.0) × (y ≡ Some at.1) × (is_coordinate at.0 ≡ true) × (is_coordinate at.1 ≡ true) → length string.now < 2 ^ 30 → IsLabel string.now
    → IsNamedBy next (Text string.now textlayer texttype at.0 at.1)
text_named next string textlayer texttype x y at is small little there light class =
    rw (is, there.0, there.1) (record {
      drawn = refl;
      is = refl;
      fit = record { points = refl; inside = both_within (is_coordinate at.0) (is_coordinate at.1) there.2 there.3; light = omega (arith, light) };
      fits = record { string_fits = class; textlayer_fits = small; texttype_fits = little };
    })
