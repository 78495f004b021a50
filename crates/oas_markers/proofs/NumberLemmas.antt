-- Where a side ends, in microns.
use Rattle.std.proofs.Common.{◌≡◌, ℕ, ℤ, ◌∙◌, ap, SFits, to_z, of_z, w64}
use Rattle.std.specs.Int.{w128}
use Rattle.std.specs.Prelude.{pos, ◌+ℤ◌}
use Rattle.std.proofs.lemmas.Int.{to_z-of_z}
use Rattle.oas_num.specs.Ratio.{Ratio}
use Rattle.oas_difference.specs.Microns.{microns}

pub far_of : (unit : Ratio) (x y s : ℤ) (n : ℕ) → SFits w64 x → SFits w128 y → SFits w128 s → SFits w128 (y +ℤ s) → y ≡ to_z w64 (of_z w64 x) → s ≡ pos n →
    microns unit (to_z w128 (of_z w128 (to_z w128 (of_z w128 y) +ℤ to_z w128 (of_z w128 s)))) ≡ microns unit (x +ℤ pos n)
far_of unit x y s n f g h k e p =
    let a = to_z-of_z w128 y g in
    let b = to_z-of_z w128 s h in
    ap (microns unit) ((λ i. to_z w128 (of_z w128 (a i +ℤ b i))) ∙ to_z-of_z w128 (y +ℤ s) k ∙ (λ i. (e ∙ to_z-of_z w64 x f) i +ℤ p i))
