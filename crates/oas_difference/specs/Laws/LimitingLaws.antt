-- What follows for a sink that passes on the first lines.
use Rattle.std.specs.Prelude.{◌≡◌, ℕ, zero, suc, ◌||◌, Bool, true, false, List, []}
use Rattle.std.proofs.Common.{inl, refl, sym, ap, ◌∙◌, subst}
use Rattle.oas_num.specs.Writing.{Puts}
use Rattle.oas_num.proofs.WritingLemmas.{Puts-none}
use Rattle.oas_difference.specs.declared.limiting.Limited.{Limited}
use Rattle.oas_difference.specs.Limited.{first_lines, is_longer}
use Rattle.oas_difference.specs.Limiting.{lines_left, Passes}

pub none_first : (n : ℕ) → first_lines n [] ≡ []
none_first zero = refl
none_first (suc n) = refl

pub none_left : (n : ℕ) → lines_left n [] ≡ n
none_left zero = refl
none_left (suc n) = refl

pub none_longer : (n : ℕ) → is_longer n [] ≡ false
none_longer zero = refl
none_longer (suc n) = refl

pub or_false : (b : Bool) → (b || false) ≡ b
or_false true = refl
or_false false = refl

-- if nothing was put, nothing was given
pub Passes-none : {K : Type 0} (given : K → List ℕ → K → Type 0) (failures : K → ℕ) (s : Limited K) → Passes given failures s [] s
Passes-none given failures s = record {
  same_sink = refl;
  puts = subst (λ (bs : List ℕ). Puts given failures s.sink.now bs s.sink.now) (sym (none_first s.left)) (Puts-none given failures s.sink.now);
  left = λ e. sym (none_left s.left);
  cut = λ e. sym (ap (λ (b : Bool). s.is_cut || b) (none_longer s.left) ∙ or_false s.is_cut);
  fault = λ e. inl e;
}
