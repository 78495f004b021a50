-- The box of a CTRAPEZOID.
use Rattle.std.proofs.Common.{◌≡◌, ℕ, ◌<◌, ◌≤◌, ◌^◌, Bool, true, false, inl, inr, refl, ap, ◌∙◌, eq-eqb, arith}
use Rattle.std.proofs.lemmas.Bool.{le-leb, false_from_ne_true}
use Rattle.std.proofs.lemmas.Bool.Decides.{nat_tests}
use Rattle.std.specs.Prelude.{◌&&◌, nat_le, if◌then◌else◌, Option, None, Some, IfSome, IsSomeAnd, Result, Ok, Err}
use Rattle.std.specs.Option.{option_or}
use Rattle.oas_num.specs.declared.refusals.Why.TheVariants.{ModalUndefined, InfoByte, CoordinateRange}
use Rattle.oas_trapezoids.specs.declared.sides.Sides.{Sides}
use Rattle.oas_trapezoids.specs.Sides.{box_of, IsTooLong, Agree}
use Rattle.oas_standard.specs.declared.trapezoids.NamedTrapezoid.{NamedTrapezoid}
use Rattle.oas_standard.specs.declared.reasons.WideWhy.{WideWhy}
use Rattle.oas_standard.specs.declared.reasons.WideWhy.TheVariants as wide
use Rattle.oas_trapezoids.specs.Tracked.{Tracked}
use Rattle.oas_trapezoids.specs.Trapezoids.{agrees, is_short, checked, box_if}
use Rattle.oas_trapezoids.proofs.Grids.{both}

when_true : (b : Bool) (x y : Result Sides WideWhy) → b ≡ true → (if b then x else y) ≡ x
when_true true x y h = refl
when_true false x y h = cc

when_false : (b : Bool) (x y : Result Sides WideWhy) → b ≡ false → (if b then x else y) ≡ y
when_false true x y h = cc
when_false false x y h = refl

and_true : (a b : Bool) → a ≡ true → b ≡ true → (a && b) ≡ true
and_true true b h k = k
and_true false b h k = cc

-- ---- the kind

pub no_kind : (s : Tracked) (kind : ℕ) (t : NamedTrapezoid) → 26 ≤ kind → box_if s kind t ≡ Err wide.CtrapezoidType
no_kind s kind t le = when_true (nat_le 26 kind) (Err wide.CtrapezoidType) _ (le-leb 26 kind le)

not_above : (kind : ℕ) → kind < 26 → nat_le 26 kind ≡ false
not_above kind lt = grind (arith, nat_tests)

-- for a kind that there is
of_kind : (s : Tracked) (kind : ℕ) (t : NamedTrapezoid) → kind < 26 → box_if s kind t ≡ checked t (box_of kind (option_or t.width s.width) (option_or t.height s.height))
of_kind s kind t lt = when_false (nat_le 26 kind) (Err wide.CtrapezoidType) _ (not_above kind lt)

-- ---- its sides

short : (box : Sides) → box.width < 2 ^ 64 → box.height < 2 ^ 64 → is_short box ≡ true
short box w h = grind (arith, nat_tests)

long : (box : Sides) → IsTooLong box → is_short box ≡ false
long box (inl w) = grind (arith, nat_tests)
long box (inr h) = grind (arith, nat_tests)

long_checked : (t : NamedTrapezoid) (o : Option Sides) → IsSomeAnd o (λ s. IsTooLong s) → checked t o ≡ Err (wide.Profile CoordinateRange)
long_checked t None h = absurd h
long_checked t (Some box) h = when_false (is_short box) _ (Err (wide.Profile CoordinateRange)) (long box h)

agrees_true : (side : ℕ) (o : Option ℕ) → IfSome o (λ given. given ≡ side) → agrees side o ≡ true
agrees_true side None h = refl
agrees_true side (Some given) h = eq-eqb given side h

agrees_back : (side : ℕ) (o : Option ℕ) → agrees side o ≡ true → IfSome o (λ given. given ≡ side)
agrees_back side None h = tt
agrees_back side (Some given) h = grind (arith, nat_tests)

both_agree : (box : Sides) (w h : Option ℕ) → Agree box w h → (agrees box.width w && agrees box.height h) ≡ true
both_agree box w h a = and_true (agrees box.width w) (agrees box.height h) (agrees_true box.width w a.0) (agrees_true box.height h a.1)

not_both : (box : Sides) (w h : Option ℕ) → ¬ Agree box w h → (agrees box.width w && agrees box.height h) ≡ false
not_both box w h n =
    false_from_ne_true (agrees box.width w && agrees box.height h) (λ e.
    let b = both (agrees box.width w) (agrees box.height h) e in
    n (agrees_back box.width w b.0, agrees_back box.height h b.1))

some_checked : (t : NamedTrapezoid) (box : Sides) → box.width < 2 ^ 64 → box.height < 2 ^ 64 →
    checked t (Some box) ≡ (if agrees box.width t.width && agrees box.height t.height then Ok box else Err (wide.Profile InfoByte))
some_checked t box w h = when_true (is_short box) _ (Err (wide.Profile CoordinateRange)) (short box w h)

-- ---- together

pub undefined_side : (s : Tracked) (kind : ℕ) (t : NamedTrapezoid) → kind < 26 → box_of kind (option_or t.width s.width) (option_or t.height s.height) ≡ None →
    box_if s kind t ≡ Err (wide.Profile ModalUndefined)
undefined_side s kind t lt none = of_kind s kind t lt ∙ ap (checked t) none

pub long_side : (s : Tracked) (kind : ℕ) (t : NamedTrapezoid) → kind < 26 → IsSomeAnd (box_of kind (option_or t.width s.width) (option_or t.height s.height)) (λ b. IsTooLong b) →
    box_if s kind t ≡ Err (wide.Profile CoordinateRange)
long_side s kind t lt h = of_kind s kind t lt ∙ long_checked t (box_of kind (option_or t.width s.width) (option_or t.height s.height)) h

pub other_side : (s : Tracked) (kind : ℕ) (t : NamedTrapezoid) (box : Sides) → kind < 26 → box_of kind (option_or t.width s.width) (option_or t.height s.height) ≡ Some box →
    box.width < 2 ^ 64 → box.height < 2 ^ 64 → ¬ Agree box t.width t.height → box_if s kind t ≡ Err (wide.Profile InfoByte)
other_side s kind t box lt e w h n =
    of_kind s kind t lt ∙ ap (checked t) e ∙ some_checked t box w h
    ∙ when_false (agrees box.width t.width && agrees box.height t.height) (Ok box) (Err (wide.Profile InfoByte)) (not_both box t.width t.height n)

pub right_sides : (s : Tracked) (kind : ℕ) (t : NamedTrapezoid) (box : Sides) → kind < 26 → box_of kind (option_or t.width s.width) (option_or t.height s.height) ≡ Some box →
    box.width < 2 ^ 64 → box.height < 2 ^ 64 → Agree box t.width t.height → box_if s kind t ≡ Ok box
right_sides s kind t box lt e w h a =
    of_kind s kind t lt ∙ ap (checked t) e ∙ some_checked t box w h
    ∙ when_true (agrees box.width t.width && agrees box.height t.height) (Ok box) (Err (wide.Profile InfoByte)) (both_agree box t.width t.height a)
