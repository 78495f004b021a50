-- Which number is recognized in the lines of runs.
use Rattle.std.proofs.Common.{◌≡◌, ℕ, ◌+◌, ◌/◌, ◌%◌, ◌<◌, ◌≤◌, ◌^◌, zero, suc, List, [], ◌∷◌, ◌++◌, length, drop, get_or, drop-cons, Option, Some, None, refl, sym, ap, ◌∙◌, add-one, arith, true}
use Rattle.std.specs.Prelude.{codes}
use Rattle.std.proofs.lemmas.Bool.{le-leb}
use Rattle.std.proofs.lemmas.Fmt.{decimal_digit, decimal_step, decimal_by_steps}
use Rattle.std.specs.Fmt.{decimal}
use Rattle.oas_num.specs.declared.refusals.Why.{Why}
use Rattle.oas_num.specs.declared.refusals.Why.TheVariants as why
use Rattle.oas_num.specs.Refusals.{number_of}
use Rattle.oas_command.specs.Lines.{refusal_line, not_profile_1_line}
use Rattle.oas_command.specs.Unopened.{unopened_line}
use Rattle.oas_explain.specs.declared.hearing.Place.{Place}
use Rattle.oas_explain.specs.declared.hearing.Place.TheVariants as place
use Rattle.oas_explain.specs.Hearing.{is_digit, hears, heard}

-- the place after these bytes
abbrev pub steps_all : Place → List ℕ → Place
steps_all p [] = p
steps_all p (b ∷ bs) = steps_all (hears p b) bs

pub next_heard : (line : List ℕ) (i : ℕ) (p : Place) (d : ℕ) → i < length line → steps_all p (drop i line) ≡ steps_all (hears p (get_or line i d)) (drop (i + 1) line)
next_heard line i p d lt = ap (steps_all p) (drop-cons line i d lt ∙ ap (λ (k : ℕ). get_or line i d ∷ drop k line) (sym (add-one i)))

appended : (p : Place) (a b : List ℕ) → steps_all p (a ++ b) ≡ steps_all (steps_all p a) b
appended p [] b = refl
appended p (x ∷ a) b = appended (hears p x) a b

-- no number goes on with these letters
after_d : (p : Place) → hears p 100 ≡ place.Elsewhere
after_d place.Elsewhere = refl
after_d place.Blank = refl
after_d (place.Number n) = refl
after_d (place.Behind n) = refl
after_d (place.BehindA n) = refl
after_d (place.BehindAt n) = refl
after_d (place.Offset n) = refl
after_d (place.Ended n) = refl

after_l : (p : Place) → hears p 108 ≡ place.Elsewhere
after_l place.Elsewhere = refl
after_l place.Blank = refl
after_l (place.Number n) = refl
after_l (place.Behind n) = refl
after_l (place.BehindA n) = refl
after_l (place.BehindAt n) = refl
after_l (place.Offset n) = refl
after_l (place.Ended n) = refl

before_number : (p : Place) (rest : List ℕ) → steps_all p (codes ": refused " ++ rest) ≡ steps_all place.Blank rest
before_number p rest = ap (λ (s : Place). steps_all (hears s 32) rest) (after_d (steps_all p (codes ": refuse")))

one_heard : (n : ℕ) (rest : List ℕ) → n < 10 → steps_all place.Blank (decimal n ++ rest) ≡ steps_all place.Blank ((48 + n) ∷ rest)
one_heard n rest low = ap (λ (ds : List ℕ). steps_all place.Blank (ds ++ rest)) (decimal_digit n low)

two_heard : (n : ℕ) (rest : List ℕ) → 10 ≤ n → n < 100 → steps_all place.Blank (decimal n ++ rest) ≡ steps_all place.Blank ((48 + n / 10) ∷ (48 + n % 10) ∷ rest)
two_heard n rest low high =
    ap (λ (ds : List ℕ). steps_all place.Blank (ds ++ rest))
    (decimal_step n low (omega (arith, high)) ∙ ap (λ (ds : List ℕ). ds ++ ((48 + n % 10) ∷ [])) (decimal_digit (n / 10) (omega (arith, high))))

digits_heard : (w : Why) (rest : List ℕ) → steps_all place.Blank (decimal (number_of w) ++ rest) ≡ steps_all (place.Number (number_of w)) rest
digits_heard why.Magic rest = one_heard 1 rest (omega arith)
digits_heard why.Truncated rest = one_heard 2 rest (omega arith)
digits_heard why.IntegerRange rest = one_heard 3 rest (omega arith)
digits_heard why.StringByte rest = one_heard 4 rest (omega arith)
digits_heard why.EmptyName rest = one_heard 5 rest (omega arith)
digits_heard why.FloatReal rest = one_heard 6 rest (omega arith)
digits_heard why.RealType rest = one_heard 7 rest (omega arith)
digits_heard why.Unit rest = one_heard 8 rest (omega arith)
digits_heard why.Version rest = one_heard 9 rest (omega arith)
digits_heard why.OffsetFlag rest = two_heard 10 rest (omega arith) (omega arith)
digits_heard (why.RecordLeftOut id) rest = two_heard 11 rest (omega arith) (omega arith)
digits_heard (why.UnknownRecord id) rest = two_heard 12 rest (omega arith) (omega arith)
digits_heard (why.OutOfPlace id) rest = two_heard 13 rest (omega arith) (omega arith)
digits_heard why.InfoByte rest = two_heard 14 rest (omega arith) (omega arith)
digits_heard why.ListKind rest = two_heard 15 rest (omega arith) (omega arith)
digits_heard why.PointCount rest = two_heard 16 rest (omega arith) (omega arith)
digits_heard why.RepetitionKind rest = two_heard 17 rest (omega arith) (omega arith)
digits_heard why.ModalUndefined rest = two_heard 18 rest (omega arith) (omega arith)
digits_heard why.Magnification rest = two_heard 19 rest (omega arith) (omega arith)
digits_heard why.Angle rest = two_heard 20 rest (omega arith) (omega arith)
digits_heard why.MixedNumbering rest = two_heard 21 rest (omega arith) (omega arith)
digits_heard why.NumberTwice rest = two_heard 22 rest (omega arith) (omega arith)
digits_heard why.CoordinateRange rest = two_heard 23 rest (omega arith) (omega arith)
digits_heard why.TooManyElements rest = two_heard 24 rest (omega arith) (omega arith)
digits_heard why.TooHeavy rest = two_heard 25 rest (omega arith) (omega arith)
digits_heard why.UnknownReference rest = two_heard 26 rest (omega arith) (omega arith)
digits_heard why.DuplicateCell rest = two_heard 27 rest (omega arith) (omega arith)
digits_heard why.EndLength rest = two_heard 28 rest (omega arith) (omega arith)
digits_heard why.ValidationScheme rest = two_heard 29 rest (omega arith) (omega arith)
digits_heard why.TrailingBytes rest = two_heard 30 rest (omega arith) (omega arith)
digits_heard why.InputTooLong rest = two_heard 31 rest (omega arith) (omega arith)
digits_heard why.Read rest = two_heard 32 rest (omega arith) (omega arith)
digits_heard why.Write rest = two_heard 33 rest (omega arith) (omega arith)
digits_heard why.Memory rest = two_heard 34 rest (omega arith) (omega arith)

behind_number : (n : ℕ) (rest : List ℕ) → steps_all (place.Number n) (codes " at " ++ rest) ≡ steps_all (place.Offset n) rest
behind_number n rest = refl

digit_is : (b : ℕ) → 48 ≤ b → b ≤ 57 → is_digit b ≡ true
digit_is b low high = rw (le-leb 48 b low, le-leb b 57 high) refl

one_digit : (n b : ℕ) → is_digit b ≡ true → hears (place.Offset n) b ≡ place.Offset n
one_digit n b digit = rw digit refl

digits_stay : (n at : ℕ) → at < 2 ^ 64 → steps_all (place.Offset n) (decimal at) ≡ place.Offset n
digits_stay n at below = decimal_by_steps (λ m ds. steps_all (place.Offset n) ds ≡ place.Offset n) last more at below
  where
    last : (m : ℕ) → m < 10 → steps_all (place.Offset n) ((48 + m) ∷ []) ≡ place.Offset n
    last m low = one_digit n (48 + m) (digit_is (48 + m) (omega arith) (omega (arith, low)))

    more : (m : ℕ) (ds : List ℕ) → 10 ≤ m → steps_all (place.Offset n) ds ≡ place.Offset n → steps_all (place.Offset n) (ds ++ ((48 + m % 10) ∷ [])) ≡ place.Offset n
    more m ds high stays =
        appended (place.Offset n) ds ((48 + m % 10) ∷ [])
        ∙ ap (λ (p : Place). hears p (48 + m % 10)) stays
        ∙ one_digit n (48 + m % 10) (digit_is (48 + m % 10) (omega arith) (omega arith))

line_ends : (n at : ℕ) → at < 2 ^ 64 → steps_all (place.Offset n) (decimal at ++ 10 ∷ []) ≡ place.Ended n
line_ends n at below =
    appended (place.Offset n) (decimal at) (10 ∷ [])
    ∙ ap (λ (p : Place). hears p 10) (digits_stay n at below)

refusal_heard : (name : List ℕ) (w : Why) (at : ℕ) → at < 2 ^ 64 → steps_all place.Elsewhere (refusal_line name (number_of w) at) ≡ place.Ended (number_of w)
refusal_heard name w at below =
    let number = number_of w in
    appended place.Elsewhere name (codes ": refused " ++ (decimal number ++ (codes " at " ++ (decimal at ++ 10 ∷ []))))
    ∙ before_number (steps_all place.Elsewhere name) (decimal number ++ (codes " at " ++ (decimal at ++ 10 ∷ [])))
    ∙ digits_heard w (codes " at " ++ (decimal at ++ 10 ∷ []))
    ∙ behind_number number (decimal at ++ 10 ∷ [])
    ∙ line_ends number at below

unopened_heard : (name : List ℕ) → heard (steps_all place.Elsewhere (unopened_line name)) ≡ None
unopened_heard name =
    ap heard (appended place.Elsewhere name (codes ": cannot be opened\n"))
    ∙ ap (λ (p : Place). heard (hears p 10)) (after_d (steps_all (steps_all place.Elsewhere name) (codes ": cannot be opene")))

not_profile_1_heard : (name : List ℕ) → heard (steps_all place.Elsewhere (not_profile_1_line name)) ≡ None
not_profile_1_heard name =
    ap heard (appended place.Elsewhere name (codes ": not profile 1 canonical\n"))
    ∙ ap (λ (p : Place). heard (hears p 10)) (after_l (steps_all (steps_all place.Elsewhere name) (codes ": not profile 1 canonica")))

nothing_left : (line : List ℕ) (i : ℕ) → length line ≤ i → drop i line ≡ []
nothing_left [] zero le = refl
nothing_left [] (suc i) le = refl
nothing_left (b ∷ bs) zero le = absurd (omega (arith, le))
nothing_left (b ∷ bs) (suc i) le = nothing_left bs i (omega (arith, le))

-- where the loop ends
module _ (line : List ℕ) (p : Place) (i : ℕ) (r : Option ℕ) (is : r ≡ heard p) (le : length line ≤ i) (so_far : steps_all p (drop i line) ≡ steps_all place.Elsewhere line) where
  whole : r ≡ heard (steps_all place.Elsewhere line)
  whole = is ∙ ap heard (sym (ap (steps_all p) (nothing_left line i le)) ∙ so_far)

  pub refusal_named : (name : List ℕ) (w : Why) (at : ℕ) → at < 2 ^ 64 → line ≡ refusal_line name (number_of w) at → r ≡ Some (number_of w)
  refusal_named name w at below same = whole ∙ ap (λ (l : List ℕ). heard (steps_all place.Elsewhere l)) same ∙ ap heard (refusal_heard name w at below)

  pub unopened_named : (name : List ℕ) → line ≡ unopened_line name → r ≡ None
  unopened_named name same = whole ∙ ap (λ (l : List ℕ). heard (steps_all place.Elsewhere l)) same ∙ unopened_heard name

  pub not_profile_1_named : (name : List ℕ) → line ≡ not_profile_1_line name → r ≡ None
  not_profile_1_named name same = whole ∙ ap (λ (l : List ℕ). heard (steps_all place.Elsewhere l)) same ∙ not_profile_1_heard name

  pub nothing_named : line ≡ [] → r ≡ None
  nothing_named same = whole ∙ ap (λ (l : List ℕ). heard (steps_all place.Elsewhere l)) same
