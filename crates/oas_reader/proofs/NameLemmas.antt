-- What name records name, and which of them are refused.
use Rattle.std.proofs.Common.{◌≡◌, ◌≢◌, ℕ, List, [], ◌∷◌, ◌++◌, refl, sym, ◌∙◌, ap, subst, ◌⊎◌, inl, inr, arith, Bool, true, false, not, cond}
use Rattle.std.specs.Prelude.{Option, None, Some, unwrap_or, nat_eq}
use Rattle.std.specs.Cmp.Lexicographic.{bytes_decides}
use Rattle.std.proofs.lemmas.Bool.Decides.{nat_tests}
use Rattle.oas_num.specs.declared.refusals.Why.{Why}
use Rattle.oas_num.specs.declared.refusals.Why.TheVariants.{MixedNumbering, NumberTwice}
use Rattle.oas_record.specs.declared.records.Record.{Record}
use Rattle.oas_drawing.specs.Reasons.{first_of}
use Rattle.oas_reader.specs.declared.names.Numbering.{Numbering}
use Rattle.oas_reader.specs.declared.names.Numbering.TheVariants.{Implicit, Explicit}
use Rattle.oas_reader.specs.Names.{same_string, numbering_given, numbering_after, numbering_of, next_number, named_after, named, name_of, is_mixed, is_other, naming_reason}
use Rattle.oas_reader.specs.Names.{reason_given, name_reason, AllowedNames}
use Rattle.oas_reader.specs.Laws.NameLaws.{HasValidName, HasNumbering, other_numbering, NumberingIsOfEach, StringIsGiven, NoStringIsGiven, MixedWhere, TwiceWhere}
use Rattle.oas_reader.proofs.NameTables.{first_false}

-- ---- what the records name

-- the numbering of allowed records is that of each
is_same : (numbering f : Numbering) → is_mixed (Some numbering) f ≡ false → f ≡ numbering
is_same Implicit Implicit h = refl
is_same Implicit Explicit h = cc
is_same Explicit Implicit h = cc
is_same Explicit Explicit h = refl

numbering_past : (given : Record → Option (List ℕ × Option ℕ)) (r : Record) (rs : List Record) (numbering : Numbering) → HasNumbering given rs numbering → HasNumbering given (r ∷ rs) numbering
numbering_past given r rs numbering h = record {
  after = r ∷ h.after;
  by = h.by;
  before = h.before;
  string = h.string;
  said = h.said;
  split = ap (λ xs. r ∷ xs) h.split;
  gave =
      h.gave;
  numbering_is = h.numbering_is;
}

pub numbering_found : (given : Record → Option (List ℕ × Option ℕ)) (rs : List Record) (numbering : Numbering) → numbering_of given rs ≡ Some numbering → HasNumbering given rs numbering
numbering_found given [] numbering h = cc
numbering_found given (r ∷ rs) numbering h =
    elim (given r) as (λ o. given r ≡ o → numbering_after o (numbering_of given rs) ≡ Some numbering → HasNumbering given (r ∷ rs) numbering) [
      | None ↦ λ e k. numbering_past given r rs numbering (numbering_found given rs numbering k)
      | Some g ↦ λ e k. record { after = []; by = r; before = rs; string = g.0; said = g.1; split = refl; gave = e; numbering_is = (cc) }
    ] refl h

numbering_stays : (o : Option (List ℕ × Option ℕ)) (had : Option Numbering) (numbering : Numbering) (next : ℕ) (names : List (ℕ × List ℕ)) → had ≡ Some numbering
    → reason_given same_string had next names o ≡ None → numbering_after o had ≡ Some numbering
numbering_stays None had numbering next names e none = e
numbering_stays (Some g) had numbering next names e none =
    let one : is_mixed had (numbering_given g.1) ≡ false = first_false _ _ _ _ none in
    ap (λ f. Some f) (is_same numbering (numbering_given g.1) (subst (λ (x : Option Numbering). is_mixed x (numbering_given g.1) ≡ false) e one))

numbering_at : (given : Record → Option (List ℕ × Option ℕ)) (rs : List Record) (numbering : Numbering) (after : List Record) (by : Record) (before : List Record) (string : List ℕ)
    (said : Option ℕ) → AllowedNames same_string given rs →
    rs ≡ after ++ by ∷ before → given by ≡ Some (string, said) → numbering_given said ≡ numbering → numbering_of given rs ≡ Some numbering
numbering_at given [] numbering [] by before string said allowed split gave is = cc
numbering_at given [] numbering (a ∷ after) by before string said allowed split gave is = cc
numbering_at given (r ∷ rs) numbering [] by before string said allowed split gave is =
    let one : r ≡ by = cc in
    ap (λ o. numbering_after o (numbering_of given rs)) (ap given one ∙ gave) ∙ ap (λ f. Some f) is
numbering_at given (r ∷ rs) numbering (a ∷ after) by before string said allowed split gave is =
    let rest : rs ≡ after ++ by ∷ before = cc in
    numbering_stays (given r) (numbering_of given rs) numbering (next_number given rs) (named given rs) (numbering_at given rs numbering after by before string said allowed.0 rest gave is) allowed.1

numbering_only : (given : Record → Option (List ℕ × Option ℕ)) (rs : List Record) (numbering : Numbering) → AllowedNames same_string given rs → HasNumbering given rs numbering
    → numbering_of given rs ≡ Some numbering
numbering_only given rs numbering allowed h = numbering_at given rs numbering h.after h.by h.before h.string h.said allowed h.split h.gave h.numbering_is

pub numbering_of_each : (given : Record → Option (List ℕ × Option ℕ)) → NumberingIsOfEach given
numbering_of_each given rs numbering allowed = (numbering_found given rs numbering, numbering_only given rs numbering allowed)

-- ---- the string of a number

name_past : (given : Record → Option (List ℕ × Option ℕ)) (r : Record) (rs : List Record) (number : ℕ) (string : List ℕ) → HasValidName given rs number string → HasValidName given (r ∷ rs) number string
name_past given r rs number string h = record { after = r ∷ h.after; by = h.by; before = h.before; said = h.said; split = ap (λ xs. r ∷ xs) h.split; gave = h.gave; number_is = h.number_is }

-- what is found after one more name is that one, or was there before
at_head : (names : List (ℕ × List ℕ)) (n m : ℕ) (s t : List ℕ) → name_of ((m, s) ∷ names) n ≡ Some t → ((n ≡ m) × (s ≡ t)) ⊎ (name_of names n ≡ Some t)
at_head names n m s t h =
    elim (nat_eq n m) as (λ b. nat_eq n m ≡ b → cond b (Some s) (name_of names n) ≡ Some t → ((n ≡ m) × (s ≡ t)) ⊎ (name_of names n ≡ Some t)) [
      | true ↦ λ e k. inl (grind (arith, nat_tests), (cc))
      | false ↦ λ e k. inr k
    ] refl h

head_is : (names : List (ℕ × List ℕ)) (n m : ℕ) (s : List ℕ) → n ≡ m → name_of ((m, s) ∷ names) n ≡ Some s
head_is names n m s e = grind (arith, nat_tests)

pub string_found : (given : Record → Option (List ℕ × Option ℕ)) (rs : List Record) (number : ℕ) (string : List ℕ) → name_of (named given rs) number ≡ Some string → HasValidName given rs number string
string_found given [] number string h = cc
string_found given (r ∷ rs) number string h =
    elim (given r) as (λ o. given r ≡ o → name_of (named_after o (next_number given rs) (named given rs)) number ≡ Some string → HasValidName given (r ∷ rs) number string) [
      | None ↦ λ e k. name_past given r rs number string (string_found given rs number string k)
      | Some g ↦ λ e k. elim (at_head (named given rs) number (unwrap_or g.1 (next_number given rs)) g.0 string k) [
        | inl w ↦ record { after = []; by = r; before = rs; said = g.1; split = refl; gave = e ∙ ap (λ (s : List ℕ). Some (s, g.1)) w.1; number_is = w.0 }
        | inr w ↦ name_past given r rs number string (string_found given rs number string w)
      ]
    ] refl h

second_false : (a b : Bool) (w x : Why) → first_of ((a, w) ∷ (b, x) ∷ []) ≡ None → b ≡ false
second_false a false w x h = refl
second_false false true w x h = cc
second_false true true w x h = cc

-- a string that isn't another one is the same
same_had : (o : Option (List ℕ)) (had string : List ℕ) → o ≡ Some had → is_other same_string o string ≡ false → string ≡ had
same_had None had string e h = cc
same_had (Some x) had string e h =
    let is : x ≡ had = cc in
    let yes : same_string x string ≡ true = elim (same_string x string) as (λ b. not b ≡ false → b ≡ true) [ true ↦ λ k. refl | false ↦ λ k. sym k ] h in
    sym ((bytes_decides x string).0 yes) ∙ is

string_stays : (o : Option (List ℕ × Option ℕ)) (numbering : Option Numbering) (next : ℕ) (names : List (ℕ × List ℕ)) (number : ℕ) (string : List ℕ) → name_of names number ≡ Some string
    → reason_given same_string numbering next names o ≡ None → name_of (named_after o next names) number ≡ Some string
string_stays None numbering next names number string h none = h
string_stays (Some g) numbering next names number string h none =
    let two : is_other same_string (name_of names (unwrap_or g.1 next)) g.0 ≡ false =
    second_false (is_mixed numbering (numbering_given g.1)) (is_other same_string (name_of names (unwrap_or g.1 next)) g.0) MixedNumbering NumberTwice none in
    elim (nat_eq number (unwrap_or g.1 next)) as (λ b. nat_eq number (unwrap_or g.1 next) ≡ b → cond b (Some g.0) (name_of names number) ≡ Some string) [
      | true ↦ λ e. let n : number ≡ unwrap_or g.1 next = grind (arith, nat_tests) in ap (λ s. Some s) (same_had (name_of names (unwrap_or g.1 next)) string g.0 (ap (name_of names) (sym n) ∙ h) two)
      | false ↦ λ e. h
    ] refl

string_at : (given : Record → Option (List ℕ × Option ℕ)) (rs : List Record) (number : ℕ) (string : List ℕ) (after : List Record) (by : Record) (before : List Record) (said : Option ℕ)
    → AllowedNames same_string given rs →
    rs ≡ after ++ by ∷ before → given by ≡ Some (string, said) → number ≡ unwrap_or said (next_number given before) → name_of (named given rs) number ≡ Some string
string_at given [] number string [] by before said allowed split gave is = cc
string_at given [] number string (a ∷ after) by before said allowed split gave is = cc
string_at given (r ∷ rs) number string [] by before said allowed split gave is =
    let one : r ≡ by = cc in
    let rest : rs ≡ before = cc in
    ap (λ o. name_of (named_after o (next_number given rs) (named given rs)) number) (ap given one ∙ gave) ∙
    head_is (named given rs) number (unwrap_or said (next_number given rs)) string (is ∙ ap (λ xs. unwrap_or said (next_number given xs)) (sym rest))
string_at given (r ∷ rs) number string (a ∷ after) by before said allowed split gave is =
    let rest : rs ≡ after ++ by ∷ before = cc in
    string_stays (given r) (numbering_of given rs) (next_number given rs) (named given rs) number string (string_at given rs number string after by before said allowed.0 rest gave is) allowed.1

string_only : (given : Record → Option (List ℕ × Option ℕ)) (rs : List Record) (number : ℕ) (string : List ℕ) → AllowedNames same_string given rs → HasValidName given rs number string
    → name_of (named given rs) number ≡ Some string
string_only given rs number string allowed h = string_at given rs number string h.after h.by h.before h.said allowed h.split h.gave h.number_is

pub string_is_given : (given : Record → Option (List ℕ × Option ℕ)) → StringIsGiven given
string_is_given given rs number string allowed = (string_found given rs number string, string_only given rs number string allowed)

-- ---- numbers without a string

head_none : (names : List (ℕ × List ℕ)) (n m : ℕ) (s : List ℕ) → n ≡ m → name_of ((m, s) ∷ names) n ≡ None → ⊥
head_none names n m s e none = let some = head_is names n m s e in cc

tail_none : (o : Option (List ℕ × Option ℕ)) (next : ℕ) (names : List (ℕ × List ℕ)) (number : ℕ) → name_of (named_after o next names) number ≡ None → name_of names number ≡ None
tail_none None next names number h = h
tail_none (Some g) next names number h =
    elim (nat_eq number (unwrap_or g.1 next)) as (λ b. cond b (Some g.0) (name_of names number) ≡ None → name_of names number ≡ None) [
      | true ↦ λ k. cc
      | false ↦ λ k. k
    ] h

none_at : (given : Record → Option (List ℕ × Option ℕ)) (rs : List Record) (number : ℕ) (string : List ℕ) (after : List Record) (by : Record) (before : List Record) (said : Option ℕ) →
    rs ≡ after ++ by ∷ before → given by ≡ Some (string, said) → number ≡ unwrap_or said (next_number given before) → name_of (named given rs) number ≡ None → ⊥
none_at given [] number string [] by before said split gave is none = cc
none_at given [] number string (a ∷ after) by before said split gave is none = cc
none_at given (r ∷ rs) number string [] by before said split gave is none =
    let one : r ≡ by = cc in
    let rest : rs ≡ before = cc in
    head_none (named given rs) number (unwrap_or said (next_number given rs)) string (is ∙ ap (λ xs. unwrap_or said (next_number given xs)) (sym rest))
    (sym (ap (λ o. name_of (named_after o (next_number given rs) (named given rs)) number) (ap given one ∙ gave)) ∙ none)
none_at given (r ∷ rs) number string (a ∷ after) by before said split gave is none =
    let rest : rs ≡ after ++ by ∷ before = cc in
    none_at given rs number string after by before said rest gave is (tail_none (given r) (next_number given rs) (named given rs) number none)

pub no_string_is_given : (given : Record → Option (List ℕ × Option ℕ)) → NoStringIsGiven given
no_string_is_given given rs number = (
  λ none string h. none_at given rs number string h.after h.by h.before h.said h.split h.gave h.number_is none,
  λ no. elim (name_of (named given rs) number) as (λ o. name_of (named given rs) number ≡ o → o ≡ None) [
    | None ↦ λ e. refl
    | Some s ↦ λ e. absurd (no s (string_found given rs number s e))
  ] refl,
)

-- ---- which name records are refused

mixed_is : (numbering : Option Numbering) (f : Numbering) → is_mixed numbering f ≡ true → numbering ≡ Some (other_numbering f)
mixed_is None f h = cc
mixed_is (Some Implicit) Implicit h = cc
mixed_is (Some Implicit) Explicit h = refl
mixed_is (Some Explicit) Implicit h = refl
mixed_is (Some Explicit) Explicit h = cc

is_mixed-other : (f : Numbering) → is_mixed (Some (other_numbering f)) f ≡ true
is_mixed-other Implicit = refl
is_mixed-other Explicit = refl

mixed_true : (a b : Bool) → first_of ((a, MixedNumbering) ∷ (b, NumberTwice) ∷ []) ≡ Some MixedNumbering → a ≡ true
mixed_true true b h = refl
mixed_true false true h = cc
mixed_true false false h = cc

twice_first : (a b : Bool) → first_of ((a, MixedNumbering) ∷ (b, NumberTwice) ∷ []) ≡ Some NumberTwice → a ≡ false
twice_first false b h = refl
twice_first true b h = cc

twice_second : (a b : Bool) → first_of ((a, MixedNumbering) ∷ (b, NumberTwice) ∷ []) ≡ Some NumberTwice → b ≡ true
twice_second a true h = refl
twice_second true false h = cc
twice_second false false h = cc

no_other : (numbering : Option Numbering) (f : Numbering) → is_mixed numbering f ≡ false → numbering ≡ Some (other_numbering f) → ⊥
no_other numbering f h e = let yes = ap (λ (x : Option Numbering). is_mixed x f) e ∙ is_mixed-other f in cc

-- the reason for a record that gives this
reason_is : (given : Record → Option (List ℕ × Option ℕ)) (before : List Record) (r : Record) (string : List ℕ) (number : Option ℕ) → given r ≡ Some (string, number)
    → name_reason same_string given before r ≡ naming_reason same_string (numbering_of given before) (next_number given before) (named given before) string number
reason_is given before r string number e = ap (λ o. reason_given same_string (numbering_of given before) (next_number given before) (named given before) o) e

pub mixed_where : (given : Record → Option (List ℕ × Option ℕ)) → MixedWhere given
mixed_where given before r string number allowed e =
    let is = reason_is given before r string number e in (
      λ h. numbering_found given before (other_numbering (numbering_given number)) (mixed_is (numbering_of given before) (numbering_given number) (mixed_true _ _ (sym is ∙ h))),
      λ h. is ∙
          ap (λ b. first_of ((b, MixedNumbering) ∷ (is_other same_string (name_of (named given before) (unwrap_or number (next_number given before))) string, NumberTwice) ∷ []))
          (ap (λ (x : Option Numbering). is_mixed x (numbering_given number)) (numbering_only given before (other_numbering (numbering_given number)) allowed h)
          ∙ is_mixed-other (numbering_given number)),
    )

-- what another string is
other_had : (o : Option (List ℕ)) (string : List ℕ) → is_other same_string o string ≡ true → (had : List ℕ) × (o ≡ Some had) × (had ≢ string)
other_had None string h = cc
other_had (Some had) string h =
    (had, refl, λ e. let yes = (bytes_decides had string).1 e in let no : not (same_string had string) ≡ false = ap not yes in cc)

is_other-had : (o : Option (List ℕ)) (had string : List ℕ) → o ≡ Some had → had ≢ string → is_other same_string o string ≡ true
is_other-had None had string e ne = cc
is_other-had (Some x) had string e ne =
    let is : x ≡ had = cc in
    elim (same_string x string) as (λ b. same_string x string ≡ b → not b ≡ true) [
      | true ↦ λ k. absurd (ne (sym is ∙ (bytes_decides x string).0 k))
      | false ↦ λ k. refl
    ] refl

twice_of : (a b : Bool) → a ≡ false → b ≡ true → first_of ((a, MixedNumbering) ∷ (b, NumberTwice) ∷ []) ≡ Some NumberTwice
twice_of a b p q = ap (λ x. first_of ((x, MixedNumbering) ∷ (b, NumberTwice) ∷ [])) p ∙ ap (λ x. first_of ((false, MixedNumbering) ∷ (x, NumberTwice) ∷ [])) q

pub twice_where : (given : Record → Option (List ℕ × Option ℕ)) → TwiceWhere given
twice_where given before r string number allowed e =
    let is = reason_is given before r string number e in
    let m = unwrap_or number (next_number given before) in (
      λ h.
          let other = other_had (name_of (named given before) m) string (twice_second _ _ (sym is ∙ h)) in (
            λ numbering. no_other (numbering_of given before) (numbering_given number) (twice_first _ _ (sym is ∙ h))
                (numbering_only given before (other_numbering (numbering_given number)) allowed numbering),
            (other.0, string_found given before m other.0 other.1, other.2),
          ),
      λ h. is ∙
          twice_of (is_mixed (numbering_of given before) (numbering_given number)) (is_other same_string (name_of (named given before) m) string)
          (elim (is_mixed (numbering_of given before) (numbering_given number)) as (λ b. is_mixed (numbering_of given before) (numbering_given number) ≡ b → b ≡ false) [
            | true ↦ λ k. absurd (h.0 (numbering_found given before (other_numbering (numbering_given number)) (mixed_is (numbering_of given before) (numbering_given number) k)))
            | false ↦ λ k. refl
          ] refl)
          (is_other-had (name_of (named given before) m) h.1.0 string (string_only given before m h.1.0 allowed h.1.1) h.1.2),
    )

-- ---- more records

pub allowed_prefix : (given : Record → Option (List ℕ × Option ℕ)) (later before : List Record) → AllowedNames same_string given (later ++ before) → AllowedNames same_string given before
allowed_prefix given [] before allowed = allowed
allowed_prefix given (r ∷ later) before allowed = allowed_prefix given later before allowed.0

pub names_stay : (given : Record → Option (List ℕ × Option ℕ)) (later before : List Record) (number : ℕ) (string : List ℕ) → AllowedNames same_string given (later ++ before)
    → name_of (named given before) number ≡ Some string → name_of (named given (later ++ before)) number ≡ Some string
names_stay given [] before number string allowed h = h
names_stay given (r ∷ later) before number string allowed h =
    string_stays (given r) (numbering_of given (later ++ before)) (next_number given (later ++ before)) (named given (later ++ before)) number string
    (names_stay given later before number string allowed.0 h) allowed.1
