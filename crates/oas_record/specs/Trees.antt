-- Kinds that are made of kinds: one after another, optional ones, one of several, what they denote, what must meet a
-- condition.
use Rattle.std.proofs.Common.{◌≡◌, ℕ, Bool, true, false, inl, inr, List, [], ◌∷◌, Option, sym, ap, subst, ◌∙◌}
use Rattle.std.specs.Prelude.{◌==◌, ◌||◌}
use Rattle.oas_num.specs.declared.refusals.Why.{Why}
use Rattle.oas_num.specs.declared.refusals.Why.TheVariants.{Write, InfoByte}
use Rattle.oas_num.specs.Grammar.{IsPair, IsSuch, IsImage, IsThere, IsCount, IsByte}
use Rattle.oas_num.specs.Combinators.{IsExactly, IsEither, IsNever, OneSpelling, IsWithin}
use Rattle.oas_num.specs.Laws.CombinatorLaws.{OneSpelling-exactly, OneSpelling-never, OneSpelling-either, OneSpelling-pair, OneSpelling-such, OneSpelling-there, OneSpelling-count}
use Rattle.oas_num.specs.Laws.CombinatorLaws.{IsWithin-itself, IsWithin-either, IsWithin-pair, IsWithin-such, IsWithin-image, IsWithin-there, IsWithin-count}
use Rattle.oas_num.specs.Begun.{HasSome}
use Rattle.oas_num.specs.Laws.BegunLaws.{HasSome-pair, HasSome-image, HasSome-there, HasSome-such, HasSome-either, HasSome-exactly, HasSome-count}
use Rattle.oas_num.specs.Integers.{IsUnsigned}
use Rattle.oas_num.specs.Laws.IntegerLaws.{zero_spelled}
use Rattle.oas_num.specs.Style.{Style, Any, Shortest}
use Rattle.oas_num.specs.Pieces.{PairTook, ThereTook, CountTook, SuchTook, Unless}
use Rattle.oas_record.specs.Found.{Settled, IsFound, found_such, found_image, found_pair, found_exactly, found_either, found_there, found_count, found_never}
use Rattle.oas_record.specs.Kinds.{Never, Kind, pair_never, there_never, zero_byte, byte}

-- ---- what is made of parts

-- one part after another, which may depend on it
abbrev pub pair : {V W : Type 0} → Kind V → (V → Kind W) → Kind (V × W)
pair A B = record {
  any = IsPair A.any (λ v. (B v).any);
  shortest = IsPair A.shortest (λ v. (B v).shortest);
  took = PairTook A.any A.took (λ v. (B v).took);
  found = found_pair A.found (λ v. (B v).found);
  one = OneSpelling-pair A.shortest (λ v. (B v).shortest) A.one (λ v. (B v).one);
  within = IsWithin-pair A.shortest A.any (λ v. (B v).shortest) (λ v. (B v).any) A.within (λ v. (B v).within);
  some = HasSome-pair A.any (λ v. (B v).any) A.some (B A.some.value).some;
  never = pair_never A.never (λ v. (B v).never);
}

-- an optional field
abbrev pub there : {V : Type 0} → Bool → Kind V → Kind (Option V)
there here A = record {
  any = IsThere here A.any;
  shortest = IsThere here A.shortest;
  took = ThereTook here A.took;
  found = found_there here A.found;
  one = OneSpelling-there here A.shortest A.one;
  within = IsWithin-there here A.shortest A.any A.within;
  some = HasSome-there here A.any A.some;
  never = there_never here A.took A.never;
}

-- this many items
abbrev pub items : {V : Type 0} → ℕ → Kind V → Kind (List V)
items count A = record {
  any = IsCount A.any count;
  shortest = IsCount A.shortest count;
  took = CountTook A.any count A.took;
  found = found_count count A.found;
  one = OneSpelling-count A.shortest count A.one;
  within = IsWithin-count A.shortest A.any count A.within;
  some = HasSome-count A.any count A.some;
  never = record { none = λ bytes b. A.never.none b.last b.holds.1 };
}

-- these bytes: no read of their own, so nothing that goes wrong
abbrev pub exactly : List ℕ → Kind (Unit {0})
exactly wanted = record {
  any = IsExactly wanted;
  shortest = IsExactly wanted;
  took = λ why bytes. ⊥;
  found = found_exactly wanted;
  one = OneSpelling-exactly wanted;
  within = IsWithin-itself (IsExactly wanted);
  some = HasSome-exactly wanted;
  never = record { none = λ bytes h. h };
}

pub either_never : (test : Bool) (A B : Why → List ℕ → Type 0) → Never A → Never B → Never (IsEither test A B)
either_never true A B f g = record { none = f.none }
either_never false A B f g = record { none = g.none }

-- one of two, by a test
abbrev pub either : {V : Type 0} → Bool → Kind V → Kind V → Kind V
either test A B = record {
  any = IsEither test A.any B.any;
  shortest = IsEither test A.shortest B.shortest;
  took = IsEither test A.took B.took;
  found = found_either test A.any B.any A.found B.found;
  one = OneSpelling-either test A.shortest B.shortest A.one B.one;
  within = IsWithin-either test A.shortest B.shortest A.any B.any A.within B.within;
  some = HasSome-either test A.any B.any A.some B.some;
  never = either_never test A.took B.took A.never B.never;
}

-- what denotes one value only, as far as it is spelled
pub OneSpelling-image_by : {U V : Type 0} (f : U → V) (back : V → U) (A : U → List ℕ → Type 0) → ((u : U) (a : List ℕ) → A u a → back (f u) ≡ u) → OneSpelling A → OneSpelling (IsImage f A)
OneSpelling-image_by f back A inverse law = record {
  same = λ v a b p q.
      let e = sym (inverse p.from a p.spelled) ∙ ap back (p.is ∙ sym q.is) ∙ inverse q.from b q.spelled in
      law.same q.from a b (subst (λ u. A u a) e p.spelled) q.spelled;
}

-- what a value denotes, and only that one, as far as it is spelled in the shortest style
abbrev pub image : {U V : Type 0} (f : U → V) (back : V → U) (A : Kind U) → ((u : U) (bytes : List ℕ) → A.shortest u bytes → back (f u) ≡ u) → Kind V
image f back A inverse = record {
  any = IsImage f A.any;
  shortest = IsImage f A.shortest;
  took = A.took;
  found = found_image f A.found;
  one = OneSpelling-image_by f back A.shortest inverse A.one;
  within = IsWithin-image f A.shortest A.any A.within;
  some = HasSome-image f A.any A.some;
  never = A.never;
}

-- what is spelled like this in the shortest style
abbrev pub shortest_as : {V : Type 0} (A : Kind V) (shortest : V → List ℕ → Type 0) → OneSpelling shortest → IsWithin shortest A.any → Kind V
shortest_as A shortest one within = record {
  any = A.any;
  shortest = shortest;
  took = A.took;
  found = A.found;
  one = one;
  within = within;
  some = A.some;
  never = A.never;
}

-- ---- what must meet a condition

-- whether a value meets the condition is decidable, some do, and others are refused for these reasons
pub record IsTest {V : Type 0} (spells : V → List ℕ → Type 0) (P : V → Type 0) (refuses : V → Why → Type 0) : Type 0 where
  pub settled : (v : V) → Settled (P v)
  pub some : HasSome (IsSuch P spells)
  pub never : (v : V) → refuses v Write → ⊥

pub such_never : {V : Type 0} {A : V → List ℕ → Type 0} {took : Why → List ℕ → Type 0} {refuses : V → Why → Type 0} → ((v : V) → refuses v Write → ⊥) → Never took → Never (SuchTook A took refuses)
such_never other f = record { none = λ bytes h. elim h [ inl h ↦ f.none bytes h | inr h ↦ other h.0 h.2 ] }

-- a value that meets the condition: others are read whole and refused
abbrev pub such : {V : Type 0} (A : Kind V) (P : V → Type 0) (refuses : V → Why → Type 0) → IsTest A.any P refuses → Kind V
such A P refuses test = record {
  any = IsSuch P A.any;
  shortest = IsSuch P A.shortest;
  took = SuchTook A.any A.took refuses;
  found = found_such P test.settled A.found;
  one = OneSpelling-such P A.shortest A.one;
  within = IsWithin-such P A.shortest A.any A.within;
  some = test.some;
  never = such_never test.never A.never;
}

-- the same, where the shortest style requires more
abbrev pub such_as : {V : Type 0} (A : Kind V) (P canonical : V → Type 0) (refuses : V → Why → Type 0) → IsTest A.any P refuses → Kind V
such_as A P canonical refuses test =
    shortest_as (such A P refuses test) (IsSuch (λ v. P v × canonical v) A.shortest) (OneSpelling-such (λ v. P v × canonical v) A.shortest A.one)
    (record { within = λ v bytes p. record { holds = p.holds.0; spelled = A.within.within v bytes p.spelled } })

-- a number for which that holds, as it does for 0
pub number_test : (P : ℕ → Type 0) (reason : Why) → ((n : ℕ) → Settled (P n)) → P 0 → (Write ≡ reason → ⊥) → IsTest IsUnsigned P (Unless P reason)
number_test P reason settled holds other = record { settled = settled; some = HasSome-such P IsUnsigned 0 (0 ∷ []) zero_spelled holds; never = λ v h. other h.0 }

-- an info byte, where 0 is one
pub info_test : (allowed : ℕ → Type 0) → ((info : ℕ) → Settled (allowed info)) → allowed 0 → IsTest IsByte allowed (Unless allowed InfoByte)
info_test allowed settled holds = record { settled = settled; some = HasSome-such allowed IsByte 0 (0 ∷ []) zero_byte holds; never = λ v h. let e : Write ≡ InfoByte = h.0 in cc }

abbrev pub info_byte : (allowed canonical : ℕ → Type 0) → ((info : ℕ) → Settled (allowed info)) → allowed 0 → Kind ℕ
info_byte allowed canonical settled holds = such_as byte allowed canonical (Unless allowed InfoByte) (info_test allowed settled holds)

-- ---- what no canonical file has

-- a value that others denote too
abbrev pub image_any : {U V : Type 0} (f : U → V) → Kind U → Kind V
image_any f A = record {
  any = IsImage f A.any;
  shortest = IsNever;
  took = A.took;
  found = found_image f A.found;
  one = OneSpelling-never;
  within = record { within = λ v bytes p. absurd p };
  some = HasSome-image f A.any A.some;
  never = A.never;
}

-- ---- one of several

-- By a number. There is a kind for each number that has one; for the others nothing is spelled.
pub record Choice (V : Type 0) : Type 1 where
  pub any : V → List ℕ → Type 0
  pub shortest : V → List ℕ → Type 0
  pub took : Why → List ℕ → Type 0
  pub found : IsFound any
  pub one : OneSpelling shortest
  pub within : IsWithin shortest any
  pub never : Never took

abbrev pub no_other : {V : Type 0} → Choice V
no_other = record {
  any = IsNever;
  shortest = IsNever;
  took = IsNever;
  found = found_never;
  one = OneSpelling-never;
  within = IsWithin-itself IsNever;
  never = record { none = λ bytes h. h };
}

abbrev pub by_number : {V : Type 0} → Bool → Kind V → Choice V → Choice V
by_number test A B = record {
  any = IsEither test A.any B.any;
  shortest = IsEither test A.shortest B.shortest;
  took = IsEither test A.took B.took;
  found = found_either test A.any B.any A.found B.found;
  one = OneSpelling-either test A.shortest B.shortest A.one B.one;
  within = IsWithin-either test A.shortest B.shortest A.any B.any A.within B.within;
  never = either_never test A.took B.took A.never B.never;
}

-- a row of a table: a number, and what follows it
pub record Row (V : Type 0) : Type 1 where
  pub number : ℕ
  pub kind : Kind V

abbrev pub row : {V : Type 0} → ℕ → Kind V → Row V
row n A = record { number = n; kind = A }

-- by a table, in which no number occurs twice
abbrev pub by_table : {V : Type 0} → ℕ → List (Row V) → Choice V
by_table n [] = no_other
by_table n (r ∷ rows) = by_number (n == r.number) r.kind (by_table n rows)

-- whether a row has that number
abbrev pub has_row : {V : Type 0} → ℕ → List (Row V) → Bool
has_row n [] = false
has_row n (r ∷ rows) = (n == r.number) || has_row n rows

-- what holds for each row
abbrev pub EachRow : {V : Type 0} → (Row V → Type 0) → List (Row V) → Type 0
EachRow P [] = Unit {0}
EachRow P (r ∷ rows) = P r × EachRow P rows

abbrev pub chosen_in : {V : Type 0} → Style → Choice V → V → List ℕ → Type 0
chosen_in Any A = A.any
chosen_in Shortest A = A.shortest

-- info bytes of a canonical file, which are one number
pub info_is : {F : Type 0} {n : ℕ} (u : ℕ × F) → u.0 ≡ n → ◌≡◌ {A = ℕ × F} (n, u.1) u
info_is {F = F} u is = ap (λ (info : ℕ). let v : ℕ × F = (info, u.1) in v) (sym is)
