-- Tables of names, and the records that they represent.
use Rattle.std.proofs.Common.{◌≡◌, ◌≢◌, ℕ, ◌+◌, ◌≤◌, List, [], ◌∷◌, length, refl, ◌∙◌, ap, arith, Bool, true, false, cond}
use Rattle.std.specs.Prelude.{Option, None, Some, unwrap_or, nat_eq}
use Rattle.std.specs.Ordering.{nat_cmp}
use Rattle.std.specs.Map.{lookup}
use Rattle.std.specs.BTreeMap.{insert_entry}
use Rattle.std.proofs.lemmas.Bool.Decides.{nat_tests}
use Rattle.oas_num.specs.declared.refusals.Why.{Why}
use Rattle.oas_record.specs.declared.records.Record.{Record}
use Rattle.oas_drawing.specs.Reasons.{first_of}
use Rattle.oas_reader.specs.declared.names.Numbering.{Numbering}
use Rattle.oas_reader.specs.declared.names.Numbering.TheVariants.{Implicit, Explicit}
use Rattle.oas_reader.specs.Names.{numbering_given, numbering_after, numbering_of, counted, next_after, next_number, named_after, named, name_of, is_mixed, is_other, naming_reason}
use Rattle.oas_reader.specs.Names.{reason_given, name_reason, Table, no_names, table_reason, with_name, TableRepresents}

-- ---- one entry more

lookup_step : {S : Type 0} (e : ℕ × S) (es : List (ℕ × S)) (k : ℕ) (v : S) (q : ℕ) → lookup (nat_eq q) (insert_entry nat_cmp es k v) ≡ cond (nat_eq q k) (Some v) (lookup (nat_eq q) es)
    → lookup (nat_eq q) (insert_entry nat_cmp (e ∷ es) k v) ≡ cond (nat_eq q k) (Some v) (lookup (nat_eq q) (e ∷ es))
lookup_step e es k v q h = grind (arith, nat_tests)

lookup_insert : {S : Type 0} (es : List (ℕ × S)) (k : ℕ) (v : S) (q : ℕ) → lookup (nat_eq q) (insert_entry nat_cmp es k v) ≡ cond (nat_eq q k) (Some v) (lookup (nat_eq q) es)
lookup_insert [] k v q = refl
lookup_insert (e ∷ es) k v q = lookup_step e es k v q (lookup_insert es k v q)

length_step : {S : Type 0} (e : ℕ × S) (es : List (ℕ × S)) (k : ℕ) (v : S) → (lookup (nat_eq k) es ≡ None → length (insert_entry nat_cmp es k v) ≡ length es + 1) → lookup (nat_eq k) (e ∷ es)
    ≡ None → length (insert_entry nat_cmp (e ∷ es) k v) ≡ length (e ∷ es) + 1
length_step e es k v h none = grind (arith, nat_tests)

length_insert : {S : Type 0} (es : List (ℕ × S)) (k : ℕ) (v : S) → lookup (nat_eq k) es ≡ None → length (insert_entry nat_cmp es k v) ≡ length es + 1
length_insert [] k v none = refl
length_insert (e ∷ es) k v none = length_step e es k v (length_insert es k v) none

-- ---- a table after one more record

-- what a table has where its records have this numbering, this next number and these names
record HasNames {S : Type 0} (t : Table S) (numbering : Option Numbering) (next : ℕ) (names : List (ℕ × S)) : Type 0 where
  numbering_is : t.numbering ≡ numbering
  agrees : (q : ℕ) → name_of t.named q ≡ name_of names q
  next_is : numbering ≢ Some Explicit → length t.named ≡ next
  free : numbering ≢ Some Explicit → (q : ℕ) → next ≤ q → name_of names q ≡ None

not_explicit : (numbering : Option Numbering) → is_mixed numbering Implicit ≡ false → numbering ≢ Some Explicit
not_explicit None h e = cc
not_explicit (Some Implicit) h e = cc
not_explicit (Some Explicit) h e = cc

pub first_false : (a b : Bool) (w x : Why) → first_of ((a, w) ∷ (b, x) ∷ []) ≡ None → a ≡ false
first_false false b w x h = refl
first_false true b w x h = cc

insert_agrees : {S : Type 0} (held names : List (ℕ × S)) (n n' : ℕ) (string : S) (q : ℕ) → n ≡ n' → name_of held q ≡ name_of names q → name_of (insert_entry nat_cmp held n string) q
    ≡ name_of ((n', string) ∷ names) q
insert_agrees held names n n' string q e h = lookup_insert held n string q ∙ (ap (λ k. cond (nat_eq q k) (Some string) (name_of held q)) e ∙ ap (λ o. cond (nat_eq q n') (Some string) o) h)

free_more : {S : Type 0} (names : List (ℕ × S)) (next : ℕ) (string : S) (q : ℕ) → next + 1 ≤ q → name_of names q ≡ None → name_of ((next, string) ∷ names) q ≡ None
free_more names next string q le h = grind (arith, nat_tests)

more_named : {S : Type 0} (same : S → S → Bool) (t : Table S) (numbering : Option Numbering) (next : ℕ) (names : List (ℕ × S)) (string : S) (number : Option ℕ) → HasNames t numbering next names
    → naming_reason same numbering next names string number ≡ None →
    HasNames (with_name t (Some (string, number))) (Some (numbering_given number)) (counted number next) ((unwrap_or number next, string) ∷ names)
more_named same t numbering next names string (Some k) h none =
    record {
      numbering_is = refl;
      agrees = λ q. insert_agrees t.named names k k string q refl (h.agrees q);
      next_is = λ f. absurd (f refl);
      free = λ f. absurd (f refl);
    }
more_named same t numbering next names string None h none =
    let implicit : numbering ≢ Some Explicit = not_explicit numbering (first_false _ _ _ _ none) in
    let at = h.next_is implicit in
    let few : length (insert_entry nat_cmp t.named (length t.named) string) ≡ length t.named + 1 =
    length_insert t.named (length t.named) string (h.agrees (length t.named) ∙ h.free implicit (length t.named) (omega (arith, at))) in
    record {
      numbering_is = refl;
      agrees = λ q. insert_agrees t.named names (length t.named) next string q at (h.agrees q);
      next_is = λ f. few ∙ ap (λ n. n + 1) at;
      free = λ f q le. free_more names next string q le (h.free implicit q (omega (arith, le)));
    }

more_given : {S : Type 0} (same : S → S → Bool) (t : Table S) (numbering : Option Numbering) (next : ℕ) (names : List (ℕ × S)) (o : Option (S × Option ℕ)) → HasNames t numbering next names
    → reason_given same numbering next names o ≡ None →
    HasNames (with_name t o) (numbering_after o numbering) (next_after o next) (named_after o next names)
more_given same t numbering next names None h none = h
more_given same t numbering next names (Some g) h none = more_named same t numbering next names g.0 g.1 h none

pub one_more : {S : Type 0} (same : S → S → Bool) (given : Record → Option (S × Option ℕ)) (t : Table S) (before : List Record) (r : Record) → TableRepresents given t before
    → name_reason same given before r ≡ None → TableRepresents given (with_name t (given r)) (r ∷ before)
one_more same given t before r h none =
    let had : HasNames t (numbering_of given before) (next_number given before) (named given before) = record { numbering_is = h.numbering; agrees = h.agrees; next_is = h.next; free = h.free } in
    let has = more_given same t (numbering_of given before) (next_number given before) (named given before) (given r) had none in
    record { numbering = has.numbering_is; agrees = has.agrees; next = has.next_is; free = has.free }

pub none_stand : {S : Type 0} (given : Record → Option (S × Option ℕ)) → TableRepresents given no_names []
none_stand given = record { numbering = refl; agrees = λ q. refl; next = λ f. refl; free = λ f q le. refl }

-- what isn't tested where the first condition holds
first_or : (a b b' : Bool) (w x : Why) → (a ≡ false → b ≡ b') → first_of ((a, w) ∷ (b, x) ∷ []) ≡ first_of ((a, w) ∷ (b', x) ∷ [])
first_or true b b' w x f = refl
first_or false b b' w x f = ap (λ c. first_of ((c, x) ∷ [])) (f refl)

same_naming : {S : Type 0} (same : S → S → Bool) (t : Table S) (numbering : Option Numbering) (next : ℕ) (names : List (ℕ × S)) (string : S) (number : Option ℕ) → HasNames t numbering next names →
    naming_reason same numbering (length t.named) t.named string number ≡ naming_reason same numbering next names string number
same_naming same t numbering next names string (Some k) h = first_or (is_mixed numbering Explicit) _ _ _ _ (λ f. ap (λ o. is_other same o string) (h.agrees k))
same_naming same t numbering next names string None h =
    first_or (is_mixed numbering Implicit) _ _ _ _ (λ f. ap (λ o. is_other same o string) (h.agrees (length t.named) ∙ ap (name_of names) (h.next_is (not_explicit numbering f))))

same_given : {S : Type 0} (same : S → S → Bool) (t : Table S) (numbering : Option Numbering) (next : ℕ) (names : List (ℕ × S)) (o : Option (S × Option ℕ)) → HasNames t numbering next names →
    reason_given same numbering (length t.named) t.named o ≡ reason_given same numbering next names o
same_given same t numbering next names None h = refl
same_given same t numbering next names (Some g) h = same_naming same t numbering next names g.0 g.1 h

pub same_reason : {S : Type 0} (same : S → S → Bool) (given : Record → Option (S × Option ℕ)) (t : Table S) (before : List Record) (r : Record) → TableRepresents given t before
    → table_reason same t (given r) ≡ name_reason same given before r
same_reason same given t before r h =
    let had : HasNames t (numbering_of given before) (next_number given before) (named given before) = record { numbering_is = h.numbering; agrees = h.agrees; next_is = h.next; free = h.free } in
    ap (λ numbering. reason_given same numbering (length t.named) t.named (given r)) h.numbering ∙
    same_given same t (numbering_of given before) (next_number given before) (named given before) (given r) had
