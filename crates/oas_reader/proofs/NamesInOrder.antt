-- Names with the numbers 0, 1, 2, .. in a list, and all others with their numbers.
use Rattle.std.proofs.Common.{◌≡◌, ℕ, zero, suc, ◌+◌, ◌<◌, ◌≤◌, ◌^◌, List, [], ◌∷◌, ◌++◌, length, drop, refl, sym, ◌∙◌, ap, subst, arith, Option, Some, None, length-append}
use Rattle.std.specs.Prelude.{nat_eq, slice_set, slice_index_or}
use Rattle.std.specs.Ordering.{nat_cmp, match_ordering}
use Rattle.std.specs.declared.cmp.Ordering.TheVariants.{Less, Equal, Greater}
use Rattle.std.specs.Map.{lookup}
use Rattle.std.specs.BTreeMap.{insert_entry}
use Rattle.std.proofs.lemmas.Bool.Decides.{nat_tests}
use Rattle.oas_reader.specs.declared.names.Numbering.{Numbering}
use Rattle.oas_reader.specs.Names.{Table, name_of}
use Rattle.oas_reader.specs.NamesInOrder.{numbered, AllFrom, AreApart}

module _ {S : Type 0} where
  -- ---- looking up a number

  past_step : (first q : ℕ) (s : S) (rest : List (ℕ × S)) → first < q → lookup (nat_eq q) ((first, s) ∷ rest) ≡ lookup (nat_eq q) rest
  past_step first q s rest h = grind (arith, nat_tests)

  at_step : (first q : ℕ) (s : S) (rest : List (ℕ × S)) → q ≡ first → lookup (nat_eq q) ((first, s) ∷ rest) ≡ Some s
  at_step first q s rest h = grind (arith, nat_tests)

  -- beyond those in order
  lookup_from : (first : ℕ) (ss : List S) (others : List (ℕ × S)) (q : ℕ) → first + length ss ≤ q → lookup (nat_eq q) (numbered first ss ++ others) ≡ lookup (nat_eq q) others
  lookup_from first [] others q h = refl
  lookup_from first (s ∷ ss) others q h =
      past_step first q s (numbered (first + 1) ss ++ others) (omega (arith, h)) ∙ lookup_from (first + 1) ss others q (omega (arith, h))

  -- among those in order
  lookup_within : (first : ℕ) (ss : List S) (others : List (ℕ × S)) (i q : ℕ) (d : S) → first + i ≡ q → i < length ss → lookup (nat_eq q) (numbered first ss ++ others) ≡ Some (slice_index_or ss i d)
  lookup_within first [] others i q d e h = absurd (omega (arith, h))
  lookup_within first (s ∷ ss) others zero q d e h = at_step first q s (numbered (first + 1) ss ++ others) (omega (arith, e))
  lookup_within first (s ∷ ss) others (suc i) q d e h =
      past_step first q s (numbered (first + 1) ss ++ others) (omega (arith, e)) ∙ lookup_within (first + 1) ss others i q d (omega (arith, e)) (omega (arith, h))

  pub lookup_past : (ss : List S) (others : List (ℕ × S)) (q : ℕ) → length ss ≤ q → lookup (nat_eq q) (numbered 0 ss ++ others) ≡ lookup (nat_eq q) others
  lookup_past ss others q h = lookup_from 0 ss others q (omega (arith, h))

  pub lookup_place : (ss : List S) (others : List (ℕ × S)) (q : ℕ) (d : S) → q < length ss → lookup (nat_eq q) (numbered 0 ss ++ others) ≡ Some (slice_index_or ss q d)
  lookup_place ss others q d h = lookup_within 0 ss others q q d (omega arith) h

  -- ---- how many there are

  count_from : (first : ℕ) (ss : List S) (others : List (ℕ × S)) → length (numbered first ss ++ others) ≡ length ss + length others
  count_from first [] others = omega arith
  count_from first (s ∷ ss) others = omega (arith, count_from (first + 1) ss others)

  pub count_all : (ss : List S) (others : List (ℕ × S)) → length (numbered 0 ss ++ others) ≡ length ss + length others
  count_all ss others = count_from 0 ss others

  rest_from : (first : ℕ) (ss : List S) (others : List (ℕ × S)) → drop (length ss) (numbered first ss ++ others) ≡ others
  rest_from first [] others = refl
  rest_from first (s ∷ ss) others = rest_from (first + 1) ss others

  -- those in order, and then the others
  pub front_of_all : (t : Table S) (numbering : Option Numbering) (ss : List S) (others : List (ℕ × S)) → record { numbering = numbering; named = numbered 0 ss ++ others } ≡ t
      → numbered 0 ss ++ drop (length ss) t.named ≡ t.named
  front_of_all t numbering ss others view =
      subst (λ (x : Table S). numbered 0 ss ++ drop (length ss) x.named ≡ x.named) view (ap (λ (xs : List (ℕ × S)). numbered 0 ss ++ xs) (rest_from 0 ss others))

  -- ---- one string more

  insert_at_step : (first q : ℕ) (s v : S) (rest : List (ℕ × S)) → q ≡ first → insert_entry nat_cmp ((first, s) ∷ rest) q v ≡ (first, v) ∷ rest
  insert_at_step first q s v rest e = grind (arith, nat_tests)

  insert_past_step : (first q : ℕ) (s v : S) (rest : List (ℕ × S)) → first < q → insert_entry nat_cmp ((first, s) ∷ rest) q v ≡ (first, s) ∷ insert_entry nat_cmp rest q v
  insert_past_step first q s v rest h = grind (arith, nat_tests)

  insert_from : (first : ℕ) (ss : List S) (others : List (ℕ × S)) (q : ℕ) (v : S) → first + length ss ≤ q
      → insert_entry nat_cmp (numbered first ss ++ others) q v ≡ numbered first ss ++ insert_entry nat_cmp others q v
  insert_from first [] others q v h = refl
  insert_from first (s ∷ ss) others q v h =
      insert_past_step first q s v (numbered (first + 1) ss ++ others) (omega (arith, h))
      ∙ ap (λ (es : List (ℕ × S)). (first, s) ∷ es) (insert_from (first + 1) ss others q v (omega (arith, h)))

  insert_within : (first : ℕ) (ss : List S) (others : List (ℕ × S)) (i q : ℕ) (v : S) → first + i ≡ q → i < length ss
      → insert_entry nat_cmp (numbered first ss ++ others) q v ≡ numbered first (slice_set ss i v) ++ others
  insert_within first [] others i q v e h = absurd (omega (arith, h))
  insert_within first (s ∷ ss) others zero q v e h = insert_at_step first q s v (numbered (first + 1) ss ++ others) (omega (arith, e))
  insert_within first (s ∷ ss) others (suc i) q v e h =
      insert_past_step first q s v (numbered (first + 1) ss ++ others) (omega (arith, e))
      ∙ ap (λ (es : List (ℕ × S)). (first, s) ∷ es) (insert_within (first + 1) ss others i q v (omega (arith, e)) (omega (arith, h)))

  -- a number below all that are there
  insert_before : (n : ℕ) (others : List (ℕ × S)) (v : S) → AllFrom n others → lookup (nat_eq n) others ≡ None → insert_entry nat_cmp others n v ≡ (n, v) ∷ others
  insert_before n [] v later none = refl
  insert_before n (e ∷ es) v later none = before n e es v later.0 none where
    before : (n : ℕ) (e : ℕ × S) (es : List (ℕ × S)) (v : S) → n ≤ e.0 → lookup (nat_eq n) (e ∷ es) ≡ None → insert_entry nat_cmp (e ∷ es) n v ≡ (n, v) ∷ e ∷ es
    before n e es v h none = grind (arith, nat_tests)

  push_from : (first : ℕ) (ss : List S) (others : List (ℕ × S)) (n : ℕ) (v : S) → first + length ss ≡ n → numbered first ss ++ (n, v) ∷ others ≡ numbered first (ss ++ v ∷ []) ++ others
  push_from first [] others n v e = ap (λ (k : ℕ). (k, v) ∷ others) (omega (arith, e))
  push_from first (s ∷ ss) others n v e = ap (λ (es : List (ℕ × S)). (first, s) ∷ es) (push_from (first + 1) ss others n v (omega (arith, e)))

  -- in place of one in order
  pub insert_place : (ss : List S) (others : List (ℕ × S)) (q : ℕ) (v : S) → q < length ss → insert_entry nat_cmp (numbered 0 ss ++ others) q v ≡ numbered 0 (slice_set ss q v) ++ others
  insert_place ss others q v h = insert_within 0 ss others q q v (omega arith) h

  -- after those in order
  pub insert_next : (ss : List S) (others : List (ℕ × S)) (q : ℕ) (v : S) → q ≡ length ss → AllFrom (length ss) others → lookup (nat_eq q) others ≡ None
      → insert_entry nat_cmp (numbered 0 ss ++ others) q v ≡ numbered 0 (ss ++ v ∷ []) ++ others
  insert_next ss others q v e later none =
      insert_from 0 ss others q v (omega (arith, e))
      ∙ (ap (λ (es : List (ℕ × S)). numbered 0 ss ++ es) (insert_before q others v (subst (λ (n : ℕ). AllFrom n others) (sym e) later) none)
      ∙ push_from 0 ss others q v (omega (arith, e)))

  -- among the others
  pub insert_past : (ss : List S) (others : List (ℕ × S)) (q : ℕ) (v : S) → length ss ≤ q → insert_entry nat_cmp (numbered 0 ss ++ others) q v ≡ numbered 0 ss ++ insert_entry nat_cmp others q v
  insert_past ss others q v h = insert_from 0 ss others q v (omega (arith, h))

  -- ---- still apart

  pub from_more : (n : ℕ) (others : List (ℕ × S)) → AllFrom n others → lookup (nat_eq n) others ≡ None → AllFrom (n + 1) others
  from_more n [] later none = tt
  from_more n (e ∷ es) later none = (above n e es later.0 none, from_more n es later.1 (rest n e es later.0 none)) where
    above : (n : ℕ) (e : ℕ × S) (es : List (ℕ × S)) → n ≤ e.0 → lookup (nat_eq n) (e ∷ es) ≡ None → n + 1 ≤ e.0
    above n e es h none = grind (arith, nat_tests)

    rest : (n : ℕ) (e : ℕ × S) (es : List (ℕ × S)) → n ≤ e.0 → lookup (nat_eq n) (e ∷ es) ≡ None → lookup (nat_eq n) es ≡ None
    rest n e es h none = grind (arith, nat_tests)

  pub from_inserted : (n : ℕ) (others : List (ℕ × S)) (q : ℕ) (v : S) → n ≤ q → AllFrom n others → AllFrom n (insert_entry nat_cmp others q v)
  from_inserted n [] q v h later = (h, tt)
  from_inserted n (e ∷ es) q v h later =
      elim (nat_cmp q e.0) as (λ r. AllFrom n (match_ordering r ((q, v) ∷ e ∷ es) ((e.0, v) ∷ es) (e ∷ insert_entry nat_cmp es q v))) [
        | Less ↦ (h, later)
        | Equal ↦ later
        | Greater ↦ (later.0, from_inserted n es q v h later.1)
      ]

  -- where this many are in order, and one more
  pub apart_next : (ss more : List S) (es : List (ℕ × S)) (q : ℕ) (v : S) → more ≡ ss ++ v ∷ [] → AreApart (length ss) es → q ≡ length ss → q < 2 ^ 62 → lookup (nat_eq q) es ≡ None
      → AreApart (length more) es
  apart_next ss more es q v is apart e few none =
      subst (λ (n : ℕ). AreApart n es) (omega (arith, ap (λ (xs : List S). length xs) is, length-append ss (v ∷ [])))
      (record { later = from_more (length ss) es apart.later (subst (λ (n : ℕ). lookup (nat_eq n) es ≡ None) e none); few = omega (arith, e, few) })

  -- and one more of the others
  pub apart_past : (ss : List S) (es fs : List (ℕ × S)) (q : ℕ) (v : S) → AreApart (length ss) es → length ss ≤ q → fs ≡ insert_entry nat_cmp es q v → AreApart (length ss) fs
  apart_past ss es fs q v apart h is =
      subst (AreApart (length ss)) (sym is) (record { later = from_inserted (length ss) es q v h apart.later; few = apart.few })

  -- ---- the table as contracts see it

  abbrev table : Option Numbering → List (ℕ × S) → Table S
  table numbering names = record { numbering = numbering; named = names }

  module _ (t : Table S) (numbering : Option Numbering) (ss : List S) (es : List (ℕ × S)) (view : table numbering (numbered 0 ss ++ es) ≡ t) where
    abbrev with_string : Table S → ℕ → S → Table S
    with_string u q v = table u.numbering (insert_entry nat_cmp u.named q v)

    -- after one more string at its place
    pub put_place : (q : ℕ) (v : S) → q < length ss → table numbering (numbered 0 (slice_set ss q v) ++ es) ≡ with_string t q v
    put_place q v h = ap (table numbering) (sym (insert_place ss es q v h)) ∙ ap (λ (u : Table S). with_string u q v) view

    -- after those in order
    pub put_next : (q : ℕ) (v : S) (more : List S) → q ≡ length ss → AreApart (length ss) es → lookup (nat_eq q) es ≡ None → more ≡ ss ++ v ∷ [] → table numbering (numbered 0 more ++ es) ≡ with_string t q v
    put_next q v more e apart none is =
        ap (λ (xs : List S). table numbering (numbered 0 xs ++ es)) is
        ∙ (ap (table numbering) (sym (insert_next ss es q v e apart.later none)) ∙ ap (λ (u : Table S). with_string u q v) view)

    -- among the others
    pub put_past : (q : ℕ) (v : S) (more : List (ℕ × S)) → length ss ≤ q → more ≡ insert_entry nat_cmp es q v → table numbering (numbered 0 ss ++ more) ≡ with_string t q v
    put_past q v more h is =
        ap (λ (xs : List (ℕ × S)). table numbering (numbered 0 ss ++ xs)) is
        ∙ (ap (table numbering) (sym (insert_past ss es q v h)) ∙ ap (λ (u : Table S). with_string u q v) view)

    -- how many names there are
    pub count_is : length t.named ≡ length ss + length es
    count_is = ap (λ (u : Table S). length u.named) (sym view) ∙ count_all ss es

    -- the string of a number
    pub name_within : (q : ℕ) (d : S) → q < length ss → name_of t.named q ≡ Some (slice_index_or ss q d)
    name_within q d h = ap (λ (u : Table S). name_of u.named q) (sym view) ∙ lookup_place ss es q d h

    pub name_past : (q : ℕ) → length ss ≤ q → name_of t.named q ≡ name_of es q
    name_past q h = ap (λ (u : Table S). name_of u.named q) (sym view) ∙ lookup_past ss es q h
