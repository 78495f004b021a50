-- The difference of what is held, a line at a time.
use Rattle.std.proofs.Common.{◌≡◌, ◌≢◌, ℕ, ◌+◌, ◌<◌, List, [], ◌∷◌, ◌++◌, length, flat_map, Bool, true, false, Option, None, Some, is_some}
use Rattle.std.proofs.Common.{unwrap_or, refl, sym, ◌∙◌, ap, subst}
use Rattle.std.specs.Prelude.{◌-◌, ◌==◌, nat_lt, IfSome, if◌then◌else◌}
use Rattle.std.proofs.lemmas.Bool.{eq-eqb, eqb-true}
use Rattle.std.specs.declared.cmp.Ordering.TheVariants.{Less, Equal, Greater}
use Rattle.std.specs.Map.Iter.{TakesFirst}
use Rattle.std.specs.List.Sorted.{IsStrictlySortedBy}
use Rattle.std.specs.Map.{keys_of}
use Rattle.oas_num.specs.Ratio.{Ratio}
use Rattle.oas_elements.specs.Bag.{IsTally}
use Rattle.oas_elements.specs.declared.element.Element.{Element}
use Rattle.oas_elements.specs.Element.{element_cmp}
use Rattle.oas_elements.specs.Laws.ElementLaws.{element_total, exact_elements}
use Rattle.oas_diff_options.specs.declared.format.Syntax.{Syntax}
use Rattle.oas_diff_options.specs.declared.format.Syntax.TheVariants.{Lines, Json}
use Rattle.oas_diff_text.specs.Entries.{unit_entry, cell_entry, place_entry, element_entry, brief_entry}
use Rattle.oas_diff_text.specs.Microns.{counted_to}
use Rattle.oas_difference.specs.Changed.{change_at}
use Rattle.oas_difference.specs.Difference.{same_ratio, unit_changes, change_entry, below_name}
use Rattle.oas_difference.specs.Pairs.{first_order}
use Rattle.oas_difference.specs.Brief.{only_first, only_second, brief_sign, signed_brief}
use Rattle.oas_difference.specs.Held.{in_hand, pair_changed, held_changes, held_changed, held_cell, held_brief}
use Rattle.oas_difference.specs.declared.notation.Notation.{Notation}
use Rattle.oas_difference.proofs.Pairs.{Paired, none_left, least_before, least_after, least_both}

-- ---- a list with its first in hand

module _ {A X : Type 0} (shows : A → X) where
  -- the first, taken from the rest
  pub in_hand_is : (s : List X) (r : Option A) (t : List X) → TakesFirst shows s r t → in_hand shows r t ≡ s
  in_hand_is s None t h = sym h.0
  in_hand_is s (Some x) t h = sym h

  -- where none is in hand none is left
  pub none_in_hand : (s : List X) (r : Option A) (t : List X) → TakesFirst shows s r t → r ≡ None → t ≡ []
  none_in_hand s None t h e = h.1
  none_in_hand s (Some x) t h e = let no : ⊥ = cc in absurd no

  -- the first is given away, and the next is in hand
  hand_given : (now next : Option A) (rest left : List X) → (now ≡ None → rest ≡ []) → TakesFirst shows rest next left → TakesFirst shows (in_hand shows now rest) now (in_hand shows next left)
  hand_given None next rest left none h = (refl, in_hand_is rest next left h ∙ none refl)
  hand_given (Some x) next rest left none h = ap (λ (l : List X). shows x ∷ l) (sym (in_hand_is rest next left h))

  -- the same of what is seen
  pub takes_first : (now next given : Option A) (rest left old new : List X) → in_hand shows now rest ≡ old → in_hand shows next left ≡ new → given ≡ now →
      (now ≡ None → rest ≡ []) → TakesFirst shows rest next left → TakesFirst shows old given new
  takes_first now next given rest left old new p q is none h =
      subst (λ (o : Option A). TakesFirst shows old o new) (sym is)
      (subst (λ (l : List X). TakesFirst shows l now new) p (subst (λ (l : List X). TakesFirst shows (in_hand shows now rest) now l) q (hand_given now next rest left none h)))

-- ---- an element taken from both sides

pub none_changed : (es fs : List (Element × ℕ)) → first_order element_cmp es fs ≡ None → held_changed es fs ≡ []
none_changed es fs h = let none = none_left element_cmp es fs h in λ i. held_changed (none.0 i) (none.1 i)

pub record Stepped (es fs : List (Element × ℕ)) (e : Element) (n m : ℕ) (es' fs' : List (Element × ℕ)) : Type 0 where
  pub changed : held_changed es fs ≡ change_at e n m ++ held_changed es' fs'
  pub before : IsStrictlySortedBy element_cmp (keys_of es')
  pub after : IsStrictlySortedBy element_cmp (keys_of fs')
  pub fewer : length es' + length fs' < length es + length fs

stepped : (es fs : List (Element × ℕ)) (e : Element) (v w : Option ℕ) (es' fs' : List (Element × ℕ)) → Paired element_cmp es fs e v w es' fs' →
    Stepped es fs e (unwrap_or v 0) (unwrap_or w 0) es' fs'
stepped es fs e v w es' fs' p = record { changed = ap (flat_map pair_changed) p.listed; before = p.before; after = p.after; fewer = p.fewer }

module _ (es fs : List (Element × ℕ)) (s : IsStrictlySortedBy element_cmp (keys_of es)) (t : IsStrictlySortedBy element_cmp (keys_of fs)) where
  pub step_before : (e : Element) (n : ℕ) (es' : List (Element × ℕ)) → es ≡ (e, n) ∷ es' → first_order element_cmp es fs ≡ Some Less → Stepped es fs e n 0 es' fs
  step_before e n es' is h = stepped es fs e (Some n) None es' fs (least_before element_cmp element_total exact_elements es fs s t (e, n) es' is h)

  pub step_after : (f : Element) (m : ℕ) (fs' : List (Element × ℕ)) → fs ≡ (f, m) ∷ fs' → first_order element_cmp es fs ≡ Some Greater → Stepped es fs f 0 m es fs'
  step_after f m fs' is h = stepped es fs f None (Some m) es fs' (least_after element_cmp element_total exact_elements es fs s t (f, m) fs' is h)

  pub step_both : (e f : Element) (n m : ℕ) (es' fs' : List (Element × ℕ)) → es ≡ (e, n) ∷ es' → fs ≡ (f, m) ∷ fs' → first_order element_cmp es fs ≡ Some Equal → Stepped es fs e n m es' fs'
  step_both e f n m es' fs' is are h = stepped es fs e (Some n) (Some m) es' fs' (least_both element_cmp element_total exact_elements es fs s t (e, n) (f, m) es' fs' is are h)

-- an element that is as often in both is no entry
pub alike_changed : (e : Element) (n m : ℕ) (rest : List (Element × (ℕ × ℕ))) → n ≡ m → change_at e n m ++ rest ≡ rest
alike_changed e n m rest h = ap (λ (b : Bool). (if b then [] else (e, (n, m)) ∷ []) ++ rest) (eq-eqb n m h)

-- and one that isn't is one entry
pub one_change : (e : Element) (n m : ℕ) → n ≢ m → change_at e n m ≡ (e, (n, m)) ∷ []
one_change e n m u = by_test (n == m) refl where
  by_test : (b : Bool) → (n == m) ≡ b → if◌then◌else◌ {A = List (Element × (ℕ × ℕ))} b [] ((e, (n, m)) ∷ []) ≡ (e, (n, m)) ∷ []
  by_test true q = absurd (u (eqb-true n m q))
  by_test false q = refl

-- what is written of it
pub next_changes : (notation : Notation) (name : List ℕ) (es fs es' fs' : List (Element × ℕ)) (e : Element) (n m : ℕ) → n ≢ m → held_changed es fs ≡ change_at e n m
    ++ held_changed es' fs' → held_changes notation name es fs ≡ change_entry notation name (e, (n, m)) ++ held_changes notation name es' fs'
next_changes notation name es fs es' fs' e n m unlike h =
    ap (flat_map (change_entry notation name)) h
    ∙ ap (λ (cs : List (Element × (ℕ × ℕ))). flat_map (change_entry notation name) (cs ++ held_changed es' fs')) (one_change e n m unlike)

-- ---- a cell

pub sorted_of : (o : Option (List (Element × ℕ))) → IfSome o IsTally → IsStrictlySortedBy element_cmp (keys_of (unwrap_or o []))
unfolding IsStrictlySortedBy
sorted_of None h = tt
sorted_of (Some es) h = h.ascending

pub only_before : (notation : Notation) (name : List ℕ) (o p : Option (List (Element × ℕ))) → is_some o ≡ true → is_some p ≡ false → held_cell notation (name, (o, p))
    ≡ cell_entry notation.syntax 45 name ++ held_changes notation name (unwrap_or o []) (unwrap_or p [])
only_before notation name o p e f = λ i. below_name notation.syntax (e i) (f i) name (held_changes notation name (unwrap_or o []) (unwrap_or p []))

pub only_after : (notation : Notation) (name : List ℕ) (o p : Option (List (Element × ℕ))) → is_some o ≡ false → is_some p ≡ true → held_cell notation (name, (o, p))
    ≡ cell_entry notation.syntax 43 name ++ held_changes notation name (unwrap_or o []) (unwrap_or p [])
only_after notation name o p e f = λ i. below_name notation.syntax (e i) (f i) name (held_changes notation name (unwrap_or o []) (unwrap_or p []))

pub brief_is : (syntax : Syntax) (name : List ℕ) (o p : Option (List (Element × ℕ))) (es fs : List (Element × ℕ)) (b c : Bool) (n m sign : ℕ) → b ≡ is_some o → c ≡ is_some p → es
    ≡ unwrap_or o [] → fs ≡ unwrap_or p [] → n ≡ counted_to (only_first (held_changed es fs)) → m ≡ counted_to (only_second (held_changed es fs)) → Some sign
    ≡ brief_sign b c n m → brief_entry syntax sign name n m ≡ held_brief syntax (name, (o, p))
brief_is syntax name o p es fs b c n m sign hb hc he hf hn hm hs =
    let first : n ≡ counted_to (only_first (held_changed (unwrap_or o []) (unwrap_or p []))) = hn ∙ (λ i. counted_to (only_first (held_changed (he i) (hf i)))) in
    let second : m ≡ counted_to (only_second (held_changed (unwrap_or o []) (unwrap_or p []))) = hm ∙ (λ i. counted_to (only_second (held_changed (he i) (hf i)))) in
    ap (λ (s : Option ℕ). signed_brief syntax s name n m) hs ∙ (λ i. signed_brief syntax (brief_sign (hb i) (hc i) (first i) (second i)) name (first i) (second i))

-- ---- each entry has a byte

pub entry_first : (syntax : Syntax) (scale : Option Ratio) (name : List ℕ) (sign count : ℕ) (e : Element) → (b : ℕ) × (bs : List ℕ) × (element_entry syntax scale name sign count e ≡ b ∷ bs)
entry_first Lines scale name sign count e = (sign, _, refl)
entry_first Json scale name sign count e = (123, _, refl)

pub change_first : (notation : Notation) (name : List ℕ) (c : Element × (ℕ × ℕ)) → (b : ℕ) × (bs : List ℕ) × (change_entry notation name c ≡ b ∷ bs)
change_first notation name c =
    elim (nat_lt c.1.1 c.1.0) as (λ t. (b : ℕ) × (bs : List ℕ) × ((if t then element_entry notation.syntax notation.before name 45 (c.1.0 - c.1.1) c.0
    else element_entry notation.syntax notation.after name 43 (c.1.1 - c.1.0) c.0) ≡ b ∷ bs)) [
      | true ↦ entry_first notation.syntax notation.before name 45 (c.1.0 - c.1.1) c.0
      | false ↦ entry_first notation.syntax notation.after name 43 (c.1.1 - c.1.0) c.0
    ]

-- so the changes of a cell that both have are below its entry
pub below_both : (notation : Notation) (name : List ℕ) (c : Element × (ℕ × ℕ)) (rest : List ℕ) →
    below_name notation.syntax true true name (change_entry notation name c ++ rest) ≡ place_entry notation.syntax name ++ (change_entry notation name c ++ rest)
below_both notation name c rest =
    let some = change_first notation name c in
    subst (λ (t : List ℕ). below_name notation.syntax true true name (t ++ rest) ≡ place_entry notation.syntax name ++ (t ++ rest)) (sym some.2) refl

-- ---- the units

pub units_parts : (syntax : Syntax) (u v : Ratio) → same_ratio u v ≡ false → unit_changes syntax u v ≡ unit_entry syntax 45 u ++ unit_entry syntax 43 v
units_parts syntax u v e = ap (λ b. if b then [] else unit_entry syntax 45 u ++ unit_entry syntax 43 v) e
