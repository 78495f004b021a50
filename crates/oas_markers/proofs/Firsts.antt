-- The first of some items, and how many there are.
use Rattle.std.proofs.Common.{◌≡◌, ℕ, zero, suc, ◌+◌, ◌<◌, List, [], ◌∷◌, ◌++◌, length, map, Bool, is_some, unwrap_or}
use Rattle.std.proofs.Common.{length-append, append_assoc, append-nil, refl, sym, ap, ◌∙◌, Result, Ok, Err, arith}
use Rattle.std.specs.Prelude.{◌-◌, OnOk}
use Rattle.oas_num.specs.Ratio.{Ratio}
use Rattle.oas_elements.specs.declared.element.Element.{Element}
use Rattle.oas_difference.specs.Held.{held_changed}
use Rattle.oas_markers.specs.Markers.{alone, change_item, first_items}
use Rattle.oas_difference.specs.Microns.{counted_to}
use Rattle.oas_markers.specs.Held.{Pair, held_item}

pub none_first : (n : ℕ) → first_items n [] ≡ []
none_first zero = refl
none_first (suc n) = refl

pub first_one : (n : ℕ) (item : List ℕ) → 0 < n → first_items n (item ∷ []) ≡ item
first_one zero item h = absurd (omega (arith, h))
first_one (suc n) item h = ap (λ (rest : List ℕ). item ++ rest) (none_first n) ∙ append-nil item

-- those of two lists, one after the other
pub first_more : (n : ℕ) (xs ys : List (List ℕ)) → first_items n (xs ++ ys) ≡ first_items n xs ++ first_items (n - length xs) ys
first_more n [] ys =
    let same : n ≡ n - 0 = omega arith in
    ap (λ (k : ℕ). first_items k ys) same ∙ ap (λ (front : List ℕ). front ++ first_items (n - 0) ys) (sym (none_first n))
first_more zero (x ∷ xs) ys =
    let none : 0 ≡ 0 - suc (length xs) = omega arith in
    ap (λ (k : ℕ). first_items k ys) none
first_more (suc n) (x ∷ xs) ys =
    let fewer : n - length xs ≡ suc n - suc (length xs) = omega arith in
    ap (λ (rest : List ℕ). x ++ rest) (first_more n xs ys ∙ ap (λ (k : ℕ). first_items n xs ++ first_items k ys) fewer)
    ∙ sym (append_assoc x (first_items n xs) (first_items (suc n - suc (length xs)) ys))

-- the same where the first list was put, and that many fewer are left
pub first_then : (n m : ℕ) (xs ys all : List (List ℕ)) → all ≡ xs ++ ys → m ≡ n - length xs → first_items n all ≡ first_items n xs ++ first_items m ys
first_then n m xs ys all e h = ap (first_items n) e ∙ first_more n xs ys ∙ ap (λ (k : ℕ). first_items n xs ++ first_items k ys) (sym h)

-- what follows from a result that is Ok
pub on_ok : {T E : Type 0} {P Q : Type 0} (r : Result T E) → (P → Q) → OnOk r P → OnOk r Q
on_ok (Ok value) f h = f h
on_ok (Err fault) f h = h

-- ---- how many

length_map : {A B : Type 0} (f : A → B) (xs : List A) → length (map f xs) ≡ length xs
length_map f [] = refl
length_map f (x ∷ xs) = ap suc (length_map f xs)

pub item_count : (u v : Ratio) (p : Pair) → length (held_item u v p) ≡ length (alone (is_some p.1.0) (is_some p.1.1) p.0) + length (held_changed (unwrap_or p.1.0 []) (unwrap_or p.1.1 []))
item_count u v p =
    let changes : List (Element × (ℕ × ℕ)) = held_changed (unwrap_or p.1.0 []) (unwrap_or p.1.1 []) in
    omega (
      arith,
      length-append (alone (is_some p.1.0) (is_some p.1.1) p.0) (map (change_item u v p.0) changes),
      length_map (change_item u v p.0) changes,
    )

-- what was counted of a cell
pub cell_count : (u v : Ratio) (p : Pair) (es fs : List (Element × ℕ)) (b c : Bool) (changes alone_count sum : ℕ) → es ≡ unwrap_or p.1.0 [] → fs ≡ unwrap_or p.1.1 []
    → b ≡ is_some p.1.0 → c ≡ is_some p.1.1 → changes ≡ counted_to (length (held_changed es fs)) → alone_count ≡ length (alone b c p.0)
    → sum ≡ counted_to (changes + alone_count) → sum ≡ counted_to (length (held_item u v p))
cell_count u v p es fs b c changes alone_count sum he hf hb hc hn ha hs =
    let few : changes ≡ counted_to (length (held_changed (unwrap_or p.1.0 []) (unwrap_or p.1.1 []))) = hn ∙ (λ i. counted_to (length (held_changed (he i) (hf i)))) in
    let one : alone_count ≡ length (alone (is_some p.1.0) (is_some p.1.1) p.0) = ha ∙ (λ i. length (alone (hb i) (hc i) p.0)) in
    omega (arith, few, one, hs, item_count u v p)
