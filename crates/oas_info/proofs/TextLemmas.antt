-- Texts that grow by one piece after another.
use Rattle.std.proofs.Common.{◌≡◌, ℕ, ◌+◌, ◌<◌, List, [], ◌∷◌, ◌++◌, length, drop, get_or, drop-cons, flat_map, sym, ap, ◌∙◌, append_assoc, append-nil, add-one}

module _ {A : Type 0} (f : A → List ℕ) where
  next_is : (xs : List A) (i : ℕ) (d : A) → i < length xs → flat_map f (drop i xs) ≡ f (get_or xs i d) ++ flat_map f (drop (i + 1) xs)
  next_is xs i d lt = ap (flat_map f) (drop-cons xs i d lt ∙ ap (λ (k : ℕ). get_or xs i d ∷ drop k xs) (sym (add-one i)))

  -- the next item's piece was put
  pub item_put : (xs : List A) (i : ℕ) (d : A) (now new all : List ℕ) → i < length xs → now ++ flat_map f (drop i xs) ≡ all → new ≡ now ++ f (get_or xs i d) → new ++ flat_map f (drop (i + 1) xs) ≡ all
  item_put xs i d now new all lt left put =
      ap (λ (t : List ℕ). t ++ flat_map f (drop (i + 1) xs)) put
      ∙ append_assoc now (f (get_or xs i d)) (flat_map f (drop (i + 1) xs))
      ∙ ap (λ (t : List ℕ). now ++ t) (sym (next_is xs i d lt))
      ∙ left

  -- the same for what an iterator has left
  pub first_put : (left next : List A) (x : A) (now new all : List ℕ) → left ≡ x ∷ next → now ++ flat_map f left ≡ all → new ≡ now ++ f x → new ++ flat_map f next ≡ all
  first_put left next x now new all is h put =
      ap (λ (t : List ℕ). t ++ flat_map f next) put
      ∙ append_assoc now (f x) (flat_map f next)
      ∙ ap (λ (xs : List A). now ++ flat_map f xs) (sym is)
      ∙ h

  -- nothing is left
  pub none_left : (left : List A) (now all : List ℕ) → left ≡ [] → now ++ flat_map f left ≡ all → now ≡ all
  none_left left now all none h = sym (ap (λ (xs : List A). now ++ flat_map f xs) none ∙ append-nil now) ∙ h

-- ---- one piece after another

next : (now new piece left all : List ℕ) → now ++ (piece ++ left) ≡ all → new ≡ now ++ piece → new ++ left ≡ all
next now new piece left all h put = ap (λ (t : List ℕ). t ++ left) put ∙ append_assoc now piece left ∙ h

-- eight pieces, put after nothing
pub eight : (a b c d e f g h t0 t1 t2 t3 t4 t5 t6 t7 t8 : List ℕ) → t0 ≡ [] → t1 ≡ t0 ++ a → t2 ≡ t1 ++ b → t3 ≡ t2 ++ c → t4 ≡ t3 ++ d → t5 ≡ t4 ++ e → t6 ≡ t5 ++ f → t7 ≡ t6 ++ g → t8 ≡ t7 ++ h
    → t8 ≡ a ++ (b ++ (c ++ (d ++ (e ++ (f ++ (g ++ h))))))
eight a b c d e f g h t0 t1 t2 t3 t4 t5 t6 t7 t8 e0 e1 e2 e3 e4 e5 e6 e7 e8 =
    let all : List ℕ = a ++ (b ++ (c ++ (d ++ (e ++ (f ++ (g ++ h)))))) in
    let s0 = ap (λ (t : List ℕ). t ++ all) e0 in
    let s1 = next t0 t1 a (b ++ (c ++ (d ++ (e ++ (f ++ (g ++ h)))))) all s0 e1 in
    let s2 = next t1 t2 b (c ++ (d ++ (e ++ (f ++ (g ++ h))))) all s1 e2 in
    let s3 = next t2 t3 c (d ++ (e ++ (f ++ (g ++ h)))) all s2 e3 in
    let s4 = next t3 t4 d (e ++ (f ++ (g ++ h))) all s3 e4 in
    let s5 = next t4 t5 e (f ++ (g ++ h)) all s4 e5 in
    let s6 = next t5 t6 f (g ++ h) all s5 e6 in
    let s7 = next t6 t7 g h all s6 e7 in
    e8 ∙ s7
