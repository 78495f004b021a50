-- The fields of a line, put in parts.
use Rattle.std.proofs.Common.{◌≡◌, ℕ, List, [], ◌∷◌, ◌++◌, map, flat_map, decimal, sym, ap, ◌∙◌, append_assoc, append-nil}
use Rattle.std.specs.Prelude.{ℤ, codes}
use Rattle.std.specs.Fmt.{signed_decimal}
use Rattle.std.proofs.lemmas.Grind.{flat_map-append}
use Rattle.std.proofs.lemmas.List.Folds.{flat_map-map}
use Rattle.oas_ring.specs.declared.point.Point.{Point}
use Rattle.oas_listing.specs.Lines.{behind_spaces, spaced, line}
use Rattle.oas_listing.specs.Listing.{fraction, pair}

-- the fields of two lists, one after another
pub two_lists : {A B : Type 0} (f : A → List ℕ) (h : B → List ℕ) (xs : List A) (ys : List B) → behind_spaces (map f xs ++ map h ys) ≡ flat_map (λ x. 32 ∷ f x) xs ++ flat_map (λ y. 32 ∷ h y) ys
two_lists f h xs ys = flat_map-append (λ field. 32 ∷ field) (map f xs) (map h ys) ∙ (λ i. flat_map-map (λ field. 32 ∷ field) f xs i ++ flat_map-map (λ field. 32 ∷ field) h ys i)

-- fields, and then those of a list
pub then_list : {A : Type 0} (f : A → List ℕ) (fields : List (List ℕ)) (xs : List A) → behind_spaces (fields ++ map f xs) ≡ behind_spaces fields ++ flat_map (λ x. 32 ∷ f x) xs
then_list f fields xs = flat_map-append (λ field. 32 ∷ field) fields (map f xs) ∙ ap (λ (b : List ℕ). behind_spaces fields ++ b) (flat_map-map (λ field. 32 ∷ field) f xs)

-- fields, and then one more
pub then_field : (fields : List (List ℕ)) (field : List ℕ) → behind_spaces (fields ++ field ∷ []) ≡ behind_spaces fields ++ (32 ∷ field)
then_field fields field = flat_map-append (λ field. 32 ∷ field) fields (field ∷ []) ∙ ap (λ (b : List ℕ). behind_spaces fields ++ (32 ∷ b)) (append-nil field)

-- ---- each kind's fields, as they are put

pub placement_fields : (cell : List ℕ) (x y : ℤ) (turns flip : ℕ)
    → spaced (codes "placement" ∷ cell ∷ signed_decimal x ∷ signed_decimal y ∷ decimal turns ∷ decimal flip ∷ []) ≡ codes "placement"
    ++ ((32 ∷ cell) ++ (flat_map (λ z. 32 ∷ signed_decimal z) (x ∷ y ∷ []) ++ flat_map (λ n. 32 ∷ decimal n) (turns ∷ flip ∷ [])))
placement_fields cell x y turns flip = ap (λ (b : List ℕ). codes "placement" ++ ((32 ∷ cell) ++ b)) (two_lists signed_decimal decimal (x ∷ y ∷ []) (turns ∷ flip ∷ []))

module _ (word : List ℕ) (fields : List (List ℕ)) where
  -- a word, fields and one more
  pub last_field : (field : List ℕ) → spaced (word ∷ fields ++ field ∷ []) ≡ spaced (word ∷ fields) ++ (32 ∷ field)
  last_field field = ap (λ (b : List ℕ). word ++ b) (then_field fields field) ∙ sym (append_assoc word (behind_spaces fields) (32 ∷ field))

  -- a word, fields and points
  pub point_fields : (points : List Point) → spaced (word ∷ fields ++ map pair points) ≡ spaced (word ∷ fields) ++ flat_map (λ p. 32 ∷ pair p) points
  point_fields points = ap (λ (b : List ℕ). word ++ b) (then_list pair fields points) ∙ sym (append_assoc word (behind_spaces fields) (flat_map (λ p. 32 ∷ pair p) points))

-- a word, one field and the line's end
one_field : (word field : List ℕ) → line (word ∷ field ∷ []) ≡ word ++ ((32 ∷ field) ++ 10 ∷ [])
one_field word field = ap (λ (b : List ℕ). (word ++ (32 ∷ b)) ++ 10 ∷ []) (append-nil field) ∙ append_assoc word (32 ∷ field) (10 ∷ [])

pub name_fields : (name : List ℕ) → line (codes "cell" ∷ name ∷ []) ≡ codes "cell" ++ ((32 ∷ name) ++ 10 ∷ [])
name_fields name = one_field (codes "cell") name

pub unit_fields : (num den : ℕ) → line (codes "unit" ∷ fraction (record { num = num; den = den }) ∷ []) ≡ codes "unit" ++ ((32 ∷ decimal num) ++ (47 ∷ (decimal den ++ 10 ∷ [])))
unit_fields num den = one_field (codes "unit") (fraction (record { num = num; den = den })) ∙ ap (λ (b : List ℕ). codes "unit" ++ (32 ∷ b)) (append_assoc (decimal num) (47 ∷ decimal den) (10 ∷ []))
