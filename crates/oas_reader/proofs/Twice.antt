-- The names of cells, one after another.
use Rattle.std.proofs.Common.{◌≡◌, ℕ, zero, suc, ◌<◌, List, [], ◌∷◌, ◌++◌, Bool, true, false, ◌||◌, Option, None, Some, length, take, drop, get_or, refl, sym, ◌∙◌, ap}
use Rattle.std.proofs.Common.{arith}
use Rattle.std.specs.Prelude.{map}
use Rattle.std.specs.List.{list_any}
use Rattle.std.specs.Cmp.Lexicographic.{nat_list_eq_equiv}
use Rattle.std.proofs.lemmas.List.Folds.{list_any-append}
use Rattle.oas_reader.specs.Names.{same_string}
use Rattle.oas_record.specs.declared.references.CellRef.{CellRef}
use Rattle.oas_reader.specs.References.{cell_by}
use Rattle.oas_reader.specs.Meaning.{with_name, names_meant, has_twice}

-- the names of one list and then another
names_append : (names : List (ℕ × List ℕ)) (cs ds : List CellRef) → names_meant names (cs ++ ds) ≡ names_meant names cs ++ names_meant names ds
names_append names [] ds = refl
names_append names (c ∷ cs) ds = ap (with_name (cell_by names c)) (names_append names cs ds) ∙ by (cell_by names c) where
  by : (o : Option (List ℕ)) → with_name o (names_meant names cs ++ names_meant names ds) ≡ with_name o (names_meant names cs) ++ names_meant names ds
  by None = refl
  by (Some name) = refl

-- a name that isn't among those before it, no two of which are equal, leaves it so
pub once_at : (ks : List (List ℕ)) (n : List ℕ) → list_any (same_string n) ks ≡ false → has_twice ks ≡ false → has_twice (ks ++ n ∷ []) ≡ false
once_at [] n h t = refl
once_at (k ∷ ks) n h t = by (same_string n k) (list_any (same_string k) ks) refl refl h t (λ u v. once_at ks n u v) where
  by : (a b : Bool) → same_string n k ≡ a → list_any (same_string k) ks ≡ b → (a || list_any (same_string n) ks) ≡ false → (b || has_twice ks) ≡ false
      → (list_any (same_string n) ks ≡ false → has_twice ks ≡ false → has_twice (ks ++ n ∷ []) ≡ false) → has_twice (k ∷ (ks ++ n ∷ [])) ≡ false
  by true b e f h t later = cc
  by false true e f h t later = cc
  by false false e f h t later =
      let here : same_string k n ≡ false = nat_list_eq_equiv.symm k n ∙ e in
      let none : list_any (same_string k) (ks ++ n ∷ []) ≡ false =
      list_any-append (same_string k) ks (n ∷ []) ∙ (λ i. f i || (here i || false)) in
      (λ i. none i || later h t i)

-- the names with one more cell, which has no name
pub names_none : (names : List (ℕ × List ℕ)) (cs : List CellRef) (c : CellRef) → cell_by names c ≡ None → names_meant names (cs ++ c ∷ []) ≡ names_meant names cs
names_none names cs c e = names_append names cs (c ∷ []) ∙ ap (λ (o : Option (List ℕ)). names_meant names cs ++ with_name o []) e ∙ nil (names_meant names cs) where
  nil : (ns : List (List ℕ)) → ns ++ [] ≡ ns
  nil [] = refl
  nil (n ∷ ns) = ap (λ (ms : List (List ℕ)). n ∷ ms) (nil ns)

-- the names with one more cell, which has one, and those after it
pub names_some : (names : List (ℕ × List ℕ)) (cs ds : List CellRef) (c : CellRef) (n : List ℕ) → cell_by names c ≡ Some n
    → names_meant names (cs ++ c ∷ ds) ≡ names_meant names cs ++ n ∷ names_meant names ds
names_some names cs ds c n e = names_append names cs (c ∷ ds) ∙ ap (λ (o : Option (List ℕ)). names_meant names cs ++ with_name o (names_meant names ds)) e

-- a list at one of its places
pub split_at : {X : Type 0} (xs : List X) (i : ℕ) (x : X) → i < length xs → x ≡ get_or xs i x → xs ≡ take i xs ++ x ∷ drop (suc i) xs
split_at [] i x h e = absurd (omega arith)
split_at (y ∷ ys) zero x h e = ap (λ z. z ∷ ys) (sym e)
split_at {X} (y ∷ ys) (suc i) x h e = ap (λ (zs : List X). y ∷ zs) (split_at ys i x (omega arith) e)

pub take_one : {X : Type 0} (xs : List X) (i : ℕ) (x : X) → i < length xs → x ≡ get_or xs i x → take (suc i) xs ≡ take i xs ++ x ∷ []
take_one [] i x h e = absurd (omega arith)
take_one (y ∷ ys) zero x h e = ap (λ z. z ∷ []) (sym e)
take_one {X} (y ∷ ys) (suc i) x h e = ap (λ (zs : List X). y ∷ zs) (take_one ys i x (omega arith) e)

map_append : {S : Type 0} (f : S → CellRef) (ss rs : List S) → map f (ss ++ rs) ≡ map f ss ++ map f rs
map_append f [] rs = refl
map_append f (s ∷ ss) rs = ap (λ (cs : List CellRef). f s ∷ cs) (map_append f ss rs)

-- one more cell, and the cells after it
pub one_cell : {S : Type 0} (f : S → CellRef) (ss : List S) (i : ℕ) (s : S) → i < length ss → s ≡ get_or ss i s → map f (take (suc i) ss) ≡ map f (take i ss) ++ f s ∷ []
one_cell {S} f ss i s h e = ap (λ (rs : List S). map f rs) (take_one ss i s h e) ∙ map_append f (take i ss) (s ∷ [])

pub cells_split : {S : Type 0} (f : S → CellRef) (ss : List S) (i : ℕ) (s : S) → i < length ss → s ≡ get_or ss i s → map f ss ≡ map f (take i ss) ++ f s ∷ map f (drop (suc i) ss)
cells_split {S} f ss i s h e = ap (λ (rs : List S). map f rs) (split_at ss i s h e) ∙ map_append f (take i ss) (s ∷ drop (suc i) ss)

-- what is still to come
pub drop_one : {X : Type 0} (xs : List X) (i : ℕ) (x : X) → i < length xs → x ≡ get_or xs i x → drop i xs ≡ x ∷ drop (suc i) xs
drop_one [] i x h e = absurd (omega arith)
drop_one (y ∷ ys) zero x h e = ap (λ z. z ∷ ys) (sym e)
drop_one (y ∷ ys) (suc i) x h e = drop_one ys i x (omega arith) e
