-- Steps that are put one after another.
use Rattle.std.proofs.Common.{◌≡◌, true, false, Bool, ◌&&◌, ℕ, ◌+◌, ◌-◌, ◌<◌, List, [], ◌∷◌, ◌++◌, length, take, drop, refl, sym, ap, ◌∙◌, append_assoc, take-append-drop, arith}
use Rattle.std.specs.Prelude.{reverse}
use Rattle.std.proofs.lemmas.Bool.{cond-true, cond-false}
use Rattle.std.proofs.lemmas.List.{append-nil, reverse-append, length-reverse, length-drop, take_at, drop_at}
use Rattle.std.proofs.lemmas.List.Folds.{list_all-append}
use Rattle.std.specs.List.{list_all}
use Rattle.oas_ring.specs.declared.point.Point.{Point}
use Rattle.oas_ring.specs.declared.readings.Reading.{Reading}
use Rattle.oas_ring.specs.Readings.{reading_of}
use Rattle.oas_ring.specs.Rings.{rotation}
use Rattle.oas_elements.specs.Grid.{is_grid_point}
use Rattle.oas_keys.specs.Keys.{step_key, points_key}
use Rattle.oas_keys.specs.Laws.KeyLaws.{both}

-- of the steps from a point through all of these, those to the points that are left are still to be put
pub record Stepping (from before : Point) (all left : List Point) (was now : List ℕ) : Type 0 where
  pub items : (rest : List Point) → was ++ points_key from (all ++ rest) ≡ now ++ points_key before (left ++ rest)
  pub within : list_all is_grid_point left ≡ true
  pub inside : is_grid_point before ≡ true

-- none is put
pub starts : (from : Point) (all : List Point) (was : List ℕ) → list_all is_grid_point all ≡ true → is_grid_point from ≡ true → Stepping from from all all was was
starts from all was within inside = record { items = λ rest. refl; within = within; inside = inside }

-- the next is put
pub stepped : (from before point : Point) (all left more : List Point) (was now new : List ℕ) → Stepping from before all left was now → left ≡ point ∷ more
    → new ≡ now ++ step_key before point → Stepping from point all more was new
stepped from before point all left more was now new h split put =
    let here : list_all is_grid_point (point ∷ more) ≡ true = ap (list_all is_grid_point) (sym split) ∙ h.within in
    let parts = both (is_grid_point point) (list_all is_grid_point more) here in
    record {
      items = λ rest. h.items rest
          ∙ ap (λ (t : List Point). now ++ points_key before (t ++ rest)) split
          ∙ sym (append_assoc now (step_key before point) (points_key point (more ++ rest)))
          ∙ ap (λ (t : List ℕ). t ++ points_key point (more ++ rest)) (sym put);
      within = parts.1;
      inside = parts.0;
    }

-- all points are in the grid, in either order
pub all_reversed : (p : Point → Bool) (xs : List Point) → list_all p xs ≡ true → list_all p (reverse xs) ≡ true
all_reversed p [] h = refl
all_reversed p (x ∷ xs) h =
    let parts = both (p x) (list_all p xs) h in
    let back : list_all p (reverse xs) ≡ true = all_reversed p xs parts.1 in
    let one : list_all p (x ∷ []) ≡ true = ap (λ (b : Bool). b && true) parts.0 in
    ap (list_all p) (reverse-append (x ∷ []) xs) ∙ list_all-append p (reverse xs) (x ∷ []) ∙ (λ i. back i && one i)

-- a list is put in two parts, and then its end
pub two_parts : (from last end : Point) (all first second : List Point) (was now then new : List ℕ) → all ≡ first ++ second
    → ((rest : List Point) → was ++ points_key from (first ++ rest) ≡ now ++ points_key last rest)
    → ((rest : List Point) → now ++ points_key last (second ++ rest) ≡ then ++ points_key end rest)
    → new ≡ then ++ 0 ∷ [] → new ≡ was ++ points_key from all
two_parts from last end all first second was now then new split begun done put =
    put
    ∙ sym (done [])
    ∙ ap (λ (t : List Point). now ++ points_key last t) (append-nil second)
    ∙ sym (begun second)
    ∙ ap (λ (t : List Point). was ++ points_key from t) (sym split)

-- a reading in the order of the list is two parts of it
pub read_forwards : (p : List Point) (r : Reading) → r.backwards ≡ false → reading_of p r ≡ drop r.start p ++ take r.start p
read_forwards p r h = cond-false _ _ _ h

-- and one against the order
pub read_backwards : (p : List Point) (r : Reading) → r.backwards ≡ true → r.start < length p
    → reading_of p r ≡ reverse (take (r.start + 1) p) ++ reverse (drop (r.start + 1) p)
read_backwards p r h within =
    let front = take (r.start + 1) p in
    let back = drop (r.start + 1) p in
    let whole : reverse p ≡ reverse back ++ reverse front = ap reverse (sym (take-append-drop (r.start + 1) p)) ∙ reverse-append front back in
    let long : length (reverse back) ≡ length p - 1 - r.start = omega (arith, length-reverse back, length-drop (r.start + 1) p) in
    cond-true _ _ _ h
    ∙ ap (rotation (length p - 1 - r.start)) whole
    ∙ (λ i. drop_at (reverse back) (reverse front) _ long i ++ take_at (reverse back) (reverse front) _ long i)
