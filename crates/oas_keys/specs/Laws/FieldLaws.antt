-- Strings, turns and lists of points are ordered as their bytes are, whatever follows them.
use Rattle.std.proofs.Common.{◌≡◌, ℕ, ◌+◌, ◌-◌, ◌*◌, ◌<◌, ◌^◌, ℤ, pos, negsuc, ◌-ℤ◌, ◌<ℤ◌, ◌≤ℤ◌, Bool, true, false, List, [], ◌∷◌, ◌++◌, refl, sym, ap, ◌∙◌, subst, append_assoc, arith}
use Rattle.std.specs.Ordering.{nat_cmp, int_cmp, bool_cmp, ordering_then, MatchOrdering}
use Rattle.std.specs.declared.cmp.Ordering.{Ordering}
use Rattle.std.specs.declared.cmp.Ordering.TheVariants.{Less, Equal, Greater}
use Rattle.std.specs.Cmp.{nat_cmp_is, int_cmp_is, int_ranks}
use Rattle.std.specs.Cmp.Lexicographic.{slice_cmp}
use Rattle.std.proofs.lemmas.Int.{ints}
use Rattle.oas_ring.specs.declared.point.Point.{Point}
use Rattle.oas_ring.specs.Points.{point_cmp, list_cmp}
use Rattle.oas_ring.specs.Laws.PointsLaws.{exact_points}
use Rattle.oas_elements.specs.declared.element.Turns.{Turns}
use Rattle.oas_elements.specs.Element.{turn_count}
use Rattle.oas_elements.specs.Grid.{is_coordinate, is_grid_point}
use Rattle.oas_keys.specs.Numbers.{IsStep, signed_key}
use Rattle.oas_keys.specs.Keys.{text_key, step_key, points_key, turned_key, flip_count}
use Rattle.oas_keys.specs.Laws.NumberLaws.{Decided, signed_order, then_assoc, by_parts, added, signed_begins}

-- the same with a name of its own
pub record Ordered (o : Ordering) (a b : List ℕ) : Type 0 where
  pub at : Decided o a b

-- one part after another
infixr 30 ◌▸◌
pub ◌▸◌ : {r s : Ordering} {a b c d : List ℕ} → Ordered r a b → Ordered s c d → Ordered (ordering_then r s) (a ++ c) (b ++ d)
◌▸◌ {r} {s} {a} {b} {c} {d} h k = record { at = both }
  where
    both : Decided (ordering_then r s) (a ++ c) (b ++ d)
    both us vs =
        let first = h.at (c ++ us) (d ++ vs) in
        rw (append_assoc a c us, append_assoc b d vs) (first ∙ ap (λ (o : Ordering). ordering_then r o) (k.at us vs) ∙ sym (then_assoc r s (slice_cmp nat_cmp us vs)))

-- one comparison in place of another
pub ordered_as : {r s : Ordering} {a b : List ℕ} → r ≡ s → Ordered r a b → Ordered s a b
ordered_as {r} {s} {a} {b} e h = subst (λ (o : Ordering). Ordered o a b) e h

-- no byte is 0
abbrev pub NoZero : List ℕ → Type 0
NoZero [] = Unit {0}
NoZero (b ∷ bs) = (0 < b) × NoZero bs

zero_below : (b : ℕ) → 0 < b → nat_cmp 0 b ≡ Less
zero_below b h = sym (nat_cmp_is 0 b Less h)

zero_above : (b : ℕ) → 0 < b → nat_cmp b 0 ≡ Greater
zero_above b h = sym (nat_cmp_is b 0 Greater h)

-- strings are ordered as their bytes are
pub text_order : (a b : List ℕ) → NoZero a → NoZero b → Decided (slice_cmp nat_cmp a b) (text_key a) (text_key b)
text_order [] [] p q us vs = refl
text_order [] (y ∷ ys) p q us vs = ap (λ (o : Ordering). ordering_then o (slice_cmp nat_cmp us ((ys ++ 0 ∷ []) ++ vs))) (zero_below y q.0)
text_order (x ∷ xs) [] p q us vs = ap (λ (o : Ordering). ordering_then o (slice_cmp nat_cmp ((xs ++ 0 ∷ []) ++ us) vs)) (zero_above x p.0)
text_order (x ∷ xs) (y ∷ ys) p q us vs =
    ap (λ (o : Ordering). ordering_then (nat_cmp x y) o) (text_order xs ys p.1 q.1 us vs)
    ∙ sym (then_assoc (nat_cmp x y) (slice_cmp nat_cmp xs ys) (slice_cmp nat_cmp us vs))

flip_small : (f : Bool) → flip_count f < 2
flip_small false = omega arith
flip_small true = omega arith

flip_order : (f g : Bool) → nat_cmp (flip_count f) (flip_count g) ≡ bool_cmp f g
flip_order false false = refl
flip_order false true = refl
flip_order true false = refl
flip_order true true = refl

-- turns and flips
pub turned_order : (s t : Turns) (f g : Bool) → Decided (ordering_then (nat_cmp (turn_count s) (turn_count t)) (bool_cmp f g)) (turned_key s f) (turned_key t g)
turned_order s t f g us vs =
    ap (λ (o : Ordering). ordering_then o (slice_cmp nat_cmp us vs))
    (added 1 (turn_count s * 2 + flip_count f) (turn_count t * 2 + flip_count g)
    ∙ by_parts (turn_count s) (flip_count f) (turn_count t) (flip_count g) 2 (flip_small f) (flip_small g)
    ∙ ap (λ (o : Ordering). ordering_then (nat_cmp (turn_count s) (turn_count t)) o) (flip_order f g))

-- a coordinate is within the grid
pub coordinate_bounds : (x : ℤ) → is_coordinate x ≡ true → (negsuc (2 ^ 60 - 1) ≤ℤ x) × (x ≤ℤ pos (2 ^ 60))
coordinate_bounds x h = grind (arith, ints)

-- a list's points are within the grid
abbrev pub AreWithin : List Point → Type 0
AreWithin [] = Unit {0}
AreWithin (p ∷ ps) = (is_grid_point p ≡ true) × AreWithin ps

-- between two coordinates
pub step_within : (x y : ℤ) → is_coordinate x ≡ true → is_coordinate y ≡ true → IsStep (y -ℤ x)
step_within x y p q =
    let a : (negsuc (2 ^ 60 - 1) ≤ℤ x) × (x ≤ℤ pos (2 ^ 60)) = coordinate_bounds x p in
    let b : (negsuc (2 ^ 60 - 1) ≤ℤ y) × (y ≤ℤ pos (2 ^ 60)) = coordinate_bounds y q in
    record { above = omega (arith, ints); below = omega (arith, ints) }

-- a coordinate is such a number too
pub coordinate_fits : (x : ℤ) → is_coordinate x ≡ true → IsStep x
coordinate_fits x h =
    let a : (negsuc (2 ^ 60 - 1) ≤ℤ x) × (x ≤ℤ pos (2 ^ 60)) = coordinate_bounds x h in
    record { above = omega (arith, ints); below = omega (arith, ints) }

-- subtracting the same on both sides changes no comparison
taken : (a x y : ℤ) → int_cmp (x -ℤ a) (y -ℤ a) ≡ int_cmp x y
taken a x y = int_cmp_is x y (int_cmp (x -ℤ a) (y -ℤ a)) (match_of (int_cmp (x -ℤ a) (y -ℤ a)) (int_ranks (x -ℤ a) (y -ℤ a)))
  where
    match_of : (r : Ordering) → MatchOrdering r ((x -ℤ a) <ℤ (y -ℤ a)) ((x -ℤ a) ≡ (y -ℤ a)) ((y -ℤ a) <ℤ (x -ℤ a)) → MatchOrdering r (x <ℤ y) (x ≡ y) (y <ℤ x)
    match_of Less h = omega (arith, ints)
    match_of Equal h = omega (arith, ints)
    match_of Greater h = omega (arith, ints)

-- both parts of a grid point are coordinates
pub parts : (p : Point) → is_grid_point p ≡ true → (is_coordinate p.x ≡ true) × (is_coordinate p.y ≡ true)
parts p h = grind arith

-- the steps from one point to two others are ordered as these are
step_order : (q p r : Point) → is_grid_point q ≡ true → is_grid_point p ≡ true → is_grid_point r ≡ true
    → Ordered (point_cmp p r) (step_key q p) (step_key q r)
step_order q p r g h k =
    let a = parts q g in
    let b = parts p h in
    let c = parts r k in
    let x : Ordered (int_cmp (p.x -ℤ q.x) (r.x -ℤ q.x)) (signed_key (p.x -ℤ q.x)) (signed_key (r.x -ℤ q.x)) =
    record { at = signed_order (p.x -ℤ q.x) (r.x -ℤ q.x) (step_within q.x p.x a.0 b.0) (step_within q.x r.x a.0 c.0) } in
    let y : Ordered (int_cmp (p.y -ℤ q.y) (r.y -ℤ q.y)) (signed_key (p.y -ℤ q.y)) (signed_key (r.y -ℤ q.y)) =
    record { at = signed_order (p.y -ℤ q.y) (r.y -ℤ q.y) (step_within q.y p.y a.1 b.1) (step_within q.y r.y a.1 c.1) } in
    ordered_as (ap (λ (o : Ordering). ordering_then o (int_cmp (p.y -ℤ q.y) (r.y -ℤ q.y))) (taken q.x p.x r.x)
    ∙ ap (λ (o : Ordering). ordering_then (int_cmp p.x r.x) o) (taken q.y p.y r.y))
    (x ▸ y)

-- one part, and where it ties another after it
decided_until : (r s : Ordering) (a b c d : List ℕ) → Decided r a b → (r ≡ Equal → Decided s c d) → Decided (ordering_then r s) (a ++ c) (b ++ d)
decided_until Less s a b c d h k us vs = rw (append_assoc a c us, append_assoc b d vs) (h (c ++ us) (d ++ vs))
decided_until Equal s a b c d h k us vs = rw (append_assoc a c us, append_assoc b d vs) (h (c ++ us) (d ++ vs) ∙ k refl us vs)
decided_until Greater s a b c d h k us vs = rw (append_assoc a c us, append_assoc b d vs) (h (c ++ us) (d ++ vs))

-- so a list of points that has ended is below one that goes on
ended : (q r : Point) (rs : List Point) (us vs : List ℕ) → slice_cmp nat_cmp ((0 ∷ []) ++ us) (points_key q (r ∷ rs) ++ vs) ≡ Less
ended q r rs us vs =
    let b = signed_begins (r.x -ℤ q.x) in
    rw b.is
    (ap (λ (o : Ordering). ordering_then o (slice_cmp nat_cmp us (((b.rest ++ signed_key (r.y -ℤ q.y)) ++ points_key r rs) ++ vs))) (zero_below b.byte b.some))

goes_on : (q p : Point) (ps : List Point) (us vs : List ℕ) → slice_cmp nat_cmp (points_key q (p ∷ ps) ++ us) ((0 ∷ []) ++ vs) ≡ Greater
goes_on q p ps us vs =
    let b = signed_begins (p.x -ℤ q.x) in
    rw b.is
    (ap (λ (o : Ordering). ordering_then o (slice_cmp nat_cmp (((b.rest ++ signed_key (p.y -ℤ q.y)) ++ points_key p ps) ++ us) vs)) (zero_above b.byte b.some))

-- lists of points are ordered as their bytes are
pub points_order : (q : Point) (ps rs : List Point) → is_grid_point q ≡ true → AreWithin ps → AreWithin rs
    → Decided (list_cmp ps rs) (points_key q ps) (points_key q rs)
points_order q [] [] g h k us vs = refl
points_order q [] (r ∷ rs) g h k us vs = ended q r rs us vs
points_order q (p ∷ ps) [] g h k us vs = goes_on q p ps us vs
points_order q (p ∷ ps) (r ∷ rs) g h k us vs =
    decided_until (point_cmp p r) (list_cmp ps rs) (step_key q p) (step_key q r) (points_key p ps) (points_key r rs)
    (step_order q p r g h.0 k.0).at
    (λ e.
    let same : p ≡ r = exact_points p r e in
    subst (λ (t : Point). Decided (list_cmp ps rs) (points_key p ps) (points_key t rs)) same (points_order p ps rs h.0 h.1 k.1))
    us vs
