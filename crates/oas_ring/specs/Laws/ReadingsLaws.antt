-- The readings of a ring are the lists that are the same ring. One of them is the least, and rings are the same exactly if
-- their least readings are equal lists.
use Rattle.std.proofs.Common.{◌≡◌, ◌≢◌, ◌↔◌, ◌||◌, ℕ, ◌-◌, ◌<◌, ◌≤◌, Bool, true, false, true≢false, cond, IsTrue, List, [], ◌∷◌, ◌++◌, length, take, refl, sym, ap, ◌∙◌, subst, inl}
use Rattle.std.proofs.Common.{inr, ⊎_elim, append_assoc, arith}
use Rattle.std.specs.Prelude.{reverse}
use Rattle.std.specs.List.{AllByRecursion}
use Rattle.std.specs.Ordering.{is_lt, eq_by_cmp}
use Rattle.std.specs.Cmp.{both_ways}
use Rattle.std.specs.declared.cmp.Ordering.TheVariants.{Less, Equal, Greater}
use Rattle.std.proofs.lemmas.List.{append-nil, length-reverse, drop_all, take_all}
use Rattle.std.proofs.lemmas.Bool.{cases_lt}
use Rattle.oas_ring.specs.declared.point.Point.{Point}
use Rattle.oas_ring.specs.declared.readings.Reading.{Reading}
use Rattle.oas_ring.specs.Points.{list_cmp}
use Rattle.oas_ring.specs.Laws.PointsLaws.{equal_lists, equal_if_neither_below, not_below_itself, below_one_way, not_below_twice}
use Rattle.oas_ring.specs.Rings.{rotation, IsRotation, SameRing}
use Rattle.oas_ring.specs.Laws.RingsLaws.{rotation_of_parts, parts_of_rotation, same_ring_itself, same_ring_back, same_ring_twice, length-rotation, length-same_ring}
use Rattle.oas_ring.specs.Readings.{reading_of, IsLeastReadingOf, rotations_from, readings, is_among, is_same_ring, lesser, least_among, least_of}

-- a reading is as long as the ring
pub length-reading_of : (p : List Point) (r : Reading) → length (reading_of p r) ≡ length p
length-reading_of p r =
    let back = rotation (length p - 1 - r.start) (reverse p) in
    elim r.backwards as (λ b. length (cond b back (rotation r.start p)) ≡ length p) [
      | true ↦ length-rotation (length p - 1 - r.start) (reverse p) ∙ length-reverse p
      | false ↦ length-rotation r.start p
    ]

-- each reading is the same ring
pub same_ring-reading_of : (p : List Point) (r : Reading) → SameRing p (reading_of p r)
same_ring-reading_of p r =
    let back = rotation (length p - 1 - r.start) (reverse p) in
    elim r.backwards as (λ b. SameRing p (cond b back (rotation r.start p))) [
      | true ↦ inr (length p - 1 - r.start, refl)
      | false ↦ inl (r.start, refl)
    ]

-- q is a reading of p
pub record ReadFrom (p q : List Point) : Type 0 where
  pub reading : Reading
  pub within : reading.start < length p
  pub is : q ≡ reading_of p reading

-- a place within the list gives the same rotation as any other
pub place_within : (k : ℕ) (p : List Point) → 0 < length p
    → (j : ℕ) × (j < length p) × (rotation k p ≡ rotation j p)
place_within k p some = ⊎_elim (λ (h : k < length p). (k, h, refl))
    (λ (h : length p ≤ k). (0, some, ap (λ t. t ++ take k p) (drop_all k p h) ∙ take_all k p h ∙ sym (append-nil p)))
    (cases_lt k (length p))

-- the lists of the same ring are the readings
pub read_from_same_ring : (p q : List Point) → 0 < length p → SameRing p q → ReadFrom p q
read_from_same_ring p q some h =
    ⊎_elim
    (λ (f : IsRotation p q).
    let j = place_within f.0 p some in
    record { reading = record { start = j.0; backwards = false }; within = j.1; is = f.1 ∙ j.2 })
    (λ (b : IsRotation (reverse p) q).
    let same : length (reverse p) ≡ length p = length-reverse p in
    let j = place_within b.0 (reverse p) (omega arith) in
    let start : ℕ = length p - 1 - j.0 in
    let back : j.0 ≡ length p - 1 - start = omega arith in
    record {
      reading = record { start = start; backwards = true };
      within = omega arith;
      is = b.1 ∙ j.2 ∙ ap (λ t. rotation t (reverse p)) back;
    })
    h

-- rings are the same exactly if their least readings are equal lists
pub same_exactly_if_least : (p q a b : List Point) → IsLeastReadingOf p a → IsLeastReadingOf q b
    → SameRing p q ↔ (a ≡ b)
same_exactly_if_least p q a b g h = (
  λ s.
      let ab : SameRing a b = same_ring_twice a p b (same_ring_back p a g.same) (same_ring_twice p q b s h.same) in
      equal_if_neither_below a b (h.least a (same_ring_back a b ab)) (g.least b ab),
  λ e. same_ring_twice p a q g.same (same_ring_back q a (subst (λ (t : List Point). SameRing q t) (sym e) h.same)),
)

-- a ring has no two least readings
pub one_least_reading : (p a b : List Point) → IsLeastReadingOf p a → IsLeastReadingOf p b → a ≡ b
one_least_reading p a b g h = let same = same_exactly_if_least p p a b g h in same.0 (same_ring_itself p)

-- what holds for the lists of both parts holds for all
all-append : (P : List Point → Type 0) (xs ys : List (List Point)) → AllByRecursion P xs → AllByRecursion P ys
    → AllByRecursion P (xs ++ ys)
all-append P [] ys h k = k
all-append P (x ∷ xs) ys h k = (h.0, all-append P xs ys h.1 k)

-- a weaker fact holds for all of them too
all-weaker : (P Q : List Point → Type 0) → ((q : List Point) → P q → Q q) → (xs : List (List Point))
    → AllByRecursion P xs → AllByRecursion Q xs
all-weaker P Q f [] h = tt
all-weaker P Q f (x ∷ xs) h = (f x h.0, all-weaker P Q f xs h.1)

-- the rotations from a place on are rotations
rotations_all : (front back : List Point)
    → AllByRecursion (IsRotation (front ++ back)) (rotations_from front back)
rotations_all front [] = (
  rotation_of_parts (front ++ []) front (record { front = front; back = []; whole = refl; turned = refl }),
  tt,
)
rotations_all front (x ∷ back) = (
  rotation_of_parts (front ++ x ∷ back) (x ∷ back ++ front)
      (record { front = front; back = x ∷ back; whole = refl; turned = refl }),
  subst (λ (l : List Point). AllByRecursion (IsRotation l) (rotations_from (front ++ x ∷ []) back))
      (append_assoc front (x ∷ []) back) (rotations_all (front ++ x ∷ []) back),
)

-- each reading is the same ring
pub readings_all : (p : List Point) → AllByRecursion (SameRing p) (readings p)
readings_all p =
    all-append (SameRing p) _ _
    (all-weaker _ _ (λ q r. inl r) _ (rotations_all [] p))
    (all-weaker _ _ (λ q r. inr r) _ (rotations_all [] (reverse p)))

-- it also holds where its second part does
or_right : (a b : Bool) → b ≡ true → (a || b) ≡ true
or_right true b e = refl
or_right false b e = e

-- and where its first part does
or_left : (a b : Bool) → a ≡ true → (a || b) ≡ true
or_left true b e = refl
or_left false b e = absurd (true≢false (sym e))

-- a list is found among those of two lists where it is among the first or the second
any-append : (q : List Point) (xs ys : List (List Point))
    → is_among q (xs ++ ys) ≡ (is_among q xs || is_among q ys)
any-append q [] ys = refl
any-append q (x ∷ xs) ys =
    elim (eq_by_cmp list_cmp q x) as (λ b. (b || is_among q (xs ++ ys)) ≡ ((b || is_among q xs) || is_among q ys)) [
      | true ↦ refl
      | false ↦ any-append q xs ys
    ]

-- what holds for each list holds for one that is found among them
found : (P : List Point → Type 0) (q : List Point) (xs : List (List Point)) → AllByRecursion P xs
    → is_among q xs ≡ true → P q
found P q [] all e = absurd (true≢false (sym e))
found P q (x ∷ xs) all e =
    elim (eq_by_cmp list_cmp q x) as (λ b. eq_by_cmp list_cmp q x ≡ b → (b || is_among q xs) ≡ true → P q) [
      | true ↦ λ h _. let same = equal_lists q x in subst P (sym (same.0 h)) all.0
      | false ↦ λ h f. found P q xs all.1 f
    ] refl e

-- an equal list passes the test
itself : (p q : List Point) → p ≡ q → eq_by_cmp list_cmp p q ≡ true
itself p q e = let same = equal_lists p q in same.1 e

-- a rotation is found among the rotations
rotations_has : (front e b q : List Point) → q ≡ b ++ (front ++ e)
    → is_among q (rotations_from front (e ++ b)) ≡ true
rotations_has front [] [] q h = or_left _ _ (itself q front (h ∙ append-nil front))
rotations_has front [] (x ∷ b) q h =
    or_left _ _ (itself q (x ∷ b ++ front) (h ∙ ap (λ (l : List Point). x ∷ b ++ l) (append-nil front)))
rotations_has front (x ∷ e) b q h =
    or_right _ _ (rotations_has (front ++ x ∷ []) e b q
    (h ∙ ap (λ (l : List Point). b ++ l) (sym (append_assoc front (x ∷ []) e))))

-- each rotation of a list is among its rotations
rotation_has : (p q : List Point) → IsRotation p q
    → is_among q (rotations_from [] p) ≡ true
rotation_has p q r =
    let t = parts_of_rotation p q r in
    subst (λ (l : List Point). is_among q (rotations_from [] l) ≡ true) (sym t.whole)
    (rotations_has [] t.front t.back q t.turned)

-- each list of the same ring is among the readings
readings_has : (p q : List Point) → SameRing p q → is_same_ring p q ≡ true
readings_has p q h =
    let either = any-append q (rotations_from [] p) (rotations_from [] (reverse p)) in
    ⊎_elim
    (λ (f : IsRotation p q). either ∙ or_left _ _ (rotation_has p q f))
    (λ (b : IsRotation (reverse p) q). either ∙ or_right _ _ (rotation_has (reverse p) q b))
    h

-- the test is true exactly for the same ring
pub is_same_ring-SameRing : (p q : List Point) → IsTrue (is_same_ring p q) ↔ SameRing p q
is_same_ring-SameRing p q = (λ t. found (SameRing p) q (readings p) (readings_all p) t, λ h. readings_has p q h)

-- what holds for a list and for the others holds for the least of them
least-in : (P : List Point → Type 0) (p : List Point) (qs : List (List Point)) → P p → AllByRecursion P qs
    → P (least_among p qs)
least-in P p [] h all = h
least-in P p (q ∷ qs) h all =
    least-in P (lesser p q) qs (elim (is_lt (list_cmp q p)) as (λ b. P (cond b q p)) [ true ↦ all.0 | false ↦ h ]) all.1

-- the first of two lists is not below the lesser of them
lesser-first : (p q : List Point) → list_cmp p (lesser p q) ≢ Less
lesser-first p q = elim (list_cmp q p) as (λ r. list_cmp q p ≡ r → list_cmp p (cond (is_lt r) q p) ≢ Less) [
  | Less ↦ λ e. below_one_way q p e
  | Equal ↦ λ e. not_below_itself p
  | Greater ↦ λ e. not_below_itself p
] refl

-- nor is the second
lesser-second : (p q : List Point) → list_cmp q (lesser p q) ≢ Less
lesser-second p q = elim (list_cmp q p) as (λ r. list_cmp q p ≡ r → list_cmp q (cond (is_lt r) q p) ≢ Less) [
  | Less ↦ λ e. not_below_itself q
  | Equal ↦ λ e l. let x : Equal ≡ Less = sym e ∙ l in cc
  | Greater ↦ λ e l. let x : Greater ≡ Less = sym e ∙ l in cc
] refl

-- the list is not below the least of it and the others
least-first : (p : List Point) (qs : List (List Point)) → list_cmp p (least_among p qs) ≢ Less
least-first p [] = not_below_itself p
least-first p (q ∷ qs) =
    not_below_twice p (lesser p q) (least_among (lesser p q) qs) (lesser-first p q) (least-first (lesser p q) qs)

-- nor is any of the others
least-any : (p : List Point) (qs : List (List Point))
    → AllByRecursion (λ q. list_cmp q (least_among p qs) ≢ Less) qs
least-any p [] = tt
least-any p (q ∷ qs) = (
  not_below_twice q (lesser p q) (least_among (lesser p q) qs) (lesser-second p q) (least-first (lesser p q) qs),
  least-any (lesser p q) qs,
)

-- each ring has a least reading
pub least_of-IsLeastReadingOf : (p : List Point) → IsLeastReadingOf p (least_of p)
least_of-IsLeastReadingOf p =
    let same : SameRing p (least_of p) = least-in (SameRing p) p (readings p) (same_ring_itself p) (readings_all p) in
    record {
      same = same;
      least = λ q h.
          found (λ q. list_cmp q (least_of p) ≢ Less) q (readings p) (least-any p (readings p))
          (readings_has p q (same_ring_twice p (least_of p) q same h));
    }

-- and no other
pub least_of-is : (p a : List Point) → IsLeastReadingOf p a → a ≡ least_of p
least_of-is p a h = one_least_reading p a (least_of p) h (least_of-IsLeastReadingOf p)

-- rings are the same exactly if their least readings are equal
pub least_of-same_ring : (p q : List Point) → SameRing p q ↔ (least_of p ≡ least_of q)
least_of-same_ring p q =
    same_exactly_if_least p q (least_of p) (least_of q) (least_of-IsLeastReadingOf p) (least_of-IsLeastReadingOf q)

-- so the test compares the least readings
pub is_same_ring-is : (p q : List Point) → is_same_ring p q ≡ eq_by_cmp list_cmp (least_of p) (least_of q)
is_same_ring-is p q =
    let test = is_same_ring-SameRing p q in
    let same = least_of-same_ring p q in
    let equal = equal_lists (least_of p) (least_of q) in
    both_ways _ _ (λ t. equal.1 (same.0 (test.0 t))) (λ t. test.1 (same.1 (equal.0 t)))

-- the least reading of a least reading is itself
pub least_of-least_of : (p : List Point) → least_of (least_of p) ≡ least_of p
least_of-least_of p =
    let least = least_of-IsLeastReadingOf p in
    let same = least_of-same_ring (least_of p) p in
    same.0 (same_ring_back p (least_of p) least.same)

-- a ring has as many points, however it is read
pub length-least_of : (p : List Point) → length (least_of p) ≡ length p
length-least_of p = let least = least_of-IsLeastReadingOf p in length-same_ring p (least_of p) least.same
