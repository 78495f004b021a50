-- The one point below all others: what one more point changes, and that each least reading begins there.
use Rattle.std.proofs.Common.{◌≡◌, ◌≢◌, ℕ, ◌+◌, ◌-◌, ◌<◌, ◌≤◌, ◌<ℤ◌, ◌≤ℤ◌, Bool, true, false, IsTrue, List, length, drop, take, Ordering, refl, sym, ap, subst, ◌∙◌, ⊎_elim, arith, true≢false}
use Rattle.std.specs.Prelude.{reverse}
use Rattle.std.specs.Ordering.{int_cmp, ordering_then, ordering_reverse, MatchOrdering}
use Rattle.std.specs.declared.cmp.Ordering.TheVariants.{Less, Equal, Greater}
use Rattle.std.proofs.lemmas.Bool.{cases_lt, cases_eq}
use Rattle.std.proofs.lemmas.Cmp.{int_ranked, tied_itself}
use Rattle.std.proofs.lemmas.Int.{ints}
use Rattle.std.proofs.lemmas.List.{length-reverse, length-drop, get_or_append_left, get_or-drop, get_or-reverse}
use Rattle.oas_ring.specs.declared.point.Point.{Point}
use Rattle.oas_ring.specs.declared.readings.Reading.{Reading}
use Rattle.oas_ring.specs.Points.{origin, point_at, point_cmp, list_cmp}
use Rattle.oas_ring.specs.Rings.{rotation}
use Rattle.oas_ring.specs.Readings.{reading_of, IsLeastReadingOf}
use Rattle.oas_ring.specs.SoleLeast.{IsSoleLeast}
use Rattle.oas_ring.specs.Laws.PointsLaws.{points_total, below_one_way, not_below_itself, not_below_from_above, not_below_from_not_above}
use Rattle.oas_ring.specs.Laws.ReadingsLaws.{length-reading_of}
use Rattle.oas_ring.proofs.ReadingLemmas.{list_cmp_decided, least_from_all}

-- `least` is the point at `start`, none of the first k is below it, and where `sole`, each other one is above it
pub record IsLeastOf (p : List Point) (k start : ℕ) (least : Point) (sole : Bool) : Type 0 where
  pub within : start < k
  pub there : least ≡ point_at p start
  pub lowest : (t : ℕ) → t < k → point_cmp (point_at p t) least ≢ Less
  pub below : IsTrue sole → (t : ℕ) → t < k → t ≢ start → point_cmp least (point_at p t) ≡ Less

-- a comparison of two points by those of their axes
by_axes : (a b : Point) (P : Ordering → Type 0)
    → ((o r : Ordering) → MatchOrdering o (a.x <ℤ b.x) (a.x ≡ b.x) (b.x <ℤ a.x)
    → MatchOrdering r (a.y <ℤ b.y) (a.y ≡ b.y) (b.y <ℤ a.y) → P (ordering_then o r))
    → P (point_cmp a b)
by_axes a b P f =
    f (int_cmp a.x b.x) (int_cmp a.y b.y)
    (int_ranked a.x b.x (int_cmp a.x b.x) refl) (int_ranked a.y b.y (int_cmp a.y b.y) refl)

-- a lesser x decides
pub below_by_x : (a b : Point) → a.x <ℤ b.x → point_cmp a b ≡ Less
below_by_x a b h = by_axes a b (λ o. o ≡ Less) at
  where
    at : (o r : Ordering) → MatchOrdering o (a.x <ℤ b.x) (a.x ≡ b.x) (b.x <ℤ a.x)
        → MatchOrdering r (a.y <ℤ b.y) (a.y ≡ b.y) (b.y <ℤ a.y) → ordering_then o r ≡ Less
    at Less r k l = refl
    at Equal r k l = absurd (omega (arith, ints))
    at Greater r k l = absurd (omega (arith, ints))

-- so does a lesser y where x is no greater
pub below_by_y : (a b : Point) → a.x ≤ℤ b.x → a.y <ℤ b.y → point_cmp a b ≡ Less
below_by_y a b h g = by_axes a b (λ o. o ≡ Less) at
  where
    at : (o r : Ordering) → MatchOrdering o (a.x <ℤ b.x) (a.x ≡ b.x) (b.x <ℤ a.x)
        → MatchOrdering r (a.y <ℤ b.y) (a.y ≡ b.y) (b.y <ℤ a.y) → ordering_then o r ≡ Less
    at Less r k l = refl
    at Equal Less k l = refl
    at Equal Equal k l = absurd (omega (arith, ints))
    at Equal Greater k l = absurd (omega (arith, ints))
    at Greater r k l = absurd (omega (arith, ints))

-- a point is not below one that is no greater on either axis
pub not_below_by_axes : (a b : Point) → b.x ≤ℤ a.x → b.y ≤ℤ a.y → point_cmp a b ≢ Less
not_below_by_axes a b h g = by_axes a b (λ o. o ≢ Less) at
  where
    at : (o r : Ordering) → MatchOrdering o (a.x <ℤ b.x) (a.x ≡ b.x) (b.x <ℤ a.x)
        → MatchOrdering r (a.y <ℤ b.y) (a.y ≡ b.y) (b.y <ℤ a.y) → ordering_then o r ≢ Less
    at Less r k l e = absurd (omega (arith, ints))
    at Equal Less k l e = absurd (omega (arith, ints))
    at Equal Equal k l e = cc
    at Equal Greater k l e = cc
    at Greater r k l e = cc

-- at most one of two points is below the other
above : (a b : Point) → point_cmp a b ≡ Less → point_cmp b a ≢ Less
above a b e l = let f : point_cmp b a ≡ Greater = points_total.antisymm b a ∙ ap ordering_reverse e in cc

-- a point that is below one with no other below it, is below each other
below_lowest : (a b t : Point) → point_cmp a b ≡ Less → point_cmp t b ≢ Less → point_cmp a t ≡ Less
below_lowest a b t e n = at (point_cmp t b) refl
  where
    at : (o : Ordering) → point_cmp t b ≡ o → point_cmp a t ≡ Less
    at Less f = absurd (n f)
    at Equal f =
        let same : point_cmp t a ≡ point_cmp b a = points_total.congr t b a f in
        points_total.antisymm a t ∙ ap ordering_reverse same ∙ sym (points_total.antisymm a b) ∙ e
    at Greater f = points_total.trans a b t e (points_total.antisymm b t ∙ ap ordering_reverse f)

-- a point below the least so far is the least, and the only one
pub lower : (p : List Point) (k start : ℕ) (least : Point) (sole : Bool) → IsLeastOf p k start least sole
    → point_cmp (point_at p k) least ≡ Less → IsLeastOf p (k + 1) k (point_at p k) true
lower p k start least sole h e =
    let under : (t : ℕ) → t < k → point_cmp (point_at p k) (point_at p t) ≡ Less =
    λ t l. below_lowest (point_at p k) least (point_at p t) e (h.lowest t l) in
    record {
      within = omega arith;
      there = refl;
      lowest = λ t l.
          ⊎_elim (λ (f : t < k). above (point_at p k) (point_at p t) (under t f))
          (λ (f : k ≤ t).
          let at : k ≡ t = omega arith in
          let itself = tied_itself points_total (point_at p k) in
          subst (λ (x : ℕ). point_cmp (point_at p x) (point_at p k) ≢ Less) at (λ m. let x : Equal ≡ Less = sym itself ∙ m in cc))
          (cases_lt t k);
      below = λ y t l ne. under t (omega arith);
    }

-- one that is not below it leaves it the least, and the only one only if it is above it
pub no_lower : (p : List Point) (k start : ℕ) (least : Point) (sole : Bool) → IsLeastOf p k start least sole
    → point_cmp (point_at p k) least ≢ Less → IsLeastOf p (k + 1) start least false
no_lower p k start least sole h e = record {
  within = omega arith;
  there = h.there;
  lowest = λ t l.
      ⊎_elim (λ (f : t < k). h.lowest t f)
      (λ (f : k ≤ t).
      let at : k ≡ t = omega arith in
      subst (λ (x : ℕ). point_cmp (point_at p x) least ≢ Less) at e)
      (cases_lt t k);
  below = λ y. absurd (true≢false (sym y));
}

-- and one that is above it changes nothing
pub higher : (p : List Point) (k start : ℕ) (least : Point) (sole : Bool) → IsLeastOf p k start least sole
    → point_cmp least (point_at p k) ≡ Less → IsLeastOf p (k + 1) start least sole
higher p k start least sole h e =
    let more = no_lower p k start least sole h (above least (point_at p k) e) in
    record {
      within = more.within;
      there = h.there;
      lowest = more.lowest;
      below = λ y t l ne.
          ⊎_elim (λ (f : t < k). h.below y t f ne)
          (λ (f : k ≤ t).
          let at : k ≡ t = omega arith in
          subst (λ (x : ℕ). point_cmp least (point_at p x) ≡ Less) at e)
          (cases_lt t k);
    }

-- a reading begins at the point of its start
pub first_of_reading : (p : List Point) (r : Reading) → r.start < length p
    → point_at (reading_of p r) 0 ≡ point_at p r.start
first_of_reading p r h = at r.start r.backwards h
  where
    first : (w : List Point) (k : ℕ) → k < length w → point_at (rotation k w) 0 ≡ point_at w k
    first w k l =
        let n = length-drop k w in
        let same : k + 0 ≡ k = omega arith in
        get_or_append_left (drop k w) (take k w) origin 0 (omega arith) ∙ get_or-drop k w 0 origin ∙ ap (point_at w) same

    at : (s : ℕ) (d : Bool) → s < length p
        → point_at (reading_of p (record { start = s; backwards = d })) 0 ≡ point_at p s
    at s true l =
        let n = length-reverse p in
        let back : length p - 1 - (length p - 1 - s) ≡ s = omega arith in
        first (reverse p) (length p - 1 - s) (omega arith)
        ∙ get_or-reverse p (length p - 1 - s) origin (omega arith)
        ∙ ap (point_at p) back
    at s false l = first p s l

-- a reading that begins elsewhere is not below one that begins at the one point below all others
begun_elsewhere : (p : List Point) (best r : Reading) → IsSoleLeast p best.start → r.start < length p
    → r.start ≢ best.start → list_cmp (reading_of p r) (reading_of p best) ≢ Less
begun_elsewhere p best r h l ne =
    let n = length-reading_of p best in
    let m = length-reading_of p r in
    let first : Less ≡ point_cmp (point_at (reading_of p best) 0) (point_at (reading_of p r) 0) =
    sym (h.below r.start l ne)
    ∙ ap (λ (x : Point). point_cmp x (point_at p r.start)) (sym (first_of_reading p best h.within))
    ∙ ap (point_cmp (point_at (reading_of p best) 0)) (sym (first_of_reading p r l)) in
    below_one_way (reading_of p best) (reading_of p r)
    (list_cmp_decided (reading_of p best) (reading_of p r) 0 Less (omega arith) (omega arith) first
    (λ (x : Less ≡ Equal). cc))

-- so one that begins there is a least one, if it is above neither of the two that do
pub least_of_two : (p : List Point) (start : ℕ) (d : Bool) → IsSoleLeast p start
    → ((c : Bool) → list_cmp (reading_of p (record { start = start; backwards = c }))
    (reading_of p (record { start = start; backwards = d })) ≢ Less)
    → IsLeastReadingOf p (reading_of p (record { start = start; backwards = d }))
least_of_two p start d h two =
    let best : Reading = record { start = start; backwards = d } in
    least_from_all p best (omega (arith, h.within)) (λ r l.
    ⊎_elim
    (λ (e : r.start ≡ start).
    subst (λ (s : ℕ). list_cmp (reading_of p (record { start = s; backwards = r.backwards })) (reading_of p best) ≢ Less)
    (sym e) (two r.backwards))
    (λ (ne : r.start ≡ start → ⊥). begun_elsewhere p best r h l ne)
    (cases_eq r.start start))

-- the forward one, where it is not above the other
pub least_forwards : (p : List Point) (start : ℕ) (o : Ordering) → IsSoleLeast p start
    → o ≡ list_cmp (reading_of p (record { start = start; backwards = false })) (reading_of p (record { start = start; backwards = true }))
    → o ≢ Greater → IsLeastReadingOf p (reading_of p (record { start = start; backwards = false }))
least_forwards p start o h is ne = least_of_two p start false h two
  where
    forth : List Point
    forth = reading_of p (record { start = start; backwards = false })

    back : List Point
    back = reading_of p (record { start = start; backwards = true })

    two : (c : Bool) → list_cmp (reading_of p (record { start = start; backwards = c })) forth ≢ Less
    two true = not_below_from_not_above forth back o is ne
    two false = not_below_itself forth

-- and the other, where it is
pub least_backwards : (p : List Point) (start : ℕ) (o : Ordering) → IsSoleLeast p start
    → o ≡ list_cmp (reading_of p (record { start = start; backwards = false })) (reading_of p (record { start = start; backwards = true }))
    → o ≡ Greater → IsLeastReadingOf p (reading_of p (record { start = start; backwards = true }))
least_backwards p start o h is e = least_of_two p start true h two
  where
    forth : List Point
    forth = reading_of p (record { start = start; backwards = false })

    back : List Point
    back = reading_of p (record { start = start; backwards = true })

    two : (c : Bool) → list_cmp (reading_of p (record { start = start; backwards = c })) back ≢ Less
    two true = not_below_itself back
    two false = not_below_from_above forth back o is e
