-- Readings of a ring point by point: how two of them compare, and which is the least.
use Rattle.std.proofs.Common.{◌≡◌, ℕ, ◌+◌, ◌-◌, ◌<◌, ◌≤◌, ◌≢◌, Bool, true, false, List, [], ◌∷◌, ◌++◌, length, take, drop, Ordering, refl, sym, ap, subst, ◌∙◌, arith}
use Rattle.std.specs.Prelude.{reverse}
use Rattle.std.specs.Ordering.{ordering_then}
use Rattle.std.specs.declared.cmp.Ordering.TheVariants.{Less, Equal, Greater}
use Rattle.std.proofs.lemmas.List.{length-reverse, take_all, drop_more, take_more, take_more_same}
use Rattle.oas_ring.specs.declared.point.Point.{Point}
use Rattle.oas_ring.specs.declared.readings.Reading.{Reading}
use Rattle.oas_ring.specs.Points.{origin, point_at, point_cmp, list_cmp}
use Rattle.oas_ring.specs.Rings.{rotation}
use Rattle.oas_ring.specs.Readings.{directed, reading_of, IsLeastReadingOf}
use Rattle.oas_ring.specs.Laws.ReadingsLaws.{length-reading_of, same_ring-reading_of, read_from_same_ring}
use Rattle.oas_ring.specs.Race.{IsLeastTurn}
use Rattle.oas_ring.specs.Laws.RingsLaws.{same_ring_twice}
use Rattle.oas_ring.specs.Laws.PointsLaws.{not_below_twice}

-- one more point of two lists
pub list_cmp_more : (a b : List Point) (k : ℕ) (o : Ordering) → k < length a → k < length b
    → o ≡ point_cmp (point_at a k) (point_at b k)
    → list_cmp (drop k a) (drop k b) ≡ ordering_then o (list_cmp (drop (k + 1) a) (drop (k + 1) b))
list_cmp_more a b k o h g e =
    let rest = list_cmp (drop (k + 1) a) (drop (k + 1) b) in
    ap (λ t. list_cmp t (drop k b)) (drop_more a k origin h)
    ∙ ap (λ t. list_cmp (point_at a k ∷ drop (k + 1) a) t) (drop_more b k origin g)
    ∙ ap (λ t. ordering_then t rest) (sym e)

-- at the first points that differ two readings are decided
pub list_cmp_decided : (a b : List Point) (k : ℕ) (o : Ordering) → k < length a → k < length b
    → o ≡ point_cmp (point_at a k) (point_at b k) → o ≢ Equal → list_cmp (drop k a) (drop k b) ≡ o
list_cmp_decided a b k o h g e ne =
    list_cmp_more a b k o h g e ∙ first o (list_cmp (drop (k + 1) a) (drop (k + 1) b)) ne
  where
    first : (o r : Ordering) → o ≢ Equal → ordering_then o r ≡ o
    first Less r ne = refl
    first Equal r ne = absurd (ne refl)
    first Greater r ne = refl

-- what is left of two readings decides as before, where they agree in one more point
pub readings_more : (p : List Point) (a b : Reading) (k i j : ℕ) (o all : Ordering) → k < length p
    → point_at (reading_of p a) k ≡ point_at p i → point_at (reading_of p b) k ≡ point_at p j
    → o ≡ point_cmp (point_at p i) (point_at p j) → o ≡ Equal
    → list_cmp (drop k (reading_of p a)) (drop k (reading_of p b)) ≡ all
    → list_cmp (drop (k + 1) (reading_of p a)) (drop (k + 1) (reading_of p b)) ≡ all
readings_more p a b k i j o all h pa pb e eq so_far =
    let la = length-reading_of p a in
    let lb = length-reading_of p b in
    let e' : Equal ≡ point_cmp (point_at (reading_of p a) k) (point_at (reading_of p b) k) = cc in
    sym (list_cmp_more (reading_of p a) (reading_of p b) k Equal (omega arith) (omega arith) e') ∙ so_far

-- and where the points differ, they decide
pub readings_decided : (p : List Point) (a b : Reading) (k i j : ℕ) (o all : Ordering) → k < length p
    → point_at (reading_of p a) k ≡ point_at p i → point_at (reading_of p b) k ≡ point_at p j
    → o ≡ point_cmp (point_at p i) (point_at p j) → o ≢ Equal
    → list_cmp (drop k (reading_of p a)) (drop k (reading_of p b)) ≡ all
    → o ≡ all
readings_decided p a b k i j o all h pa pb e ne so_far =
    let la = length-reading_of p a in
    let lb = length-reading_of p b in
    let e' : o ≡ point_cmp (point_at (reading_of p a) k) (point_at (reading_of p b) k) = cc in
    sym (list_cmp_decided (reading_of p a) (reading_of p b) k o (omega arith) (omega arith) e' ne) ∙ so_far

-- one more point of a reading
pub reading_push : (p : List Point) (r : Reading) (k i : ℕ) → k < length p
    → point_at (reading_of p r) k ≡ point_at p i
    → take (k + 1) (reading_of p r) ≡ take k (reading_of p r) ++ point_at p i ∷ []
reading_push p r k i h e =
    let l = length-reading_of p r in
    take_more (reading_of p r) k origin (omega arith) ∙ ap (λ t. take k (reading_of p r) ++ t ∷ []) e

-- the first points of a reading are all of them where there are no more
pub reading_all : (p : List Point) (r : Reading) (k : ℕ) → length p ≤ k
    → take k (reading_of p r) ≡ reading_of p r
reading_all p r k h = let l = length-reading_of p r in take_all k (reading_of p r) (omega arith)

-- one more point on which two readings agree
pub agree_more : (p q : List Point) (a b : Reading) (k i j : ℕ) → k < length p → length p ≡ length q
    → point_at (reading_of p a) k ≡ point_at p i → point_at (reading_of q b) k ≡ point_at q j
    → point_at p i ≡ point_at q j → take k (reading_of p a) ≡ take k (reading_of q b)
    → take (k + 1) (reading_of p a) ≡ take (k + 1) (reading_of q b)
agree_more p q a b k i j h same pa qb e so_far =
    let la = length-reading_of p a in
    let lb = length-reading_of q b in
    take_more_same (reading_of p a) (reading_of q b) k origin
    (omega arith) (omega arith) so_far (pa ∙ e ∙ sym qb)

-- a reading that has none below it is a least one
pub least_from_all : (p : List Point) (best : Reading) → 0 < length p
    → ((r : Reading) → r.start < length p → list_cmp (reading_of p r) (reading_of p best) ≢ Less)
    → IsLeastReadingOf p (reading_of p best)
least_from_all p best some below =
    let same = same_ring-reading_of p best in
    record {
      same = same;
      least = λ q h.
          let f = read_from_same_ring p q some (same_ring_twice p (reading_of p best) q same h) in
          subst (λ (t : List Point). list_cmp t (reading_of p best) ≢ Less) (sym f.is) (below f.reading f.within);
    }

-- a list against its order has the same length
pub length-directed : (backwards : Bool) (p : List Point) → length (directed backwards p) ≡ length p
length-directed true p = length-reverse p
length-directed false p = refl

-- a reading that is above neither direction's least is a least reading
pub least_of_both : (p : List Point) (f b best : Reading) (i j : ℕ) → 0 < length p
    → reading_of p f ≡ rotation i p → IsLeastTurn p i → reading_of p b ≡ rotation j (reverse p)
    → IsLeastTurn (reverse p) j → list_cmp (reading_of p f) (reading_of p best) ≢ Less
    → list_cmp (reading_of p b) (reading_of p best) ≢ Less → IsLeastReadingOf p (reading_of p best)
least_of_both p f b best i j some fi li bj lj above_f above_b =
    least_from_all p best some (λ r h. at r.start r.backwards h)
  where
    at : (s : ℕ) (d : Bool) → s < length p
        → list_cmp (reading_of p (record { start = s; backwards = d })) (reading_of p best) ≢ Less
    at s true h =
        let same = length-reverse p in
        let t : length p - 1 - s < length (reverse p) = omega arith in
        let back = rotation (length p - 1 - s) (reverse p) in
        let below = subst (λ (x : List Point). list_cmp back x ≢ Less) (sym bj) (lj (length p - 1 - s) t) in
        not_below_twice back (reading_of p b) (reading_of p best) below above_b
    at s false h =
        let below = subst (λ (x : List Point). list_cmp (rotation s p) x ≢ Less) (sym fi) (li s h) in
        not_below_twice (rotation s p) (reading_of p f) (reading_of p best) below above_f
