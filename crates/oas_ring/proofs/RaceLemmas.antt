-- The race of two candidates for the least rotation: each comparison keeps it, and at its end a least rotation has won.
use Rattle.std.proofs.Common.{◌≡◌, ℕ, zero, suc, ◌+◌, ◌-◌, ◌<◌, ◌≤◌, ◌≢◌, max, List, [], ◌∷◌, ◌++◌, length, take, drop, Ordering, refl, sym, ap, subst, ◌∙◌, ⊎_elim, append_assoc, arith}
use Rattle.std.specs.Prelude.{◌⊎◌}
use Rattle.std.specs.Ordering.{ordering_then, ordering_reverse}
use Rattle.std.specs.declared.cmp.Ordering.TheVariants.{Less, Equal, Greater}
use Rattle.std.proofs.lemmas.Cmp.{tied_itself}
use Rattle.std.proofs.lemmas.List.{length-drop, drop-drop, drop-take, drop-append-le, take-append-le, take-append-drop, take_all, take_more_same, get_or_append_left, get_or-drop}
use Rattle.std.proofs.lemmas.Bool.{cases_lt, cases_eq}
use Rattle.oas_ring.specs.declared.point.Point.{Point}
use Rattle.oas_ring.specs.declared.race.Race.{Race}
use Rattle.oas_ring.specs.Points.{origin, point_at, point_cmp, list_cmp}
use Rattle.oas_ring.specs.Rings.{rotation}
use Rattle.oas_ring.specs.Race.{IsBeaten, IsRace, next_order, IsLeastTurn}
use Rattle.std.proofs.Math.Seq.{take-add}
use Rattle.oas_ring.specs.Laws.RingsLaws.{rotated_twice, length-rotation}
use Rattle.oas_ring.specs.Laws.PointsLaws.{points_total, exact_points}
use Rattle.oas_ring.specs.Laws.PointsLaws.{not_below_itself, below_one_way, not_below_twice}
use Rattle.oas_ring.specs.Laws.ReadingsLaws.{place_within}
use Rattle.oas_ring.proofs.ReadingLemmas.{list_cmp_decided}

-- a common prefix does not matter
pub list_cmp-append : (c a b : List Point) → list_cmp (c ++ a) (c ++ b) ≡ list_cmp a b
list_cmp-append [] a b = refl
list_cmp-append (x ∷ c) a b =
    ap (λ o. ordering_then o (list_cmp (c ++ a) (c ++ b))) (tied_itself points_total x)
    ∙ list_cmp-append c a b

-- the first points that differ decide
pub first_difference : (a b : List Point) (j : ℕ) → j < length a → j < length b → take j a ≡ take j b
    → point_cmp (point_at a j) (point_at b j) ≡ Less → list_cmp a b ≡ Less
first_difference a b j h g e l =
    let sa : a ≡ take j a ++ drop j a = sym (take-append-drop j a) in
    let sb : b ≡ take j a ++ drop j b = sym (take-append-drop j b) ∙ ap (λ t. t ++ drop j b) (sym e) in
    ap (λ t. list_cmp t b) sa ∙ ap (list_cmp (take j a ++ drop j a)) sb ∙ list_cmp-append (take j a) (drop j a) (drop j b)
    ∙ list_cmp_decided a b j Less h g (sym l) (λ (x : Less ≡ Equal). cc)

-- two rotations, one after the other
pub rotation-rotation : (a b : ℕ) (q : List Point) → a + b ≤ length q
    → rotation b (rotation a q) ≡ rotation (a + b) q
rotation-rotation a b q h =
    let d = drop a q in
    let t = take a q in
    let ld = length-drop a q in
    let left : b ≤ length d = omega arith in
    ap (λ x. x ++ take b (d ++ t)) (drop-append-le b d t left ∙ ap (λ x. x ++ t) (drop-drop b a q))
    ∙ ap (λ x. (drop (a + b) q ++ t) ++ x) (take-append-le b d t left)
    ∙ append_assoc (drop (a + b) q) t (take b d)
    ∙ ap (λ x. drop (a + b) q ++ x) (sym (take-add a b q))

-- the prefix and a point of a rotation
take-rotation : (m d : ℕ) (w : List Point) → m + d ≤ length w → take d (rotation m w) ≡ drop m (take (m + d) w)
take-rotation m d w h =
    let ld = length-drop m w in
    take-append-le d (drop m w) (take m w) (omega arith) ∙ sym (drop-take m d w)

-- and a point after that prefix
point_at-rotation : (m d : ℕ) (w : List Point) → m + d < length w
    → point_at (rotation m w) d ≡ point_at w (m + d)
point_at-rotation m d w h =
    let ld = length-drop m w in
    get_or_append_left (drop m w) (take m w) origin d (omega arith) ∙ get_or-drop m w d origin

-- lists that agree up to a place where w is below u stay in that order when both are rotated by no more than that
pub rotated_below : (u w : List Point) (m d : ℕ) → length u ≡ length w → m + d < length u
    → take (m + d) w ≡ take (m + d) u → point_cmp (point_at w (m + d)) (point_at u (m + d)) ≡ Less
    → list_cmp (rotation m w) (rotation m u) ≡ Less
rotated_below u w m d same h e l =
    let lw = length-rotation m w in
    let lu = length-rotation m u in
    let front : take d (rotation m w) ≡ take d (rotation m u) =
    take-rotation m d w (omega arith) ∙ ap (drop m) e ∙ sym (take-rotation m d u (omega arith)) in
    let next : point_cmp (point_at (rotation m w) d) (point_at (rotation m u) d) ≡ Less =
    ap (λ t. point_cmp t (point_at (rotation m u) d)) (point_at-rotation m d w (omega arith))
    ∙ ap (point_cmp (point_at w (m + d))) (point_at-rotation m d u h)
    ∙ l in
    first_difference (rotation m w) (rotation m u) d (omega arith) (omega arith) front next

-- so each start from the loser on, as far as they agree, is beaten
pub beaten_from : (q : List Point) (i j k s : ℕ) → k < length q → take k (rotation j q) ≡ take k (rotation i q)
    → point_cmp (point_at (rotation j q) k) (point_at (rotation i q) k) ≡ Less → i ≤ s → s ≤ i + k
    → s < length q → IsBeaten q s
beaten_from q i j k s h e l from to within =
    let m = s - i in
    let d = k - m in
    let sum : k ≡ m + d = omega arith in
    let li = length-rotation i q in
    let lj = length-rotation j q in
    let front = subst (λ (t : ℕ). take t (rotation j q) ≡ take t (rotation i q)) sum e in
    let next = subst (λ (t : ℕ). point_cmp (point_at (rotation j q) t) (point_at (rotation i q) t) ≡ Less) sum l in
    let below = rotated_below (rotation i q) (rotation j q) m d (li ∙ sym lj) (omega arith) front next in
    let start : i + m ≡ s = omega arith in
    let at : rotation m (rotation i q) ≡ rotation s q =
    rotation-rotation i m q (omega arith) ∙ ap (λ t. rotation t q) start in
    let w = rotation m (rotation j q) in
    (w, rotated_twice q (rotation j q) w (j, refl) (m, refl), ap (list_cmp w) (sym at) ∙ below)

-- where the next points are equal, the candidates agree in one more point
pub race_equal : (q : List Point) (r : Race) → IsRace q r → r.agreed < length q → next_order q r ≡ Equal
    → IsRace q (record { best = r.best; rival = r.rival; agreed = r.agreed + 1 })
race_equal q r h k e =
    let lb = length-rotation r.best q in
    let lr = length-rotation r.rival q in
    record {
      ahead = h.ahead;
      within = h.within;
      agree = take_more_same (rotation r.best q) (rotation r.rival q) r.agreed origin
          (omega arith) (omega arith) h.agree (exact_points _ _ e);
      beaten = h.beaten;
    }

-- where the best has the lesser one, the rival and the starts that it skips are beaten
pub race_less : (q : List Point) (r : Race) → IsRace q r → r.agreed < length q → next_order q r ≡ Less
    → IsRace q (record { best = r.best; rival = r.rival + r.agreed + 1; agreed = 0 })
race_less q r h k e = record {
  ahead = omega arith;
  within = h.within;
  agree = refl;
  beaten = λ s a b c.
      ⊎_elim (λ (l : s < r.rival). h.beaten s l b c)
      (λ (g : r.rival ≤ s). beaten_from q r.rival r.best r.agreed s k h.agree e g (omega arith) b)
      (cases_lt s r.rival);
}

-- where the rival has the lesser one, it is the best, and the next rival comes after both
pub race_greater : (q : List Point) (r : Race) (next : ℕ) → next ≡ max (r.best + r.agreed + 1) (r.rival + 1) → IsRace q r
    → r.rival < length q → r.agreed < length q → next_order q r ≡ Greater
    → IsRace q (record { best = r.rival; rival = next; agreed = 0 })
race_greater q r next is h j k e =
    let back : point_cmp (point_at (rotation r.rival q) r.agreed) (point_at (rotation r.best q) r.agreed) ≡ Less =
    points_total.antisymm (point_at (rotation r.rival q) r.agreed) (point_at (rotation r.best q) r.agreed)
    ∙ ap ordering_reverse e in
    record {
      ahead = omega arith;
      within = j;
      agree = refl;
      beaten = λ s a b c.
          ⊎_elim (λ (l : s < r.best). h.beaten s (omega arith) b (omega arith))
          (λ (g : r.best ≤ s).
          ⊎_elim (λ (l : r.best + r.agreed < s). h.beaten s (omega arith) b (omega arith))
          (λ (t : s ≤ r.best + r.agreed). beaten_from q r.best r.rival r.agreed s k (sym h.agree) back g t b)
          (cases_lt (r.best + r.agreed) s))
          (cases_lt s r.best);
    }

-- the least of the rotations from 0 to m
pub record LeastUpTo (q : List Point) (m : ℕ) : Type 0 where
  pub start : ℕ
  pub within : start ≤ m
  pub least : (t : ℕ) → t ≤ m → list_cmp (rotation t q) (rotation start q) ≢ Less

-- one more rotation
new_least : (q : List Point) (m : ℕ) (h : LeastUpTo q m)
    → list_cmp (rotation (suc m) q) (rotation h.start q) ≡ Less → LeastUpTo q (suc m)
new_least q m h e = record {
  start = suc m;
  within = omega arith;
  least = λ t l.
      ⊎_elim
      (λ (g : m < t).
      let at : suc m ≡ t = omega arith in
      subst (λ (x : ℕ). list_cmp (rotation x q) (rotation (suc m) q) ≢ Less) at (not_below_itself (rotation (suc m) q)))
      (λ (b : t ≤ m).
      not_below_twice (rotation t q) (rotation h.start q) (rotation (suc m) q)
      (h.least t b) (below_one_way (rotation (suc m) q) (rotation h.start q) e))
      (cases_lt m t);
}

-- or no new one
old_least : (q : List Point) (m : ℕ) (h : LeastUpTo q m)
    → list_cmp (rotation (suc m) q) (rotation h.start q) ≢ Less → LeastUpTo q (suc m)
old_least q m h e = record {
  start = h.start;
  within = omega arith;
  least = λ t l.
      ⊎_elim
      (λ (g : m < t).
      let at : suc m ≡ t = omega arith in
      subst (λ (x : ℕ). list_cmp (rotation x q) (rotation h.start q) ≢ Less) at e)
      (λ (b : t ≤ m). h.least t b)
      (cases_lt m t);
}

-- by the comparison of the new rotation with the least so far
least_of_more : (q : List Point) (m : ℕ) (h : LeastUpTo q m) (o : Ordering)
    → list_cmp (rotation (suc m) q) (rotation h.start q) ≡ o → LeastUpTo q (suc m)
least_of_more q m h Less e = new_least q m h e
least_of_more q m h Equal e = old_least q m h (λ l. let x : Equal ≡ Less = sym e ∙ l in cc)
least_of_more q m h Greater e = old_least q m h (λ l. let x : Greater ≡ Less = sym e ∙ l in cc)

-- so there is a least rotation among those up to any number
pub least_up_to : (q : List Point) (m : ℕ) → LeastUpTo q m
least_up_to q zero = record {
  start = 0;
  within = omega arith;
  least = λ t h.
      let at : 0 ≡ t = omega arith in
      subst (λ (x : ℕ). list_cmp (rotation x q) (rotation 0 q) ≢ Less) at (not_below_itself (rotation 0 q));
}
least_up_to q (suc m) =
    let h = least_up_to q m in
    least_of_more q m h (list_cmp (rotation (suc m) q) (rotation h.start q)) refl

-- a least rotation is not beaten
pub not_beaten : (q : List Point) (s : ℕ) → 0 < length q → IsLeastTurn q s → IsBeaten q s → ⊥
not_beaten q s some least h =
    let j = place_within h.1.0 q some in
    least j.0 j.1 (ap (λ t. list_cmp t (rotation s q)) (sym (h.1.1 ∙ j.2)) ∙ h.2)

-- a least rotation from below the rival is the best
below_rival : (q : List Point) (r : Race) → IsRace q r → (s : ℕ) → s < r.rival → s < length q → IsLeastTurn q s
    → IsLeastTurn q r.best
below_rival q r h s l within least =
    ⊎_elim (λ (e : s ≡ r.best). subst (λ (x : ℕ). IsLeastTurn q x) e least)
    (λ (ne : s ≡ r.best → ⊥). absurd (not_beaten q s (omega arith) least (h.beaten s l within ne)))
    (cases_eq s r.best)

-- where the two rotations are one list, a least rotation further on is also one further back
pub descend : (q : List Point) (r : Race) → IsRace q r → rotation r.best q ≡ rotation r.rival q → (fuel s : ℕ)
    → s ≤ fuel → s < length q → IsLeastTurn q s → IsLeastTurn q r.best
descend q r h same zero s f within least = below_rival q r h s (omega arith) within least
descend q r h same (suc n) s f within least =
    ⊎_elim (λ (l : s < r.rival). below_rival q r h s l within least)
    (λ (g : r.rival ≤ s).
    let m = s - r.rival in
    let there : r.rival + m ≡ s = omega arith in
    let back : rotation s q ≡ rotation (r.best + m) q =
    ap (λ (x : ℕ). rotation x q) (sym there)
    ∙ sym (rotation-rotation r.rival m q (omega arith))
    ∙ ap (rotation m) (sym same)
    ∙ rotation-rotation r.best m q (omega arith) in
    descend q r h same n (r.best + m) (omega arith) (omega arith)
    (λ t l. subst (λ (x : List Point). list_cmp (rotation t q) x ≢ Less) back (least t l)))
    (cases_lt s r.rival)

-- at the end of the race a least rotation has won
pub race_won : (q : List Point) (r : Race) → IsRace q r → (length q ≤ r.rival) ⊎ (length q ≤ r.agreed)
    → IsLeastTurn q r.best
race_won q r h over =
    let m = least_up_to q (length q - 1) in
    let within : m.start < length q = omega arith in
    let least = λ (t : ℕ) (l : t < length q). m.least t (omega arith) in
    ⊎_elim
    (λ (e : length q ≤ r.rival). below_rival q r h m.start (omega arith) within least)
    (λ (e : length q ≤ r.agreed).
    let lb = length-rotation r.best q in
    let lr = length-rotation r.rival q in
    let same : rotation r.best q ≡ rotation r.rival q =
    sym (take_all r.agreed (rotation r.best q) (omega arith))
    ∙ h.agree
    ∙ take_all r.agreed (rotation r.rival q) (omega arith) in
    descend q r h same m.start m.start (omega arith) within least)
    over
