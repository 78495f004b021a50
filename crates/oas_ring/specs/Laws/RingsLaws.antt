-- Rotations of lists, and that being the same ring is an equivalence.
use Rattle.std.proofs.Common.{◌≡◌, ℕ, ◌<◌, ◌≤◌, List, [], ◌++◌, length, take, drop, refl, sym, ap, ◌∙◌, inl, inr, ⊎_elim, subst, append_assoc, length-append, arith}
use Rattle.std.specs.Prelude.{reverse}
use Rattle.std.proofs.lemmas.List.{length-take, length-drop, length-reverse, append-nil, take-append-drop, take_at, drop_at, take-append-le, drop-append-le, reverse-append, reverse-reverse}
use Rattle.std.proofs.lemmas.Bool.{cases_lt}
use Rattle.oas_ring.specs.declared.point.Point.{Point}
use Rattle.oas_ring.specs.Rings.{rotation, IsRotation, SameRing}

-- q is p with its two parts in the other order
pub record Turned (p q : List Point) : Type 0 where
  pub front : List Point
  pub back : List Point
  pub whole : p ≡ front ++ back
  pub turned : q ≡ back ++ front

-- a rotation cuts the list where it begins
pub parts_of_rotation : (p q : List Point) → IsRotation p q → Turned p q
parts_of_rotation p q h = record { front = take h.0 p; back = drop h.0 p; whole = sym (take-append-drop h.0 p); turned = h.1 }

-- and each cut gives a rotation
pub rotation_of_parts : (p q : List Point) → Turned p q → IsRotation p q
rotation_of_parts p q h =
    let n = length h.front in
    let at_back : drop n p ≡ h.back = ap (drop n) h.whole ∙ drop_at h.front h.back n refl in
    let at_front : take n p ≡ h.front = ap (take n) h.whole ∙ take_at h.front h.back n refl in
    (n, cc)

-- two splits of one list: the longer prefix is the shorter one and a part of its rest
pub record Between (xs ys zs ws : List Point) : Type 0 where
  pub middle : List Point
  pub front : zs ≡ xs ++ middle
  pub back : ys ≡ middle ++ ws

-- any two splits of one list are like this
pub between_splits : (xs ys zs ws : List Point) → xs ++ ys ≡ zs ++ ws → length xs ≤ length zs
    → Between xs ys zs ws
between_splits xs ys zs ws e h =
    let n = length xs in
    let f : take n zs ≡ xs = sym (take-append-le n zs ws h) ∙ ap (take n) (sym e) ∙ take_at xs ys n refl in
    let b : ys ≡ drop n zs ++ ws = sym (drop_at xs ys n refl) ∙ ap (drop n) e ∙ drop-append-le n zs ws h in
    record { middle = drop n zs; front = sym (take-append-drop n zs) ∙ ap (λ t. t ++ drop n zs) f; back = b }

-- to turn is symmetric
pub turned_back : (p q : List Point) → Turned p q → Turned q p
turned_back p q h = record { front = h.back; back = h.front; whole = h.turned; turned = h.whole }

-- and transitive
pub turned_twice : (p q r : List Point) → Turned p q → Turned q r → Turned p r
turned_twice p q r g h =
    ⊎_elim
    (λ (l : length g.back < length h.front).
    let m = between_splits g.back g.front h.front h.back (sym g.turned ∙ h.whole) (omega arith) in
    record {
      front = m.middle;
      back = h.back ++ g.back;
      whole = g.whole ∙ ap (λ t. t ++ g.back) m.back ∙ append_assoc m.middle h.back g.back;
      turned = h.turned ∙ ap (λ t. h.back ++ t) m.front ∙ sym (append_assoc h.back g.back m.middle);
    })
    (λ (l : length h.front ≤ length g.back).
    let m = between_splits h.front h.back g.back g.front (sym h.whole ∙ g.turned) l in
    record {
      front = g.front ++ h.front;
      back = m.middle;
      whole = g.whole ∙ ap (λ t. g.front ++ t) m.front ∙ sym (append_assoc g.front h.front m.middle);
      turned = h.turned ∙ ap (λ t. t ++ h.front) m.back ∙ append_assoc m.middle g.front h.front;
    })
    (cases_lt (length g.back) (length h.front))

-- a list is a rotation of each of its rotations
pub rotated_back : (p q : List Point) → IsRotation p q → IsRotation q p
rotated_back p q h = rotation_of_parts q p (turned_back p q (parts_of_rotation p q h))

-- a rotation of a rotation is one
pub rotated_twice : (p q r : List Point) → IsRotation p q → IsRotation q r → IsRotation p r
rotated_twice p q r g h = rotation_of_parts p r (turned_twice p q r (parts_of_rotation p q g) (parts_of_rotation q r h))

-- the reverse of a rotation is a rotation of the reverse
pub rotated_reverse : (p q : List Point) → IsRotation p q → IsRotation (reverse p) (reverse q)
rotated_reverse p q h =
    let t = parts_of_rotation p q h in
    rotation_of_parts (reverse p) (reverse q) (record {
      front = reverse t.back;
      back = reverse t.front;
      whole = ap reverse t.whole ∙ reverse-append t.front t.back;
      turned = ap reverse t.turned ∙ reverse-append t.back t.front;
    })

-- a list is the same ring as itself
pub same_ring_itself : (p : List Point) → SameRing p p
same_ring_itself p = inl (rotation_of_parts p p (record { front = []; back = p; whole = refl; turned = sym (append-nil p) }))

-- being the same ring is symmetric
pub same_ring_back : (p q : List Point) → SameRing p q → SameRing q p
same_ring_back p q h =
    ⊎_elim (λ (f : IsRotation p q). inl (rotated_back p q f))
    (λ (b : IsRotation (reverse p) q).
    let c = rotated_reverse q (reverse p) (rotated_back (reverse p) q b) in
    inr (subst (λ (t : List Point). IsRotation (reverse q) t) (reverse-reverse p) c))
    h

-- and transitive
pub same_ring_twice : (p q r : List Point) → SameRing p q → SameRing q r → SameRing p r
same_ring_twice p q r g h =
    ⊎_elim
    (λ (f : IsRotation p q).
    ⊎_elim (λ (f' : IsRotation q r). inl (rotated_twice p q r f f'))
    (λ (b' : IsRotation (reverse q) r). inr (rotated_twice (reverse p) (reverse q) r (rotated_reverse p q f) b'))
    h)
    (λ (b : IsRotation (reverse p) q).
    ⊎_elim (λ (f' : IsRotation q r). inr (rotated_twice (reverse p) q r b f'))
    (λ (b' : IsRotation (reverse q) r).
    let c = rotated_reverse (reverse p) q b in
    inl (rotated_twice p (reverse q) r (subst (λ (t : List Point). IsRotation t (reverse q)) (reverse-reverse p) c) b'))
    h)
    g

-- a rotation is as long as its list
pub length-rotation : (k : ℕ) (p : List Point) → length (rotation k p) ≡ length p
length-rotation k p = simp (length-append, length-drop, length-take) (omega arith)

-- lists of the same ring are equally long
pub length-same_ring : (p q : List Point) → SameRing p q → length q ≡ length p
length-same_ring p q h =
    ⊎_elim (λ (f : IsRotation p q). ap length f.1 ∙ length-rotation f.0 p)
    (λ (b : IsRotation (reverse p) q). ap length b.1 ∙ length-rotation b.0 (reverse p) ∙ length-reverse p)
    h
