-- Laws of what is given for bytes.
use Rattle.std.proofs.Common.{◌≡◌, ℕ, ◌+◌, ◌%◌, Bool, true, false, List, [], ◌∷◌, ◌++◌, Option, Some, None, refl, sym, ap, subst, ◌∙◌}
use Rattle.std.specs.Prelude.{if◌then◌else◌}
use Rattle.std.proofs.Math.Dec.{ltb}
use Rattle.oas_long_integers.specs.declared.places.Place.{Place}
use Rattle.oas_long_integers.specs.declared.places.Place.TheVariants.{Free, Groups, Tenth}
use Rattle.oas_long_integers.specs.Places.{given_by, moved, put, joined, shortened, after, IsSettled}

put-append : (given : Option ℕ) (a b : List ℕ) → put given (a ++ b) ≡ put given a ++ b
put-append None a b = refl
put-append (Some byte) a b = refl

-- piece by piece
pub shortened-append : (place : Place) (a b : List ℕ) → shortened place (a ++ b) ≡ shortened place a ++ shortened (after place a) b
shortened-append place [] b = refl
shortened-append place (x ∷ a) b = ap (put (given_by place x)) (shortened-append (moved place x) a b) ∙ put-append (given_by place x) (shortened (moved place x) a) (shortened (after (moved place x) a) b)

pub after-append : (place : Place) (a b : List ℕ) → after place (a ++ b) ≡ after (after place a) b
after-append place [] b = refl
after-append place (x ∷ a) b = after-append (moved place x) a b

-- ---- what is held back, and what is given

-- where nothing is given for a byte, something is held back
held : (place : Place) (byte : ℕ) → given_by place byte ≡ None → IsSettled (moved place byte) → ⊥
held Free byte e h = cc
held (Groups count) byte e h = by_groups (ltb byte 128) (ltb count 9) e h where
  by_groups : (small few : Bool) → (if small then Some byte else (if few then Some byte else None)) ≡ None → IsSettled (if small then Groups 0 else (if few then Groups (count + 1) else Tenth (byte % 128))) → ⊥
  by_groups true few e h = cc
  by_groups false true e h = cc
  by_groups false false e h = h
held (Tenth group) byte e h = by_last (ltb byte 128) e h where
  by_last : (small : Bool) → (if small then Some (joined group byte) else None) ≡ None → IsSettled (if small then Groups 0 else Tenth (joined group byte)) → ⊥
  by_last true e h = cc
  by_last false e h = h

-- where something is given for it, nothing is
let_go : (place : Place) (byte given : ℕ) → given_by place byte ≡ Some given → IsSettled (moved place byte)
let_go Free byte given e = tt
let_go (Groups count) byte given e = by_groups (ltb byte 128) (ltb count 9) e where
  by_groups : (small few : Bool) → (if small then Some byte else (if few then Some byte else None)) ≡ Some given → IsSettled (if small then Groups 0 else (if few then Groups (count + 1) else Tenth (byte % 128)))
  by_groups true few e = tt
  by_groups false true e = tt
  by_groups false false e = absurd cc
let_go (Tenth group) byte given e = by_last (ltb byte 128) e where
  by_last : (small : Bool) → (if small then Some (joined group byte) else None) ≡ Some given → IsSettled (if small then Groups 0 else Tenth (joined group byte))
  by_last true e = tt
  by_last false e = absurd cc

put_none : (given : Option ℕ) (bytes : List ℕ) → put given bytes ≡ [] → (given ≡ None) × (bytes ≡ [])
put_none None bytes e = (refl, e)
put_none (Some byte) bytes e = absurd cc

-- bytes for which nothing is given are held back
gives_some : (place : Place) (byte : ℕ) (bytes : List ℕ) → shortened place (byte ∷ bytes) ≡ [] → IsSettled (after place (byte ∷ bytes)) → ⊥
gives_some place byte [] e h = held place byte (put_none (given_by place byte) [] e).0 h
gives_some place byte (c ∷ cs) e h = gives_some (moved place byte) c cs (put_none (given_by place byte) (shortened (moved place byte) (c ∷ cs)) e).1 h

put_same : (given : Option ℕ) (a b : List ℕ) → put given a ≡ put given b → a ≡ b
put_same None a b e = e
put_same (Some byte) a b e = cc

-- two prefixes of the same bytes for which the same is given, with nothing held back after them, are the same
pub same_taken : (place : Place) (a b x y : List ℕ) → IsSettled (after place a) → IsSettled (after place b) → a ++ x ≡ b ++ y → shortened place a ≡ shortened place b → a ≡ b
same_taken place [] [] x y p q e f = refl
same_taken place [] (d ∷ b) x y p q e f = absurd (gives_some place d b (sym f) q)
same_taken place (c ∷ a) [] x y p q e f = absurd (gives_some place c a f p)
same_taken place (c ∷ a) (d ∷ b) x y p q e f =
    let head : c ≡ d = cc in
    let tail : a ++ x ≡ b ++ y = cc in
    let g : put (given_by place c) (shortened (moved place c) a) ≡ put (given_by place c) (shortened (moved place c) b) = f ∙ ap (λ (k : ℕ). put (given_by place k) (shortened (moved place k) b)) (sym head) in
    let rest = same_taken (moved place c) a b x y p (subst (λ (k : ℕ). IsSettled (after (moved place k) b)) (sym head) q) tail (put_same (given_by place c) (shortened (moved place c) a) (shortened (moved place c) b) g) in
    λ i. head i ∷ rest i

-- the bytes for which a prefix of what is given was given
abbrev pub Taken : Place → List ℕ → List ℕ → Type 0
Taken place left front = (bytes : List ℕ) × (rest : List ℕ) × IsSettled (after place bytes) × (shortened place bytes ≡ front) × (left ≡ bytes ++ rest)

taken_none : (place : Place) (left : List ℕ) → IsSettled place → Taken place left []
taken_none place left settled = ([], left, settled, refl, refl)

on_taken : (place : Place) (c : ℕ) (left : List ℕ) (g : Option ℕ) (f : List ℕ) → given_by place c ≡ g → Taken (moved place c) left f → Taken place (c ∷ left) (put g f)
on_taken place c left g f is t = (c ∷ t.0, t.1, t.2, (λ i. put (is i) (t.3 i)), ap (λ (d : List ℕ). c ∷ d) t.4)

first_taken : (place : Place) (c : ℕ) (left : List ℕ) (b : ℕ) (front rest : List ℕ) (g : Option ℕ) → given_by place c ≡ g → put g (shortened (moved place c) left) ≡ b ∷ (front ++ rest)
    → (shortened (moved place c) left ≡ b ∷ (front ++ rest) → Taken (moved place c) left (b ∷ front))
    → (shortened (moved place c) left ≡ front ++ rest → IsSettled (moved place c) → Taken (moved place c) left front) → Taken place (c ∷ left) (b ∷ front)
first_taken place c left b front rest None is h all behind = on_taken place c left None (b ∷ front) is (all h)
first_taken place c left b front rest (Some d) is h all behind =
    let head : d ≡ b = cc in
    let tail : shortened (moved place c) left ≡ front ++ rest = cc in
    subst (λ (k : ℕ). Taken place (c ∷ left) (k ∷ front)) head (on_taken place c left (Some d) front is (behind tail (let_go place c d is)))

taken_some : (place : Place) (left : List ℕ) (b : ℕ) (front rest : List ℕ) → shortened place left ≡ b ∷ (front ++ rest) → Taken place left (b ∷ front)
taken_some place [] b front rest e = absurd cc
taken_some place (c ∷ left) b [] rest e =
    first_taken place c left b [] rest (given_by place c) refl e (λ h. taken_some (moved place c) left b [] rest h) (λ h settled. taken_none (moved place c) left settled)
taken_some place (c ∷ left) b (d ∷ front) rest e =
    first_taken place c left b (d ∷ front) rest (given_by place c) refl e (λ h. taken_some (moved place c) left b (d ∷ front) rest h) (λ h settled. taken_some (moved place c) left d front rest h)

pub taken_of : (place : Place) (left front rest : List ℕ) → IsSettled place → shortened place left ≡ front ++ rest → Taken place left front
taken_of place left [] rest settled e = taken_none place left settled
taken_of place left (b ∷ front) rest settled e = taken_some place left b front rest e
