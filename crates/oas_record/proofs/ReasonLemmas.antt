-- Which reasons the tables leave: for an id that no record has, and for an info byte.
use Rattle.std.proofs.Common.{◌≡◌, ◌≢◌, ℕ, ◌+◌, ◌*◌, ◌%◌, ◌^◌, ◌<◌, suc, Bool, List, [], ◌∷◌, ◌++◌, length, inl, inr, refl, sym, ap, subst, ◌∙◌, arith}
use Rattle.std.proofs.lemmas.List.{length-append, append-nil}
use Rattle.std.proofs.Math.Nat.{pow-suc}
use Rattle.oas_num.specs.declared.refusals.Why.{Why}
use Rattle.oas_num.specs.declared.refusals.Why.TheVariants.{Truncated, IntegerRange, OutOfPlace, InfoByte, Read, InputTooLong}
use Rattle.oas_num.specs.Laws.GrammarLaws.{after_same}
use Rattle.oas_num.specs.Integers.{IsClosed, IsUnsigned, value_of}
use Rattle.oas_num.specs.Laws.IntegerLaws.{open_prefix, PrefixFree-IsUnsigned}
use Rattle.oas_num.specs.Reading.{ByteMay, IntegerMay, IsUnended, IsOutOfRange}
use Rattle.oas_record.specs.Heads.{StartTook}
use Rattle.oas_record.specs.Circles.{IsCircleInfo, CircleTook}
use Rattle.oas_record.specs.Refusals.{is_known, IsKnown, IsRefusedId, AfterTook, RecordTook}
use Rattle.oas_record.proofs.IdLemmas.{after_known}
use Rattle.oas_record.proofs.RecordLemmas.{refused_unknown}

value_of-push : (front : List ℕ) (b : ℕ) → value_of (front ++ b ∷ []) ≡ value_of front + b % 128 * 128 ^ length front
value_of-push [] b = omega arith
value_of-push (c ∷ front) b =
    let e = value_of-push front b in
    let p : 128 ^ suc (length front) ≡ 128 ^ length front * 128 = pow-suc 128 (length front) in
    rw (e, p) (omega arith)

closed_long : (q : List ℕ) → IsClosed q → 0 < length q
closed_long [] h = absurd h
closed_long (d ∷ q) h = omega arith

tenth : (front q r more : List ℕ) (b n : ℕ) → length front ≡ 9 → 1 < b → IsClosed q → IsUnsigned n (front ++ q) → q ++ r ≡ b ∷ more → ⊥
tenth front [] r more b n len above h s e = absurd h
tenth front (d ∷ q) r more b n len above h s e =
    let head : d ≡ b = cc in
    elim h [
      | inl t ↦
          let none : q ≡ [] = t.1 in
          let v : n ≡ value_of front + d % 128 * 128 ^ length front = s.value ∙ (rw none (value_of-push front d)) in
          let w : 128 ^ length front ≡ 128 ^ 9 = ap (λ (k : ℕ). 128 ^ k) len in
          let v2 : n ≡ value_of front + d % 128 * 128 ^ 9 = rw w at v in
          omega (arith, v2, s.fits)
      | inr t ↦ omega (arith, closed_long q t.2, s.short, length-append front (d ∷ q))
    ]

-- ---- a whole number isn't one that goes wrong

not_unended : (n : ℕ) (front rest : List ℕ) → IsUnsigned n front → IsUnended (front ++ rest) → ⊥
not_unended n front rest s h =
    let m = open_prefix (front ++ rest) front rest [] h.open_prefix s.closed (sym (append-nil (front ++ rest))) in
    let l : length front ≡ length ((front ++ rest) ++ m.0) = ap length m.1 in
    omega (arith, l, length-append (front ++ rest) m.0, length-append front rest, closed_long m.0 m.2)

not_out_of_range : (n : ℕ) (front rest : List ℕ) → IsUnsigned n front → IsOutOfRange (front ++ rest) → ⊥
not_out_of_range n front rest s h =
    let m = open_prefix h.front front rest (h.tenth ∷ []) h.open_prefix s.closed h.joined in
    tenth h.front m.0 rest [] h.tenth n h.nine h.above m.2 (rw m.1 at s) m.3

pub number_front : (why : Why) (n : ℕ) (front rest : List ℕ) → IsUnsigned n front → IntegerMay why (front ++ rest) → ⊥
number_front Truncated n front rest s h = not_unended n front rest s h
number_front Read n front rest s h = not_unended n front rest s h
number_front InputTooLong n front rest s h = not_unended n front rest s h
number_front IntegerRange n front rest s h = not_out_of_range n front rest s h
number_front _ n front rest s h = h

whole_number : (why : Why) (n : ℕ) (bytes : List ℕ) → IsUnsigned n bytes → IntegerMay why bytes → ⊥
whole_number why n bytes s h = number_front why n bytes [] s (subst (IntegerMay why) (sym (append-nil bytes)) h)

-- ---- START

pub first_other : (id : ℕ) (bytes : List ℕ) (why : Why) → IsUnsigned id bytes → id ≢ 1 → StartTook why bytes → why ≡ OutOfPlace id
first_other id bytes why s isnt (inl (inl h)) = absurd (whole_number why id bytes s h)
first_other id bytes why s isnt (inl (inr h)) = let one = PrefixFree-IsUnsigned.one h.0 id bytes bytes [] [] h.1 s refl in h.2.0 ∙ ap OutOfPlace one.1
first_other id bytes why s isnt (inr b) =
    let one = PrefixFree-IsUnsigned.one b.value id b.front bytes b.last [] b.spelled.spelled s (sym b.joined ∙ sym (append-nil bytes)) in
    absurd (isnt (sym one.1 ∙ b.spelled.holds))

-- ---- a record

-- an id that no record has is refused as such
pub id_reason : (in_end : Bool) (id : ℕ) (bytes : List ℕ) (why : Why) → IsUnsigned id bytes → ¬ IsKnown id → RecordTook in_end why bytes → IsRefusedId id why
unfolding is_known
id_reason in_end id bytes why s isnt (inl (inl (inl h))) = absurd (whole_number why id bytes s h)
id_reason in_end id bytes why s isnt (inl (inl (inr h))) = let one = PrefixFree-IsUnsigned.one h.0 id bytes bytes [] [] h.1 s refl in subst (λ k. IsRefusedId k why) one.1 h.2
id_reason in_end id bytes why s isnt (inl (inr b)) =
    let one = PrefixFree-IsUnsigned.one b.value id b.front bytes b.last [] b.spelled s (sym b.joined ∙ sym (append-nil bytes)) in
    absurd (isnt (subst IsKnown one.1 (after_known in_end b.value why b.last b.holds)))
id_reason in_end id bytes why s isnt (inr e) =
    let w = e.1 in
    let one = PrefixFree-IsUnsigned.one 2 id w.id bytes w.back [] w.is_end s (sym w.joined ∙ sym (append-nil bytes)) in
    absurd (isnt (subst IsKnown one.1 refl))

-- after the id of a record it is what follows that goes wrong
pub behind_id : (in_end : Bool) (id : ℕ) (front rest : List ℕ) (why : Why) → IsUnsigned id front → IsKnown id → id ≢ 2 → RecordTook in_end why (front ++ rest) → AfterTook in_end id why rest
behind_id in_end id front rest why s known isnt (inl (inl (inl h))) = absurd (number_front why id front rest s h)
behind_id in_end id front rest why s known isnt (inl (inl (inr h))) =
    let one = PrefixFree-IsUnsigned.one h.0 id (front ++ rest) front [] rest h.1 s (append-nil (front ++ rest)) in
    absurd ((refused_unknown h.0 why h.2).0 (subst IsKnown (sym one.1) known))
behind_id in_end id front rest why s known isnt (inl (inr b)) =
    let one = PrefixFree-IsUnsigned.one b.value id b.front front b.last rest b.spelled s (sym b.joined) in
    let same : b.last ≡ rest = after_same b.front front b.last rest one.0 (sym b.joined) in
    subst (λ c. AfterTook in_end id why c) same (subst (λ k. AfterTook in_end k why b.last) one.1 b.holds)
behind_id in_end id front rest why s known isnt (inr e) =
    let w = e.1 in
    let one = PrefixFree-IsUnsigned.one 2 id w.id front w.back rest w.is_end s (sym w.joined) in
    absurd (isnt (sym one.1))

-- ---- a circle

byte_came : (why : Why) (info : ℕ) → ByteMay why (info ∷ []) → ⊥
byte_came Truncated info h = cc
byte_came Read info h = cc
byte_came InputTooLong info h = cc
byte_came _ info h = h

circle_info : (info : ℕ) (why : Why) → ¬ IsCircleInfo info → CircleTook why (info ∷ []) → why ≡ InfoByte
circle_info info why isnt (inl (inl h)) = absurd (byte_came why info h)
circle_info info why isnt (inl (inr h)) = h.2.0
circle_info info why isnt (inr b) =
    let same : b.value ∷ b.last ≡ info ∷ [] = ap (λ (c : List ℕ). c ++ b.last) (sym b.spelled.spelled.only) ∙ sym b.joined in
    let head : b.value ≡ info = cc in
    absurd (isnt (subst IsCircleInfo head b.spelled.holds))

pub circle_reason : (in_end : Bool) (front : List ℕ) (info : ℕ) (why : Why) → IsUnsigned 27 front → ¬ IsCircleInfo info → RecordTook in_end why (front ++ info ∷ []) → why ≡ InfoByte
unfolding is_known
circle_reason in_end front info why s isnt h = circle_info info why isnt (behind_id in_end 27 front (info ∷ []) why s refl (λ e. omega (arith, e)) h)
