-- Adding up displacements as they are read.
use Rattle.std.proofs.Common.{◌≡◌, ◌≢◌, ℕ, zero, suc, ℤ, pos, ◌+◌, ◌-◌, ◌^◌, ◌<◌, List, [], ◌∷◌, ◌++◌, map, length, refl, sym, ap, subst, ◌∙◌, append_assoc, inr, arith}
use Rattle.std.specs.Prelude.{◌+ℤ◌, ◌*ℤ◌}
use Rattle.std.specs.List.{AllByRecursion}
use Rattle.std.proofs.lemmas.Int.{ints}
use lib.IntN.{zero-*ℤ, suc_ℤ-*ℤ}
use Rattle.std.proofs.lemmas.List.{length_push}
use Rattle.oas_num.specs.declared.refusals.Why.{Why}
use Rattle.oas_num.specs.declared.refusals.Why.TheVariants.{CoordinateRange, Memory}
use Rattle.oas_num.specs.declared.deltas.GDelta.{GDelta}
use Rattle.oas_num.specs.Deltas.{step}
use Rattle.oas_num.specs.Script.{Script}
use Rattle.oas_num.specs.Grammar.{IsImage, IsCount, IsSuch}
use Rattle.oas_num.specs.Pieces.{SuchTook}
use Rattle.oas_num.specs.Reading.{ReadsValue, FailsPiece}
use Rattle.oas_num.proofs.ReadLemmas.{Wants}
use Rattle.oas_num.proofs.GrammarLemmas.{Listed, listed_none, listed_more, listed_all, such_read}
use Rattle.oas_num.proofs.PieceLemmas.{fails_behind}
use Rattle.oas_num.proofs.HalfwayLemmas.{such_took, such_refused}
use Rattle.oas_shape.specs.declared.offsets.Along.{Along}
use Rattle.oas_shape.specs.Steps.{still, added, times, sums_after, IsBounded, IsPartialSum}
use Rattle.oas_shape.specs.Offsets.{offsets_by}
use Rattle.oas_shape.specs.Repetitions.{displacement_in, IsOffsets, DisplacementTook, RefusesNext, OffsetsTook}
use Rattle.oas_shape.specs.Laws.RepetitionLaws.{PrefixFree-displacement, still_is, still_near}
use Rattle.oas_shape.proofs.SumLemmas.{all_more, at_middle, at_front}
use Rattle.oas_shape.proofs.ReadingLemmas.{image_read, next_item, no_memory_piece}

-- the sum of all steps, added to what was before
abbrev pub total : GDelta → List GDelta → GDelta
total before [] = before
total before (d ∷ ds) = total (added before d) ds

total-push : (before : GDelta) (ds : List GDelta) (d : GDelta) → total before (ds ++ d ∷ []) ≡ added (total before ds) d
total-push before [] d = refl
total-push before (e ∷ ds) d = total-push (added before e) ds d

-- the sums of some steps and more
sums-append : (before : GDelta) (ds es : List GDelta) → sums_after before (ds ++ es) ≡ sums_after before ds ++ sums_after (total before ds) es
sums-append before [] es = refl
sums-append before (d ∷ ds) es = ap (λ (rest : List GDelta). added before d ∷ rest) (sums-append (added before d) ds es)

map-append : (f : GDelta → GDelta) (xs ys : List GDelta) → map f (xs ++ ys) ≡ map f xs ++ map f ys
map-append f [] ys = refl
map-append f (x ∷ xs) ys = ap (λ (rest : List GDelta). f x ∷ rest) (map-append f xs ys)

-- the offsets of some displacements and more
pub offsets-append : (grid : ℕ) (ds es : List GDelta) → offsets_by grid (ds ++ es) ≡ offsets_by grid ds ++ map (times grid) (sums_after (total still ds) es)
offsets-append grid ds es =
    ap (λ (rest : List GDelta). times grid still ∷ map (times grid) rest) (sums-append still ds es)
    ∙ ap (λ (rest : List GDelta). times grid still ∷ rest) (map-append (times grid) (sums_after still ds) (sums_after (total still ds) es))

shuffled : (x y a b : ℤ) → (x +ℤ y) +ℤ (a +ℤ b) ≡ (x +ℤ a) +ℤ (y +ℤ b)
shuffled x y a b = omega (arith, ints)

times_plus : (g : ℕ) (a b : ℤ) → pos g *ℤ (a +ℤ b) ≡ (pos g *ℤ a) +ℤ (pos g *ℤ b)
times_plus zero a b = zero-*ℤ (a +ℤ b) ∙ (λ i. sym (zero-*ℤ a) i +ℤ sym (zero-*ℤ b) i)
times_plus (suc g) a b =
    suc_ℤ-*ℤ (pos g) (a +ℤ b)
    ∙ ap (λ (z : ℤ). z +ℤ (a +ℤ b)) (times_plus g a b)
    ∙ shuffled (pos g *ℤ a) (pos g *ℤ b) a b
    ∙ (λ i. sym (suc_ℤ-*ℤ (pos g) a) i +ℤ sym (suc_ℤ-*ℤ (pos g) b) i)

-- the grid times a sum
pub times-added : (grid : ℕ) (d e : GDelta) → times grid (added d e) ≡ added (times grid d) (times grid e)
times-added grid d e = (λ i. step (times_plus grid d.dx e.dx i) (times_plus grid d.dy e.dy i))

-- these offsets were read, the last of which is that
pub record Summed (along : Along) (grid : ℕ) (old now : Script) (offsets : List GDelta) (last : GDelta) (count : ℕ) : Type 0 where
  pub displacements : List GDelta
  pub listed : Listed (displacement_in along) old now displacements
  pub are : offsets ≡ offsets_by grid displacements
  pub is_last : last ≡ times grid (total still displacements)
  pub within : AllByRecursion IsPartialSum offsets
  pub len : length displacements ≡ count

-- none yet
pub summed_none : (along : Along) (grid : ℕ) (s : Script) → Summed along grid s s (still ∷ []) still 0
summed_none along grid s = record {
  displacements = [];
  listed = listed_none (displacement_in along) s;
  are = ap (λ (d : GDelta). d ∷ []) (sym (still_is grid));
  is_last = sym (still_is grid);
  within = (still_near, tt);
  len = refl;
}

module _ {along : Along} {grid : ℕ} {old mid : Script} {offsets : List GDelta} {last : GDelta} {count : ℕ} (s : Summed along grid old mid offsets last count) where
  -- the sum with one more displacement
  next_is : (d : GDelta) → added last (times grid d) ≡ times grid (total still (s.displacements ++ d ∷ []))
  next_is d =
      ap (λ (e : GDelta). added e (times grid d)) s.is_last
      ∙ sym (times-added grid (total still s.displacements) d)
      ∙ ap (times grid) (sym (total-push still s.displacements d))

  offsets_more : (d : GDelta) → offsets_by grid (s.displacements ++ d ∷ []) ≡ offsets ++ added last (times grid d) ∷ []
  offsets_more d =
      offsets-append grid s.displacements (d ∷ [])
      ∙ ap (λ (rest : List GDelta). rest ++ times grid (added (total still s.displacements) d) ∷ []) (sym s.are)
      ∙ ap (λ (e : GDelta). offsets ++ e ∷ []) (times-added grid (total still s.displacements) d ∙ ap (λ (e : GDelta). added e (times grid d)) (sym s.is_last))

  -- one more displacement
  pub summed_more : {new : Script} {d next : GDelta} → ReadsValue (displacement_in along) mid d new → IsPartialSum (added last (times grid d))
      → added last (times grid d) ≡ next → Summed along grid old new (offsets ++ next ∷ []) next (count + 1)
  summed_more {new = new} {d = d} {next = next} read near e = record {
    displacements = s.displacements ++ d ∷ [];
    listed = listed_more (displacement_in along) old mid new s.displacements d s.listed read;
    are = ap (λ (x : GDelta). offsets ++ x ∷ []) (sym e) ∙ sym (offsets_more d);
    is_last = sym e ∙ next_is d;
    within = all_more IsPartialSum offsets next s.within (subst IsPartialSum e near);
    len = length_push s.displacements d ∙ ap (λ (n : ℕ). n + 1) s.len;
  }

  -- all were read
  pub summed_all : (all : ℕ) → count ≡ all → ReadsValue (IsOffsets along grid all) old offsets mid
  summed_all all e =
      such_read (AllByRecursion IsPartialSum) (IsImage (offsets_by grid) (IsCount (displacement_in along) all)) old mid offsets s.within
      (subst (λ (xs : List GDelta). ReadsValue (IsImage (offsets_by grid) (IsCount (displacement_in along) all)) old xs mid) (sym s.are)
      (image_read (offsets_by grid) (IsCount (displacement_in along) all) (listed_all (displacement_in along) all old mid s.displacements (s.len ∙ e) s.listed)))

  -- where all sums of these and more displacements are within the limit, so are those of these
  one_past : (d : GDelta) (rest : List GDelta) → AllByRecursion IsPartialSum (offsets_by grid ((s.displacements ++ d ∷ []) ++ rest)) → IsPartialSum (added last (times grid d))
  one_past d rest all_near =
      let e : offsets_by grid ((s.displacements ++ d ∷ []) ++ rest) ≡ (offsets ++ added last (times grid d) ∷ []) ++ map (times grid) (sums_after (total still (s.displacements ++ d ∷ [])) rest) =
      offsets-append grid (s.displacements ++ d ∷ []) rest ∙ ap (λ (xs : List GDelta). xs ++ map (times grid) (sums_after (total still (s.displacements ++ d ∷ [])) rest)) (offsets_more d) in
      at_middle IsPartialSum offsets (added last (times grid d)) []
      (at_front IsPartialSum (offsets ++ added last (times grid d) ∷ [])
      (map (times grid) (sums_after (total still (s.displacements ++ d ∷ [])) rest)) (subst (AllByRecursion IsPartialSum) e all_near))

  -- the next displacement, with which the sum is within the limit
  abbrev IsNext : GDelta → Type 0
  IsNext d = IsPartialSum (added last (times grid d))

  next_expected : (all : ℕ) → count < all → Wants (IsOffsets along grid all) s.listed.bytes (IsSuch IsNext (displacement_in along))
  next_expected all lt = record {
    wants = λ v p r rest spelled e.
        let counted = spelled.spelled.spelled in
        let next = next_item (displacement_in along) (PrefixFree-displacement along) s.displacements spelled.spelled.from s.listed.bytes p r rest
        (omega (arith, s.len, counted.len, lt)) s.listed.each counted.each e in
        let parted : spelled.spelled.from ≡ (s.displacements ++ next.0 ∷ []) ++ next.1 = next.6 ∙ sym (append_assoc s.displacements (next.0 ∷ []) next.1) in
        let near = subst (λ (xs : List GDelta). AllByRecursion IsPartialSum (offsets_by grid xs)) parted (subst (AllByRecursion IsPartialSum) (sym spelled.spelled.is) spelled.holds) in
        (next.0, next.2, next.3, record { holds = one_past next.0 next.1 near; spelled = next.4 }, next.5);
  }

  -- where the next displacement goes wrong
  abbrev NextTook : Why → List ℕ → Type 0
  NextTook = SuchTook (displacement_in along) (DisplacementTook along) (RefusesNext grid s.displacements)

  -- what fails after these displacements
  next_fails : {new : Script} {why : Why} (all : ℕ) → count < all → FailsPiece (IsSuch IsNext (displacement_in along)) NextTook mid why new
      → FailsPiece (IsOffsets along grid all) (OffsetsTook along grid all) old why new
  next_fails all lt f =
      fails_behind (IsOffsets along grid all) (IsSuch IsNext (displacement_in along)) s.listed.bytes
      (λ bytes h. record {
        value = s.displacements;
        front = s.listed.bytes;
        last = bytes;
        spelled = s.listed.each;
        holds = (omega (arith, s.len, lt), subst (AllByRecursion IsPartialSum) s.are s.within, h);
        joined = refl;
      })
      s.listed.takes (next_expected all lt) f

  -- a displacement couldn't be read
  pub summed_fails : {new : Script} {why : Why} (all : ℕ) → count < all → FailsPiece (displacement_in along) (DisplacementTook along) mid why new
      → FailsPiece (IsOffsets along grid all) (OffsetsTook along grid all) old why new
  summed_fails all lt f = next_fails all lt (such_took {refuses = RefusesNext grid s.displacements} f)

  -- a sum exceeds the limit
  pub summed_past : {new : Script} {d : GDelta} (all : ℕ) → count < all → ReadsValue (displacement_in along) mid d new
      → ¬ IsPartialSum (added last (times grid d)) → FailsPiece (IsOffsets along grid all) (OffsetsTook along grid all) old CoordinateRange new
  summed_past {d = d} all lt read past =
      let reason : RefusesNext grid s.displacements d CoordinateRange =
      λ near. past (at_middle IsPartialSum offsets (added last (times grid d)) [] (subst (AllByRecursion IsPartialSum) (offsets_more d) near)) in
      next_fails all lt (such_refused {took = DisplacementTook along} {refuses = RefusesNext grid s.displacements} (PrefixFree-displacement along) refl past reason read)

  -- out of memory
  pub summed_no_memory : {new : Script} {d : GDelta} (all : ℕ) → count < all → ReadsValue (displacement_in along) mid d new
      → IsPartialSum (added last (times grid d)) → FailsPiece (IsOffsets along grid all) (OffsetsTook along grid all) old Memory new
  summed_no_memory {new = new} {d = d} all lt read near =
      next_fails all lt
      (no_memory_piece (IsSuch IsNext (displacement_in along)) NextTook mid new read.bytes
      (inr (d, read.spelled, subst (AllByRecursion IsPartialSum) (sym (offsets_more d)) (all_more IsPartialSum offsets (added last (times grid d)) s.within near))) read.takes)

-- these were read, and this many more have to be read before the last one
pub record Summing (along : Along) (grid : ℕ) (old now : Script) (offsets : List GDelta) (last : GDelta) (left more : ℕ) : Type 0 where
  pub count : ℕ
  pub summed : Summed along grid old now offsets last count
  pub left_is : count + left ≡ more

-- all have to be read
pub summing_none : (along : Along) (grid : ℕ) (s : Script) (more : ℕ) → Summing along grid s s (still ∷ []) still more more
summing_none along grid s more = record { count = 0; summed = summed_none along grid s; left_is = omega arith }

-- a sum of two
pub near_sum : (a b r : ℤ) → IsBounded (2 ^ 97) a → IsBounded (2 ^ 97) b → r ≡ a +ℤ b → IsBounded (2 ^ 98) r
near_sum a b r p q e = subst (IsBounded (2 ^ 98)) (sym e) (omega (arith, ints), omega (arith, ints))

-- one more displacement, which isn't the last
pub summing_more : {along : Along} {grid : ℕ} {old mid new : Script} {offsets : List GDelta} {last : GDelta} {left more : ℕ} {d next : GDelta}
    → Summing along grid old mid offsets last left more → left ≢ 0 → ReadsValue (displacement_in along) mid d new → IsPartialSum (added last (times grid d)) → added last (times grid d) ≡ next
    → Summing along grid old new (offsets ++ next ∷ []) next (left - 1) more
summing_more s isnt read near e = record { count = s.count + 1; summed = summed_more s.summed read near e; left_is = omega (arith, s.left_is) }
