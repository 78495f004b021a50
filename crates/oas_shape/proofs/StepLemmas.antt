-- Deltas that were read one after another.
use Rattle.std.proofs.Common.{◌≡◌, ℕ, ◌<◌, subst, inl, inr, arith, Bool, not, List, [], ◌∷◌, ◌++◌, length, refl, sym, ap, ◌∙◌, ◌+◌}
use Rattle.std.specs.Prelude.{pos, if◌then◌else◌}
use Rattle.std.proofs.lemmas.List.{length_push}
use Rattle.oas_num.specs.declared.deltas.Delta1.{Delta1}
use Rattle.oas_num.specs.declared.deltas.GDelta.{GDelta}
use Rattle.oas_num.specs.Deltas.{SpellsDelta1, step}
use Rattle.oas_num.specs.Script.{Script}
use Rattle.oas_num.specs.declared.refusals.Why.{Why}
use Rattle.oas_num.specs.declared.refusals.Why.TheVariants.{Memory}
use Rattle.oas_num.specs.Grammar.{IsImage, IsCount}
use Rattle.oas_num.specs.Laws.DeltaLaws.{Delta1-one_front}
use Rattle.oas_num.specs.Pieces.{ListTook}
use Rattle.oas_num.specs.Reading.{ReadsValue, FailsPiece, IntegerMay}
use Rattle.oas_num.proofs.GrammarLemmas.{Listed, listed_none, listed_more, listed_all}
use Rattle.oas_num.proofs.PieceLemmas.{item_fails, item_unkept}
use Rattle.oas_num.proofs.HalfwayLemmas.{image_took}
use Rattle.oas_shape.proofs.ReadingLemmas.{image_read}
use Rattle.oas_shape.specs.PointLists.{alternating}

-- whether the next 1-delta goes along x
abbrev pub turn : Bool → List Delta1 → Bool
turn along_x [] = along_x
turn along_x (d ∷ ds) = turn (not along_x) ds

-- one more delta
turn-push : (along_x : Bool) (ds : List Delta1) (d : Delta1) → turn along_x (ds ++ d ∷ []) ≡ not (turn along_x ds)
turn-push along_x [] d = refl
turn-push along_x (e ∷ ds) d = turn-push (not along_x) ds d

alternating-push : (along_x : Bool) (ds : List Delta1) (d : Delta1)
    → alternating along_x (ds ++ d ∷ []) ≡ alternating along_x ds ++ (if turn along_x ds then step d.0 (pos 0) else step (pos 0) d.0) ∷ []
alternating-push along_x [] d = refl
alternating-push along_x (e ∷ ds) d = ap (λ (rest : List GDelta). (if along_x then step e.0 (pos 0) else step (pos 0) e.0) ∷ rest) (alternating-push (not along_x) ds d)

-- these steps were read as 1-deltas
pub record Alternated (x_first : Bool) (old now : Script) (steps : List GDelta) (along_x : Bool) (count : ℕ) : Type 0 where
  pub deltas : List Delta1
  pub listed : Listed SpellsDelta1 old now deltas
  pub are : steps ≡ alternating x_first deltas
  pub next : along_x ≡ turn x_first deltas
  pub len : length deltas ≡ count

-- none yet
pub alternated_none : (x_first : Bool) (s : Script) → Alternated x_first s s [] x_first 0
alternated_none x_first s = record { deltas = []; listed = listed_none SpellsDelta1 s; are = refl; next = refl; len = refl }

-- and one more
pub alternated_more : {x_first : Bool} {old mid new : Script} {steps : List GDelta} {along_x : Bool} {count : ℕ} {delta : Delta1} {next : GDelta}
    → Alternated x_first old mid steps along_x count → ReadsValue SpellsDelta1 mid delta new → next ≡ (if along_x then step delta.0 (pos 0) else step (pos 0) delta.0)
    → Alternated x_first old new (steps ++ next ∷ []) (not along_x) (count + 1)
alternated_more {x_first = x_first} {old = old} {mid = mid} {new = new} {steps = steps} {along_x = along_x} {delta = delta} {next = next} a read is = record {
  deltas = a.deltas ++ delta ∷ [];
  listed = listed_more SpellsDelta1 old mid new a.deltas delta a.listed read;
  are = let e = alternating-push x_first a.deltas delta in let f = a.are in let g = a.next in cc;
  next = ap not a.next ∙ sym (turn-push x_first a.deltas delta);
  len = length_push a.deltas delta ∙ ap (λ (n : ℕ). n + 1) a.len;
}

module _ {x_first : Bool} {old mid : Script} {steps : List GDelta} {along_x : Bool} {read_so_far : ℕ} (a : Alternated x_first old mid steps along_x read_so_far) where
  -- all were read
  pub alternated_all : (count : ℕ) → read_so_far ≡ count → ReadsValue (IsImage (alternating x_first) (IsCount SpellsDelta1 count)) old steps mid
  alternated_all count e =
      subst (λ (xs : List GDelta). ReadsValue (IsImage (alternating x_first) (IsCount SpellsDelta1 count)) old xs mid) (sym a.are)
      (image_read (alternating x_first) (IsCount SpellsDelta1 count) (listed_all SpellsDelta1 count old mid a.deltas (a.len ∙ e) a.listed))

  -- a delta couldn't be read
  pub alternated_fails : {new : Script} {why : Why} (count : ℕ) → read_so_far < count → FailsPiece SpellsDelta1 IntegerMay mid why new
      → FailsPiece (IsImage (alternating x_first) (IsCount SpellsDelta1 count)) (ListTook SpellsDelta1 count IntegerMay) old why new
  alternated_fails count lt fails = image_took (item_fails Delta1-one_front (λ _ h. inl h) (omega (arith, a.len, lt)) a.listed fails)

  -- out of memory
  pub alternated_no_memory : {new : Script} {delta : Delta1} (count : ℕ) → read_so_far < count → ReadsValue SpellsDelta1 mid delta new
      → FailsPiece (IsImage (alternating x_first) (IsCount SpellsDelta1 count)) (ListTook SpellsDelta1 count IntegerMay) old Memory new
  alternated_no_memory {delta = delta} count lt read = image_took (item_unkept (λ _ h. inr (delta, h, refl)) (omega (arith, a.len, lt)) a.listed read)
