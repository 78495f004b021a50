-- Reading what is not kept.
use Rattle.std.proofs.Common.{◌≡◌, ℕ, ◌+◌, ◌<◌, Bool, true, false, IsTrue, List, [], ◌∷◌, ◌++◌, length, refl, ap, ◌∙◌, arith}
use Rattle.std.proofs.lemmas.List.{length_push}
use Rattle.oas_num.specs.declared.refusals.Why.{Why}
use Rattle.oas_num.specs.Script.{Script}
use Rattle.oas_num.specs.Grammar.{PrefixFree, IsImage, IsCount}
use Rattle.oas_num.specs.Pieces.{CountTook}
use Rattle.oas_num.proofs.PieceLemmas.{fails_behind, item_fails}
use Rattle.oas_num.specs.Reading.{ReadsValue, FailsPiece}
use Rattle.oas_num.proofs.ReadLemmas.{Consumed-none}
use Rattle.oas_num.proofs.MidwayLemmas.{image_fails}
use Rattle.oas_num.proofs.GrammarLemmas.{Listed, listed_none, listed_more}
use Rattle.oas_record.specs.Ends.{nothing, offsets_if, IsOffsets, OffsetsTook, OffsetsIfTook}

-- this many were read, and not kept
pub record Passed {V : Type 0} (A : V → List ℕ → Type 0) (old now : Script) (count : ℕ) : Type 0 where
  pub items : List V
  pub listed : Listed A old now items
  pub len : length items ≡ count

module _ {V : Type 0} (A : V → List ℕ → Type 0) where
  pub passed_none : (s : Script) → Passed A s s 0
  passed_none s = record { items = []; listed = listed_none A s; len = refl }

  pub passed_more : (old mid new : Script) (count : ℕ) (v : V) → Passed A old mid count → ReadsValue A mid v new → Passed A old new (count + 1)
  passed_more old mid new count v p read = record {
    items = p.items ++ v ∷ [];
    listed = listed_more A old mid new p.items v p.listed read;
    len = length_push _ _ ∙ ap (λ n. n + 1) p.len;
  }

  pub passed_fails : {there : Why → List ℕ → Type 0} {old mid new : Script} {at count : ℕ} {why : Why} → PrefixFree A → at < count → Passed A old mid at
      → FailsPiece A there mid why new → FailsPiece (IsImage nothing (IsCount A count)) (CountTook A count there) old why new
  passed_fails law lt p f = image_fails nothing (item_fails law (λ _ h. h) (omega (arith, p.len, lt)) p.listed f)

  pub passed_all : (old new : Script) (at count : ℕ) (v : Unit {0}) → at ≡ count → Passed A old new at → ReadsValue (IsImage nothing (IsCount A count)) old v new
  passed_all old new at count v is p = record {
    bytes = p.listed.bytes;
    spelled = record { from = p.items; is = refl; spelled = record { len = p.len ∙ is; each = p.listed.each } };
    takes = p.listed.takes;
  }

-- table-offsets that are there, and that aren't
pub offsets_fail : {old new : Script} {why : Why} (there : Bool) → IsTrue there → FailsPiece IsOffsets OffsetsTook old why new → FailsPiece (offsets_if there) (OffsetsIfTook there) old why new
offsets_fail {old = old} true is f = fails_behind (offsets_if true) IsOffsets [] (λ _ h. h) (Consumed-none old) (record { wants = λ v p r rest s e. (v, p, r, s, e) }) f
offsets_fail false is f = absurd cc
