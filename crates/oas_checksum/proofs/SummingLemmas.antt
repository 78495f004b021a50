-- The sums of what a source gave, after more bytes.
use Rattle.std.proofs.Common.{◌≡◌, ℕ, List, [], ◌∷◌, ◌++◌, Option, Some, Ok, sym, subst}
use base.Fml.{GName}
use Rattle.oas_bytes.specs.Script.{Script, since, Consumed, Next}
use Rattle.oas_bytes.proofs.ScriptLemmas.{since_is, since_then, consumed_since, since_none, consumed_none}
use Rattle.oas_checksum.specs.Signing.{AreSigned}
use Rattle.oas_checksum.specs.Summing.{IsSummed}

pub summed_then : {start : Script} {name same : GName} {s t : Script} {old : (ℕ × ℕ) × List ℕ} (xs : List ℕ) (new : (ℕ × ℕ) × List ℕ) → IsSummed start name same s old → Consumed s xs t
    → ((bytes : List ℕ) → AreSigned old bytes → AreSigned new (bytes ++ xs)) → IsSummed start name same t new
summed_then {start} {name} {same} {s} {t} {old} xs new f k h = record {
  same_source = f.same_source;
  takes = consumed_since start f.takes k;
  are = subst (λ (x : List ℕ). AreSigned new x) (sym (since_then start f.takes k)) (h (since start s) f.are);
}

-- the result is that byte
pub given_summed : {start : Script} {name same : GName} {s t : Script} {old : (ℕ × ℕ) × List ℕ} (byte : ℕ) (new : (ℕ × ℕ) × List ℕ) (answer : Option ℕ) → answer ≡ Some byte
    → IsSummed start name same s old → Next s (Ok answer) t
    → ((bytes : List ℕ) → AreSigned old bytes → AreSigned new (bytes ++ byte ∷ [])) → IsSummed start name same t new
given_summed {start} {name} {same} {s} {t} {old} byte new answer e f n h =
    summed_then (byte ∷ []) new f (subst (λ (a : Option ℕ). Next s (Ok a) t) e n).answers.1 h

-- nothing was given yet
pub summed_first : {start now : Script} {name same : GName} (new : (ℕ × ℕ) × List ℕ) → same ≡ name → now ≡ start → AreSigned new [] → IsSummed start name same now new
summed_first {start} {now} {name} {same} new e f h =
    subst (λ (s : Script). IsSummed start name same s new) (sym f) (record {
      same_source = e;
      takes = consumed_none start;
      are = subst (λ (x : List ℕ). AreSigned new x) (sym (since_none start)) h;
    })

-- the sums of all that was taken
pub taken_sums : {start now : Script} {name same : GName} {sums : (ℕ × ℕ) × List ℕ} → IsSummed start name same now sums → (bytes : List ℕ) → Consumed start bytes now → AreSigned sums bytes
taken_sums {start} {now} {name} {same} {sums} f bytes k = subst (λ (x : List ℕ). AreSigned sums x) (since_is k) f.are
