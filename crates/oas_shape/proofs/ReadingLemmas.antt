-- Reading values that denote others, or that follow others.
use Rattle.std.proofs.Common.{◌≡◌, ℕ, ◌<◌, List, [], ◌∷◌, ◌++◌, length, refl, sym, ap, ◌∙◌, append_assoc, arith}
use Rattle.oas_num.specs.declared.refusals.Why.{Why}
use Rattle.oas_num.specs.declared.refusals.Why.TheVariants.{Memory}
use Rattle.oas_num.specs.Script.{Script, Consumed}
use Rattle.oas_num.specs.Grammar.{PrefixFree, IsImage, IsEach}
use Rattle.oas_num.specs.Laws.GrammarLaws.{after_same}
use Rattle.oas_num.specs.Reading.{ReadsValue, FailsPiece}

module _ {U V : Type 0} (f : U → V) (A : U → List ℕ → Type 0) where
  -- a value was read, and so was what it denotes
  pub image_read : {old new : Script} {u : U} → ReadsValue A old u new → ReadsValue (IsImage f A) old (f u) new
  image_read {u = u} read = record { bytes = read.bytes; spelled = record { from = u; is = refl; spelled = read.spelled }; takes = read.takes }

-- the next of the items that are spelled there, after items that were read
pub next_item : {V : Type 0} (A : V → List ℕ → Type 0) → PrefixFree A → (vs ws : List V) (a p r rest : List ℕ) → length vs < length ws → IsEach A vs a → IsEach A ws p → p ++ r ≡ a ++ rest
    → (w : V) × (more : List V) × (q : List ℕ) × (tail : List ℕ) × A w q × (q ++ tail ≡ rest) × (ws ≡ vs ++ w ∷ more)
next_item A law [] [] a p r rest lt e f same = absurd (omega arith)
next_item A law [] (w ∷ ws) a p r rest lt e f same =
    (w, ws, f.0, f.1 ++ r, f.2, sym (append_assoc f.0 f.1 r) ∙ ap (λ (c : List ℕ). c ++ r) (sym f.4) ∙ same ∙ ap (λ (c : List ℕ). c ++ rest) e, refl)
next_item A law (v ∷ vs) [] a p r rest lt e f same = absurd (omega arith)
next_item A law (v ∷ vs) (w ∷ ws) a p r rest lt e f same =
    let joined : f.0 ++ (f.1 ++ r) ≡ e.0 ++ (e.1 ++ rest) =
    sym (append_assoc f.0 f.1 r) ∙ ap (λ (c : List ℕ). c ++ r) (sym f.4) ∙ same ∙ ap (λ (c : List ℕ). c ++ rest) e.4 ∙ append_assoc e.0 e.1 rest in
    let one = law.one w v f.0 e.0 (f.1 ++ r) (e.1 ++ rest) f.2 e.2 joined in
    let next = next_item A law vs ws e.1 f.1 r rest (omega arith) e.3 f.3 (after_same f.0 e.0 (f.1 ++ r) (e.1 ++ rest) one.0 joined) in
    let head = one.1 in
    let tail : ws ≡ vs ++ next.0 ∷ next.1 = next.6 in
    (next.0, next.1, next.2, next.3, next.4, next.5, cc)

-- there was no memory for what these bytes spell
pub no_memory_piece : {V : Type 0} (A : V → List ℕ → Type 0) (took : Why → List ℕ → Type 0) (old new : Script) (bytes : List ℕ) → took Memory bytes
    → Consumed old bytes new → FailsPiece A took old Memory new
no_memory_piece A took old new bytes holds takes = record {
  bytes = bytes;
  takes = takes;
  reason = record { front = []; last = bytes; joined = refl; begun = refl; holds = holds };
  format = λ is. absurd cc;
  cut = λ is. absurd cc;
  truncated = λ is. absurd cc;
  device = λ is. absurd cc;
  too_long = λ is. absurd cc;
}
