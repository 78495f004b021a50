-- Runs of PADs in a block's data.
use Rattle.std.proofs.Common.{◌≡◌, ◌≢◌, ℕ, zero, suc, ◌+◌, ◌-◌, ◌%◌, ◌^◌, ◌<◌, ◌≤◌, Bool, List, [], ◌∷◌, ◌++◌, refl, sym, ap, subst, ◌∙◌, append_assoc, arith}
use Rattle.std.specs.Prelude.{replicate}
use Rattle.std.proofs.lemmas.List.{append-nil}
use Rattle.oas_num.specs.Grammar.{PrefixFree, IsEach}
use Rattle.oas_num.specs.Laws.GrammarLaws.{after_same}
use Rattle.oas_narrow.specs.WideRecord.{WideRecord}
use Rattle.oas_narrow.specs.WideFiles.{inner_in}
use Rattle.oas_prepare.specs.Places.{pads, NoPadLast}
use Rattle.oas_prepare.proofs.Items.{inner_some}
use Rattle.oas_prepare.proofs.Pads.{pad, pad_in}
use Rattle.oas_prepare.proofs.WideLaws.{PrefixFree-inner}

-- ---- spellings of one kind

back_none : (a b : List ℕ) → a ++ b ≡ [] → b ≡ []
back_none [] b e = e
back_none (x ∷ a) b e = absurd cc

module _ {V : Type 0} (A : V → List ℕ → Type 0) where
  pub each_more : (vs ws : List V) (a b : List ℕ) → IsEach A vs a → IsEach A ws b → IsEach A (vs ++ ws) (a ++ b)
  each_more [] ws a b p q = subst (IsEach A ws) (ap (λ (c : List ℕ). c ++ b) (sym p)) q
  each_more (v ∷ vs) ws a b p q = (p.0, p.1 ++ b, p.2, each_more vs ws p.1 b p.3 q, ap (λ (c : List ℕ). c ++ b) p.4 ∙ append_assoc p.0 p.1 b)

  each_same : (v : V) (x : ℕ) → A v (x ∷ []) → (count : ℕ) → IsEach A (replicate count v) (replicate count x)
  each_same v x is zero = refl
  each_same v x is (suc count) = (x ∷ [], replicate count x, is, each_same v x is count, refl)

  module _ (law : PrefixFree A) (some : (v : V) (a : List ℕ) → A v a → a ≢ []) where
    -- one of them isn't several
    not_more : (v w : V) (ws : List V) (last : V) (b c d : List ℕ) → A v c → IsEach A (w ∷ ws) b → A last d → c ≡ b ++ d → ⊥
    not_more v w ws last b c d p q r e =
        let j : c ++ [] ≡ q.0 ++ (q.1 ++ d) = append-nil c ∙ e ∙ ap (λ (x : List ℕ). x ++ d) q.4 ∙ append_assoc q.0 q.1 d in
        let same : c ≡ q.0 = (law.one v w c q.0 [] (q.1 ++ d) p q.2 j).0 in
        some last d r (back_none q.1 d (sym (after_same c q.0 [] (q.1 ++ d) same j)))

    -- the last of some has the same bytes, however they are taken apart
    pub last_same : (vs ws : List V) (v w : V) (a b c d : List ℕ) → IsEach A vs a → IsEach A ws b → A v c → A w d → a ++ c ≡ b ++ d → c ≡ d
    last_same [] [] v w a b c d p q r s e = ap (λ (x : List ℕ). x ++ c) (sym p) ∙ e ∙ ap (λ (x : List ℕ). x ++ d) q
    last_same [] (x ∷ ws) v w a b c d p q r s e = absurd (not_more v x ws w b c d r q s (ap (λ (y : List ℕ). y ++ c) (sym p) ∙ e))
    last_same (x ∷ vs) [] v w a b c d p q r s e = absurd (not_more w x vs v a d c s p r (ap (λ (y : List ℕ). y ++ d) (sym q) ∙ sym e))
    last_same (x ∷ vs) (y ∷ ws) v w a b c d p q r s e =
        let j : p.0 ++ (p.1 ++ c) ≡ q.0 ++ (q.1 ++ d) =
        sym (append_assoc p.0 p.1 c) ∙ ap (λ (l : List ℕ). l ++ c) (sym p.4) ∙ e ∙ ap (λ (l : List ℕ). l ++ d) q.4 ∙ append_assoc q.0 q.1 d in
        let same = (law.one x y p.0 q.0 (p.1 ++ c) (q.1 ++ d) p.2 q.2 j).0 in
        last_same vs ws v w p.1 q.1 c d p.3 q.3 r s (after_same p.0 q.0 (p.1 ++ c) (q.1 ++ d) same j)

-- ---- PADs among the records of the data

pub each_pads : (in_end : Bool) (count : ℕ) → IsEach (inner_in in_end) (pads count) (replicate count 0)
each_pads in_end count = each_same (inner_in in_end) pad 0 (pad_in in_end) count

-- after a record that isn't a PAD of one byte none is last
pub no_pad : (in_end : Bool) (vs : List WideRecord) (w : WideRecord) (a c : List ℕ) → IsEach (inner_in in_end) vs a → inner_in in_end w c → c ≢ 0 ∷ [] → NoPadLast in_end (a ++ c)
no_pad in_end vs w a c each one not ws front before e =
    not (last_same (inner_in in_end) (PrefixFree-inner in_end) (inner_some in_end) vs ws w pad a front c (0 ∷ []) each before one (pad_in in_end) e)

-- ---- where a run ends

-- several zeros begin with one
pub zeros_begin : (count : ℕ) → 0 < count → (left : List ℕ) → (rest : List ℕ) × (replicate count 0 ++ left ≡ 0 ∷ rest)
zeros_begin zero some left = absurd (omega arith)
zeros_begin (suc count) some left = (replicate count 0 ++ left, refl)

pub next_part : (at count : ℕ) → 2 ^ 20 - at % 2 ^ 20 ≤ count → count ≤ 2 ^ 20 - at % 2 ^ 20 → (at + count) % 2 ^ 20 ≡ 0
next_part at count least most = omega arith

pub within_part : (at count : ℕ) → count ≤ 2 ^ 20 - at % 2 ^ 20 → at % 2 ^ 20 + count ≤ 2 ^ 20
within_part at count most = omega arith
