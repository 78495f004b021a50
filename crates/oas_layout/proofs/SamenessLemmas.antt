-- What is held as equal keys is the same layout.
use Rattle.std.proofs.Common.{◌≡◌, ℕ, Bool, true, false, ◌&&◌, List, IsTrue, ◌↔◌, refl, sym, ap, ◌∙◌, true≢false}
use Rattle.std.specs.Bool.{Decides}
use Rattle.oas_elements.specs.Contents.{Contents, meaning_of, IsLayout}
use Rattle.oas_elements.specs.Meaning.{SameLayout}
use Rattle.oas_elements.proofs.SameLemmas.{cells_from_same, same_from_cells}
use Rattle.oas_runs.specs.Entries.{Entry}
use Rattle.oas_layout.specs.Keyed.{keyed_cells}
use Rattle.oas_layout.specs.Laws.HeldLaws.{cells_same}
use Rattle.oas_layout.proofs.HeldLemmas.{sound_cells}

both : (a b : Bool) → (a && b) ≡ true → (a ≡ true) × (b ≡ true)
both true b h = (refl, h)
both false b h = absurd (true≢false (sym h))

-- what decides the parts decides pairs
pub pairs_decide : {A B : Type 0} {E : A → A → Bool} {F : B → B → Bool} → ((a b : A) → Decides (E a b) (a ≡ b)) → ((a b : B) → Decides (F a b) (a ≡ b)) → (p q : A × B) → Decides (E p.0 q.0 && F p.1 q.1) (p ≡ q)
pairs_decide {A = A} {B = B} {E = E} {F = F} first second p q = (
  λ h. let parts = both (E p.0 q.0) (F p.1 q.1) h in λ i. ((first p.0 q.0).0 parts.0 i, (second p.1 q.1).0 parts.1 i),
  λ e. λ i. (first p.0 q.0).1 (ap (λ (x : A × B). x.0) e) i && (second p.1 q.1).1 (ap (λ (x : A × B). x.1) e) i,
)

module _ (l k : Contents) (p : IsLayout l) (q : IsLayout k) (alike : l.profile ≡ k.profile) where
  -- with equal units the runs decide
  pub runs_decide : (rs ts : List (List ℕ × List Entry)) (same : Bool) → rs ≡ keyed_cells l.cells → ts ≡ keyed_cells k.cells → l.unit ≡ k.unit → Decides same (rs ≡ ts)
      → IsTrue same ↔ SameLayout l.profile (meaning_of l) (meaning_of k)
  runs_decide rs ts same e f unit d = (
    λ h. same_from_cells l.profile l k unit (cells_same l.cells k.cells (sound_cells l.profile l.cells p.cells) (sound_cells k.profile k.cells q.cells) (sym e ∙ d.0 h ∙ f)),
    λ s. d.1 (e ∙ ap keyed_cells (cells_from_same l k alike p q s) ∙ sym f),
  )
