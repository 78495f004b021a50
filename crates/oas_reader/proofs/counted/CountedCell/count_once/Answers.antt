use Rattle.std.proofs.Common.{arith, subst, sym, ℕ, ◌+◌, ◌≤◌, List}
use Rattle.oas_elements.specs.Laws.BagLaws.{total}
use Rattle.oas_reader.proofs.UsedLemmas.{few_more}
use Rattle.oas_reader.proofs.counted.CountedCell.count_once.Goals as goal
use Rattle.oas_reader.proofs.counted.CountedCell.count_once.Goals.{in-Placement-Number-default-default-default-default+in_ok-add-in-Placement-Number-default-default-default-default, in-Placement+in-Name-1}
use Rattle.oas_reader.proofs.counted.CountedCell.count_once.Goals.{in-Text-Number-default-default-default-default+in_ok-add-in-Text-Number-default-default-default-default, in-Text+in-Label-1}

pub invariant_of-self-2 : goal.invariant_of-self-2
invariant_of-self-2 c =
    elim c.match-drawn.branch [
      | in-Placement-Number-default-default-default-default+in_ok-add-in-Placement-Number-default-default-default-default w ↦
          subst (λ s. (total (λ _. 1) s.placed ≤ s.count + 1) × (total (λ _. 1) s.written ≤ s.count + 1)) (sym w.self-inside-is) (
            subst (λ (ps : List (ℕ × ℕ)). total (λ _. 1) ps ≤ c.self.inside.count + 1) (sym w.in_ok-add-in-Placement-Number-default-default-default-default.ensures.ok) (few_more _ _ _ _ c.self.invariant.0),
            omega (arith, c.self.invariant.1),
          )
      | in-Placement+in-Name-1 w ↦ subst (λ s. (total (λ _. 1) s.placed ≤ s.count + 1) × (total (λ _. 1) s.written ≤ s.count + 1)) (sym w.self-inside-is) (omega (arith, c.self.invariant.0), omega (arith, c.self.invariant.1))
      | in-Text-Number-default-default-default-default+in_ok-add-in-Text-Number-default-default-default-default w ↦
          subst (λ s. (total (λ _. 1) s.placed ≤ s.count + 1) × (total (λ _. 1) s.written ≤ s.count + 1)) (sym w.self-inside-is) (
            omega (arith, c.self.invariant.0),
            subst (λ (ps : List (ℕ × ℕ)). total (λ _. 1) ps ≤ c.self.inside.count + 1) (sym w.in_ok-add-in-Text-Number-default-default-default-default.ensures.ok) (few_more _ _ _ _ c.self.invariant.1),
          )
      | in-Text+in-Label-1 w ↦ subst (λ s. (total (λ _. 1) s.placed ≤ s.count + 1) × (total (λ _. 1) s.written ≤ s.count + 1)) (sym w.self-inside-is) (omega (arith, c.self.invariant.0), omega (arith, c.self.invariant.1))
    ]
