use Rattle.std.proofs.Common.{arith, subst, sym, ℕ, ◌+◌, ◌≤◌, List}
use Rattle.oas_elements.specs.Laws.BagLaws.{total}
use Rattle.oas_reader.proofs.UsedLemmas.{few_more}
use Rattle.oas_reader.proofs.counted.CountedCell.count_times.Goals as goal
use Rattle.oas_reader.proofs.counted.CountedCell.count_times.Goals.{in-Nothing, in-Cell+in_ok-add-in-Cell, in-Text+in_ok-add-in-Text}

pub invariant_of-self-2 : goal.invariant_of-self-2
invariant_of-self-2 c =
    elim c.match-tally.branch [
      | in-Nothing w ↦
          subst (λ s. (total (λ _. 1) s.placed ≤ s.count + c.args.times) × (total (λ _. 1) s.written ≤ s.count + c.args.times)) (sym w.self-inside-is)
          (omega (arith, c.self.invariant.0), omega (arith, c.self.invariant.1))
      | in-Cell+in_ok-add-in-Cell w ↦
          subst (λ s. (total (λ _. 1) s.placed ≤ s.count + c.args.times) × (total (λ _. 1) s.written ≤ s.count + c.args.times)) (sym w.self-inside-is) (
            subst (λ (ps : List (ℕ × ℕ)). total (λ _. 1) ps ≤ c.self.inside.count + c.args.times) (sym w.in_ok-add-in-Cell.ensures.ok) (few_more _ _ _ _ c.self.invariant.0),
            omega (arith, c.self.invariant.1),
          )
      | in-Text+in_ok-add-in-Text w ↦
          subst (λ s. (total (λ _. 1) s.placed ≤ s.count + c.args.times) × (total (λ _. 1) s.written ≤ s.count + c.args.times)) (sym w.self-inside-is) (
            omega (arith, c.self.invariant.0),
            subst (λ (ps : List (ℕ × ℕ)). total (λ _. 1) ps ≤ c.self.inside.count + c.args.times) (sym w.in_ok-add-in-Text.ensures.ok) (few_more _ _ _ _ c.self.invariant.1),
          )
    ]
