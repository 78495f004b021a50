use Rattle.std.proofs.Common.{List, sym, subst}
use Rattle.std.specs.List.{AllByRecursion}
use Rattle.oas_elements.specs.Bag.{IsTally}
use Rattle.oas_elements.specs.Contents.{Cell}
use Rattle.oas_difference.specs.Held.{cells_chosen}
use Rattle.oas_difference.proofs.Chosen.{begin_in_hand, chosen_tallies}
use Rattle.oas_difference.proofs.cells.ChosenCells.new.Goals as goal

pub invariant_of-result : goal.invariant_of-result
invariant_of-result c =
    begin_in_hand (cells_chosen c.args.choice c.cells-rest.result) _ _ c.first_chosen-first.ensures
    (subst (λ (cs : List Cell). AllByRecursion (λ d. IsTally d.1) (cells_chosen c.args.choice cs)) (sym c.cells-rest.ensures.cells)
    (chosen_tallies c.args.choice c.args.layout.now c.cells-rest.ensures.layout))
