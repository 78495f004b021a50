use Rattle.oas_info.proofs.NameLemmas.{ElementsLeft}
use Rattle.oas_info.proofs.names.add_placed.Given as goal

abbrev pub invariant-loop-element : goal.invariant-loop-element
invariant-loop-element l = ElementsLeft l.fn.elements l.element-iterator l.fn.names.keys l.names.keys l.before
