use Rattle.oas_cells.proofs.PlaceLemmas.{Placing}
use Rattle.oas_cells.proofs.placing.place_counted.Given as goal

abbrev pub invariant-loop-drawn : goal.invariant-loop-drawn
invariant-loop-drawn l = Placing l.profile l.names.named l.strings.named l.initial.kept l.kept l.fn.waiting.entries l.drawn-iterator
