use Rattle.std.proofs.Common.{◌≡◌, length, drop}
use Rattle.oas_cells.specs.Short.{drawn_once}
use Rattle.oas_cells.proofs.SortLemmas.{Spreading}
use Rattle.oas_cells.proofs.spreading.spread_chunk.Given as goal

abbrev pub invariant-loop-short : goal.invariant-loop-short
invariant-loop-short l = record {
  sums : Spreading l.initial.parts l.parts (drawn_once l.shorts) (drawn_once (drop l.short-index l.shorts));
  len : length l.parts ≡ length l.initial.parts;
}
