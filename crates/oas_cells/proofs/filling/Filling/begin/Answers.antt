use Rattle.std.proofs.Common.{arith}
use Rattle.std.specs.BTreeMap.{is_at}
use Rattle.std.specs.Ordering.{nat_cmp}
use Rattle.std.specs.Cmp.Lexicographic.{slice_cmp}
use Rattle.oas_cells.proofs.DrawLemmas.{one_few}
use Rattle.oas_cells.proofs.filling.Filling.begin.Goals as goal

pub of_block-requires-clause-fits : goal.of_block-requires-clause-fits
of_block-requires-clause-fits c = λ k. omega (arith, one_few (is_at (slice_cmp nat_cmp k)) c.args.block, c.requires.room)
