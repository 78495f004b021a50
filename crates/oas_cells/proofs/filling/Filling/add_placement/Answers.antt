use Rattle.std.proofs.Common.{ap, arith}
use Rattle.std.specs.BTreeMap.{is_at}
use Rattle.std.specs.Ordering.{nat_cmp}
use Rattle.std.specs.Cmp.Lexicographic.{slice_cmp}
use Rattle.oas_elements.specs.Laws.BagLaws.{total}
use Rattle.oas_cells.proofs.DrawLemmas.{one_few}
use Rattle.oas_cells.proofs.filling.Filling.add_placement.Goals as goal

pub add-requires-clause-room : goal.add-requires-clause-room
add-requires-clause-room c =
    omega (arith, one_few (is_at (slice_cmp nat_cmp c.deref.result.now)) c.self.inside.keys, ap (total (λ _. 1)) c.self.view_is, c.requires.room)
