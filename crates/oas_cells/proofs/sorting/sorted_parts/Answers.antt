use Rattle.std.proofs.Common.{rules, ◌≡◌, ℕ, List, ◌∷◌, ◌++◌, subst}
use Rattle.std.specs.Vec.Iter.{into_iter_items}
use Rattle.oas_runs.specs.Blocks.{joined}
use Rattle.oas_cells.specs.Compact.{SameWaiting}
use Rattle.oas_reader.specs.Drawn.{Drawn}
use Rattle.oas_cells.proofs.SortLemmas.{part_sorted, part_once}
use Rattle.oas_cells.proofs.sorting.sorted_parts.Goals as goal

pub loop-part-preserved : goal.loop-part-preserved
loop-part-preserved c =
    let rest : into_iter_items c.loop-part.part-iterator ≡ c.in-Some.part ∷ into_iter_items c.next.new.self = search rules in
    record {
      same = part_sorted c.loop-part.row.items c.push.new.self.items (into_iter_items c.next.new.self) c.in-Some.part c.in_ok-sorted_chunk.field-0 (joined c.args.parts.items)
          c.in_ok-sorted_chunk.ensures.same c.in_ok-push.ensures.items
          (subst (λ (cs : List (List (Drawn × ℕ))). SameWaiting (joined c.loop-part.row.items ++ joined cs) (joined c.args.parts.items)) rest c.loop-part.invariant.same);
      once = part_once c.loop-part.row.items c.push.new.self.items c.in_ok-sorted_chunk.field-0 c.in_ok-push.ensures.items c.loop-part.invariant.once c.in_ok-sorted_chunk.ensures.once;
    }
