use Rattle.std.proofs.Common.{rules, ◌≡◌, ℕ, List, ◌∷◌, ◌∙◌, ap, subst}
use Rattle.std.specs.Vec.Iter.{into_iter_items}
use Rattle.oas_runs.specs.Blocks.{joined}
use Rattle.oas_reader.specs.Drawn.{Drawn}
use Rattle.oas_cells.specs.Short.{drawn_once}
use Rattle.oas_cells.specs.Spreading.{Gain}
use Rattle.oas_cells.proofs.SortLemmas.{Spreading, spread_more}
use Rattle.oas_cells.proofs.spreading.spread_row.Goals as goal

pub loop-chunk-preserved : goal.loop-chunk-preserved
loop-chunk-preserved c =
    let rest : into_iter_items c.loop-chunk.chunk-iterator ≡ c.in-Some.chunk ∷ into_iter_items c.next.new.self = search rules in
    record {
      sums = spread_more c.args.parts.now c.loop-chunk.parts c.spread_chunk.new.parts (joined c.args.row.items) c.in-Some.chunk (joined (into_iter_items c.next.new.self))
          (subst (λ (ps : List (Drawn × ℕ)). Gain c.loop-chunk.parts ps c.spread_chunk.new.parts) (ap drawn_once c.deref.ensures.value ∙ c.chunk.view_is) c.in_ok-spread_chunk.ensures.more)
          (subst (λ (cs : List (List (Drawn × ℕ))). Spreading c.args.parts.now c.loop-chunk.parts (joined c.args.row.items) (joined cs)) rest c.loop-chunk.invariant.sums);
      len = c.in_ok-spread_chunk.ensures.len ∙ c.loop-chunk.invariant.len;
    }
