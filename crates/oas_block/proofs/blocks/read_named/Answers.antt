use Rattle.std.proofs.Common.{arith}
use Rattle.oas_block.proofs.BlockLemmas.{finished, cut}
use Rattle.oas_block.proofs.blocks.read_named.Goals.{in-Ok, in-Err}
use Rattle.oas_block.proofs.blocks.read_named.Goals as goal

pub returns-clause-reads : goal.returns-clause-reads
returns-clause-reads g c =
    let front = rw (← c.requires.starts, ← c.requires.count) at c.into_source-front.result.front in
    elim c.match-outcome.branch [
      | in-Ok w ↦
          let now = rw (← c.requires.starts, ← c.requires.count) at w.finish-read.new.front.front in
          rw (w.read-is, w.front-is) (finished c.args.head c.new-bits.result c.inflate-outcome.new.source _ c.requires.kind c.new-bits.ensures.script
          c.new-bits.ensures.pending c.into_source-front.ensures front now w.in-Ok.ensures.gives (λ block. block.«data».items) (λ block. block.end) c.args.limit _ _
          (omega (arith, w.in-Ok.ensures.within, c.stop_at.ensures)) (omega (arith, w.in-Ok.ensures.within, c.stop_at.ensures)) c.left-idle.ensures
          w.finish-read.ensures)
      | in-Err w ↦
          rw (w.read-is, w.front-is) (cut c.args.head c.new-bits.result c.inflate-outcome.new.source c.requires.kind c.new-bits.ensures.script
          c.new-bits.ensures.pending c.into_source-front.ensures front (λ block. block.«data».items) (λ block. block.end) c.args.limit _ _ _ _ c.stop_at.ensures w.cut_off-read.ensures w.in-Err.ensures.gives)
    ]
