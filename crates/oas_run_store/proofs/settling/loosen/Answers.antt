use Rattle.std.proofs.Common.{◌∙◌, refl}
use Rattle.std.specs.Cmp.Lexicographic.{slice_cmp}
use Rattle.std.specs.Ordering.{nat_cmp}
use Rattle.oas_run_store.proofs.LooseLemmas.{block_run, risen_same, risen_parts}
use Rattle.oas_run_store.proofs.settling.loosen.Goals as goal

pub returns-in-Ok-clause-parts : goal.returns-in-Ok-clause-parts
returns-in-Ok-clause-parts c =
    risen_parts (slice_cmp nat_cmp) c.args.rising.now c.close-run.new.self c.args.loose.now c.add_block.new.loose c.in-Ok.block c.args.runs.now.items
    c.reserve.new.self.items c.add_block.new.runs.items c.requires (c.in-Ok.ensures.ok ∙ c.close-run.ensures.run) c.close-run.ensures.emptied
    c.in_ok-reserve.ensures.items c.add_block.ensures.waits c.add_block.ensures.runs c.add_block.ensures.same

pub returns-in-Err-clause-parts : goal.returns-in-Err-clause-parts
returns-in-Err-clause-parts c =
    risen_parts (slice_cmp nat_cmp) c.args.rising.now c.close-run.new.self c.args.loose.now c.args.loose.now c.in-Err.whole c.args.runs.now.items
    c.reserve.new.self.items c.add_run.new.runs.items c.requires (c.in-Err.ensures.err ∙ c.close-run.ensures.run) c.close-run.ensures.emptied
    c.in_ok-reserve.ensures.items c.requires.waits c.add_run.ensures.runs
    (block_run c.args.loose.now c.args.loose.now c.in-Err.whole c.in-Err.whole c.reserve.new.self.items c.add_run.new.runs.items refl refl c.add_run.ensures.same)

pub returns-in-Err-clause-same : goal.returns-in-Err-clause-same
returns-in-Err-clause-same c =
    risen_same c.args.rising.now c.close-run.new.self c.args.loose.now c.args.loose.now c.in-Err.whole c.args.runs.now.items
    c.reserve.new.self.items c.add_run.new.runs.items (c.in-Err.ensures.err ∙ c.close-run.ensures.run) c.close-run.ensures.emptied c.in_ok-reserve.ensures.items
    (block_run c.args.loose.now c.args.loose.now c.in-Err.whole c.in-Err.whole c.reserve.new.self.items c.add_run.new.runs.items refl refl c.add_run.ensures.same)
