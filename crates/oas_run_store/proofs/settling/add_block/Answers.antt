use Rattle.oas_run_store.proofs.LooseLemmas.{block_added, block_run}
use Rattle.oas_run_store.proofs.settling.add_block.Goals as goal

pub returns-in-Ok-clause-same : goal.returns-in-Ok-clause-same
returns-in-Ok-clause-same c = block_added c.args.loose.now c.append_all.new.self c.args.block c.args.runs.now.items c.in-Ok.ensures.ok

pub returns-in-Err-clause-same : goal.returns-in-Err-clause-same
returns-in-Err-clause-same c = block_run c.args.loose.now c.append_all.new.self c.args.block c.of_block.result c.args.runs.now.items c.add_run.new.runs.items
    c.in-Err.ensures.err c.of_block.ensures c.add_run.ensures.same
