use Rattle.oas_runs.proofs.EntryLemmas.{passes}
use Rattle.oas_runs.proofs.block.Block.pass.Goals as goal

pub invariant_of-self : goal.invariant_of-self
invariant_of-self c =
    let taken = passes c.self.inside.start c.args.end c.self.inside.bytes.items c.args.self.now c.self.invariant.0 c.self.invariant.1 c.self.view_is c.requires in
    (taken.within, taken.block)

pub returns : goal.returns
returns c = (passes c.self.inside.start c.args.end c.self.inside.bytes.items c.args.self.now c.self.invariant.0 c.self.invariant.1 c.self.view_is c.requires).some
