use Rattle.oas_info.proofs.NameLemmas.{inserted}
use Rattle.oas_info.proofs.names.add_name.Goals as goal

pub returns : goal.returns
returns c = inserted c.args.names.now.keys c.insert.new.self.keys c.args.name.now (rw c.in_ok-of.ensures at c.in_ok-insert.ensures.updates.0)
