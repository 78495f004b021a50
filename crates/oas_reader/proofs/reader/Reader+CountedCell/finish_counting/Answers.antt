use Rattle.std.proofs.Common.{refl}
use Rattle.oas_reader.proofs.AcceptLemmas.{counting_accepted, counting_refused}
use Rattle.oas_reader.proofs.reader.Reader+CountedCell.finish_counting.Goals as goal

pub returns-in-Ok-clause-accepted : goal.returns-in-Ok-clause-accepted
returns-in-Ok-clause-accepted c = λ rs h. counting_accepted c.self.inside.failed c.self.inside.parts c.args.self rs c.self.view_is h c.in-Ok.ensures.ok

pub returns-in-Err-clause-refused : goal.returns-in-Err-clause-refused
returns-in-Err-clause-refused c = λ rs h. (refl, counting_refused c.self.inside.failed c.self.inside.parts c.args.self rs c.self.view_is h c.in-Err.why c.in-Err.ensures.err)
