use Rattle.std.proofs.Common.{rules}
use Rattle.oas_long_integers.proofs.SourceLemmas.{stands_first}
use Rattle.oas_long_integers.proofs.sources.ShortenedSource.new.Goals as goal

pub invariant_of-result : goal.invariant_of-result
invariant_of-result g c = record { shortened = stands_first c.requires.named c.requires.starts c.requires.first }

pub returns-clause-place : goal.returns-clause-place
returns-clause-place g c = search rules
