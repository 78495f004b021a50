use Rattle.oas_bytes.proofs.ScriptLemmas.{Consumed-nothing}
use Rattle.oas_long_integers.proofs.sources.ShortenedSourceSource.skip.Goals as goal

pub returns : goal.returns
returns g c = Consumed-nothing _ _ c.requires
