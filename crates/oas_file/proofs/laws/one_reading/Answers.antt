use Rattle.oas_file.specs.Laws.FileLaws as law
use Rattle.oas_file.proofs.laws.one_reading.Goals as goal

pub returns : goal.returns
returns c = law.one_reading
