use Rattle.oas_file.specs.Laws.FileLaws as law
use Rattle.oas_file.proofs.laws.one_meaning.Goals as goal

pub returns : goal.returns
returns c = law.means_one
