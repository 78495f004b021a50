use Rattle.oas_form.proofs.FileLengths as law
use Rattle.oas_form.proofs.spelling_laws.canonical_length.Goals as goal

pub returns : goal.returns
returns c = law.canonical_length
