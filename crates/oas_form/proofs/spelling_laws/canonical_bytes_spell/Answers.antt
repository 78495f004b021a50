use Rattle.oas_form.proofs.Spelling as law
use Rattle.oas_form.proofs.spelling_laws.canonical_bytes_spell.Goals as goal

pub returns : goal.returns
returns c = law.canonical_spelled
