use Rattle.oas_form.proofs.MeantLemmas as lemma
use Rattle.oas_form.proofs.meaning_laws.canonical_means.Goals as goal

pub returns : goal.returns
returns c = lemma.canonical_means
