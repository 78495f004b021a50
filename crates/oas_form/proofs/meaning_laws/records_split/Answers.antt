use Rattle.oas_form.proofs.MeantLemmas as lemma
use Rattle.oas_form.proofs.meaning_laws.records_split.Goals as goal

pub returns : goal.returns
returns c = lemma.records_split
