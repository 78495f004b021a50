use Rattle.oas_form.proofs.AllowedLemmas as lemma
use Rattle.oas_form.proofs.meaning_laws.canonical_is_accepted.Goals as goal

pub returns-clause-allowed : goal.returns-clause-allowed
returns-clause-allowed c = lemma.canonical_allowed

pub returns-clause-whole : goal.returns-clause-whole
returns-clause-whole c = lemma.canonical_whole

pub returns-clause-ascending : goal.returns-clause-ascending
returns-clause-ascending c = lemma.ascending_whole
