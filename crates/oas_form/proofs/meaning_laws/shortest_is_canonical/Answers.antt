use Rattle.oas_form.proofs.ShortestLemmas as lemma
use Rattle.oas_form.proofs.meaning_laws.shortest_is_canonical.Goals as goal

pub returns-clause-records : goal.returns-clause-records
returns-clause-records c = lemma.shortest_is_canonical

pub returns-clause-points : goal.returns-clause-points
returns-clause-points c = lemma.shortest_has_points

pub returns-clause-head : goal.returns-clause-head
returns-clause-head c = lemma.shortest_head
