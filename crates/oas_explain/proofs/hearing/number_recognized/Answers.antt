use Rattle.oas_explain.proofs.HearingLemmas.{refusal_named, unopened_named, not_profile_1_named}
use Rattle.oas_explain.proofs.hearing.number_recognized.Goals as goal

pub returns-clause-refused : goal.returns-clause-refused
returns-clause-refused c = refusal_named c.args.line.now c.loop-byte.place c.loop-byte.byte-index _ c.number_named.ensures c.loop-byte-test.false c.loop-byte.invariant

pub returns-clause-unopened : goal.returns-clause-unopened
returns-clause-unopened c = unopened_named c.args.line.now c.loop-byte.place c.loop-byte.byte-index _ c.number_named.ensures c.loop-byte-test.false c.loop-byte.invariant

pub returns-clause-not_profile_1 : goal.returns-clause-not_profile_1
returns-clause-not_profile_1 c = not_profile_1_named c.args.line.now c.loop-byte.place c.loop-byte.byte-index _ c.number_named.ensures c.loop-byte-test.false c.loop-byte.invariant
