use Rattle.std.proofs.Common.{◌≡◌, drop}
use Rattle.oas_explain.specs.declared.hearing.Place.TheVariants as place
use Rattle.oas_explain.proofs.HearingLemmas.{steps_all}
use Rattle.oas_explain.proofs.hearing.number_recognized.Given as goal

abbrev pub invariant-loop-byte : goal.invariant-loop-byte
invariant-loop-byte l = steps_all l.place (drop l.byte-index l.line) ≡ steps_all place.Elsewhere l.line
