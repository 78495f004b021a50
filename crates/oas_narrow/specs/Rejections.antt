-- Where and why a file isn't prepared, from what its parts say.
use Rattle.oas_num.specs.declared.refusals.Refusal.{Refusal}
use Rattle.oas_block.specs.WideRefusal.{WideRefusal}
use Rattle.oas_block.specs.WideWhy.TheVariants.{Profile}
use Rattle.oas_narrow.specs.declared.places.Place.TheVariants.{File}
use Rattle.oas_narrow.specs.declared.places.Rejection.{Rejection}

-- in the file itself
abbrev pub rejected : WideRefusal → Rejection
rejected refusal = record { place = File refusal.at; why = refusal.why }

-- by the profile
abbrev pub refused : Refusal → Rejection
refused refusal = record { place = File refusal.at; why = Profile refusal.why }
