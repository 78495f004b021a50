-- one more record, in the definitions
use Rattle.std.proofs.Common.{◌≡◌, List, [], ◌∷◌, ◌++◌, reverse, ap, ◌∙◌}
use Rattle.std.proofs.lemmas.List.{reverse-append}
use Rattle.oas_record.specs.declared.records.Record.{Record}
use Rattle.oas_drawing.proofs.Steps.{modal_step}
use Rattle.oas_reader.specs.Standing.{took_with, took}
use Rattle.oas_reader.specs.Stands.{seen}

pub seen_step : (before : List Record) (r : Record) → seen (r ∷ before) ≡ took (seen before) r
seen_step before r = ap (took_with (seen before) r) (modal_step before r)

pub seen_last : (rs : List Record) (r : Record) → seen (reverse (rs ++ r ∷ [])) ≡ took (seen (reverse rs)) r
seen_last rs r = ap seen (reverse-append rs (r ∷ [])) ∙ seen_step (reverse rs) r
