use Rattle.oas_long_integers.specs.AnyLength.{first_of}
use Rattle.oas_long_integers.proofs.records.read_after.Given as goal

-- the source as it is passed, and where the first byte is
abbrev pub ghosts-read_named : goal.ghosts-read_named
ghosts-read_named g a = record { script = g.S.Source.script a.source.now; name = a.source.ghost_name; first = first_of a.id }
