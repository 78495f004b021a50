use Rattle.oas_judge.proofs.parts.read_part.Given as goal

-- the source as it is passed
abbrev pub ghosts-read_part_named : goal.ghosts-read_part_named
ghosts-read_part_named g a = record { script = g.S.Source.script a.source.now; name = a.source.ghost_name }
