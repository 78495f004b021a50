use Rattle.oas_prepare.proofs.preparing.read_kept.Given as goal

-- the source as it is passed
abbrev pub ghosts-read_named : goal.ghosts-read_named
ghosts-read_named g a = record { script = g.S.Source.script a.from.now; name = a.from.ghost_name }
