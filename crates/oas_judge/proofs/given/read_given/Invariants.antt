use Rattle.oas_judge.proofs.given.read_given.Given as goal

-- the source as it is passed
abbrev pub ghosts-read_given_named : goal.ghosts-read_given_named
ghosts-read_given_named g a = record { script = g.S.Source.script a.source.now; name = a.source.ghost_name }
