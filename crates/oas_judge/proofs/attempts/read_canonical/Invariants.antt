use Rattle.oas_judge.proofs.attempts.read_canonical.Given as goal

-- the source as it is passed
abbrev pub ghosts-read_canonical_named : goal.ghosts-read_canonical_named
ghosts-read_canonical_named g a = record { script = g.S.Source.script a.source.now; name = a.source.ghost_name }
