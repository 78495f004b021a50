use Rattle.oas_judge.proofs.given.read_given_named.Given as goal

-- what was kept, and the source before that
abbrev pub ghosts-read_joined : goal.ghosts-read_joined
ghosts-read_joined g a = record { script = g.K.Start.script; kept = a.kept.now; name = g.K.Start.name }
