use Rattle.oas_preparing.proofs.judged.read_judged_from.Given as goal

-- what was taken, and the source before that
abbrev pub ghosts-read_again : goal.ghosts-read_again
ghosts-read_again g a = record { script = g.B.Start.script; kept = a.taken.now; name = a.from.ghost_name }
