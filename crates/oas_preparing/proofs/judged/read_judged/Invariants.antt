use Rattle.oas_preparing.proofs.judged.read_judged.Given as goal

-- the source as it is passed
abbrev pub ghosts-read_judged_from : goal.ghosts-read_judged_from
ghosts-read_judged_from g a = record { script = g.S.Source.script a.from.now; name = a.from.ghost_name }
