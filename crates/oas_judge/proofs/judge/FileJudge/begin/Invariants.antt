use Rattle.oas_judge.proofs.judge.FileJudge.begin.Given as goal

-- the source as it is passed
abbrev pub ghosts-begin_named : goal.ghosts-begin_named
ghosts-begin_named g a = record { script = g.S.Source.script a.source.now; name = a.source.ghost_name }
