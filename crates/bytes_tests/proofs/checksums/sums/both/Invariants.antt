use Rattle.bytes_tests.proofs.checksums.sums.both.Given as goal

-- the source as it is passed
abbrev pub ghosts-sums_of : goal.ghosts-sums_of
ghosts-sums_of a = record { script = a.source.now; name = a.source.ghost_name }
