use Rattle.oas_block.proofs.blocks.read_block.Given as goal

-- the source as it is passed, and how many bytes the block has
abbrev pub ghosts-read_named : goal.ghosts-read_named
ghosts-read_named g a = record { script = g.S.Source.script a.source.now; name = a.source.ghost_name; count = a.head.deflated }
