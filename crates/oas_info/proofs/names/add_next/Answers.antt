use Rattle.std.specs.Cmp.Lexicographic.{same_text}
use Rattle.oas_info.proofs.NameLemmas.{known_before}
use Rattle.oas_info.proofs.names.add_next.Goals as goal

pub returns-then-eq : goal.returns-then-eq
returns-then-eq c =
    known_before c.args.names.now.keys c.args.name.now c.args.before.now (same_text c.args.name.now c.args.before.now c.if-eq.ensures) c.requires.name.some c.requires.before
