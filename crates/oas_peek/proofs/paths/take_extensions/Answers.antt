use Rattle.std.proofs.Common.{arith}
use Rattle.std.specs.Prelude.{◌==◌}
use Rattle.oas_peek.proofs.PathLemmas.{all_numbers, extensions_take}
use Rattle.oas_peek.proofs.paths.take_extensions.Goals as goal

pub returns : goal.returns
returns c =
    let scheme = c.in_ok-scheme.scheme in
    rw (c.of.ensures, c.of-2.ensures) (extensions_take scheme (scheme == 15) (omega arith) (all_numbers scheme) c.in_ok-scheme.ensures
    (rw c.note.ensures at c.in_ok-start.ensures) c.in_ok-end.ensures)
