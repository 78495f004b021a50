use Rattle.std.specs.Prelude.{◌==◌}
use Rattle.oas_peek.proofs.NamedLemmas.{lacks}
use Rattle.oas_peek.proofs.PathLemmas.{all_given, path_takes}
use Rattle.oas_peek.proofs.paths.take_path.Goals as goal

pub returns : goal.returns
returns c =
    let info = c.in_ok-info.info in
    rw c.note.ensures (path_takes info (info == 251) c.in_ok-info.ensures (lacks info 4 c.if-info-ne0.false)
    c.in_ok-layer.ensures c.in_ok-half_width.ensures c.in_ok-extensions.ensures c.in_ok-points.ensures c.in_ok-x.ensures c.in_ok-y.ensures (all_given info))
