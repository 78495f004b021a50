use Rattle.std.proofs.Common.{◌≡◌}
use Rattle.oas_diff_text.proofs.entries.put_cell_object.Goals as goal

pub returns : goal.returns
returns g c =
    let name : c.as_bytes.result.now ≡ c.args.name.now = c.as_bytes.ensures.bytes in
    rw (← name) c.put_object.ensures
