use Rattle.std.proofs.Common.{◌≡◌}
use Rattle.oas_num.proofs.PuttingLemmas.{first, ends}
use Rattle.oas_command.proofs.unopened.put_unopened.Goals as goal

pub returns : goal.returns
returns g c =
    let e : c.as_bytes.result.now ≡ c.args.name.now = c.as_bytes.ensures.value in
    rw (← e) (ends _ _ (first _ c.in_ok-put_all.ensures) c.put_all-2.ensures)
