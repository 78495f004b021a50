use Rattle.std.proofs.Common.{◌≡◌, ◌∙◌, decimal}
use Rattle.std.specs.Prelude.{◌/◌}
use Rattle.oas_num.proofs.PuttingLemmas.{begins, ends, ◌▸◌}
use Rattle.oas_diff_text.proofs.MicronLemmas.{quotient_of}
use Rattle.oas_diff_text.proofs.EntryLemmas.{left_is}
use Rattle.oas_diff_text.proofs.microns.put_quotient.Goals as goal

pub returns : goal.returns
returns g c =
    let t : c.as_bytes.result.now ≡ decimal (c.args.num / c.from.result) = c.as_bytes.ensures.value ∙ c.format.ensures.text in
    ends _ _ (left_is (begins _ _) (quotient_of c.args.num c.args.den c.from.result c.from-2.result c.from.ensures c.from-2.ensures) ▸ (rw t at c.in_ok-put_all.ensures)) c.put_pointed.ensures
