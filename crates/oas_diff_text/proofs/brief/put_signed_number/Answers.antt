use Rattle.oas_num.proofs.PuttingLemmas.{first, ends}
use Rattle.oas_diff_text.proofs.brief.put_signed_number.Goals as goal

pub returns : goal.returns
returns g c = ends _ _ (first _ c.in_ok-put_all.ensures) c.put_number.ensures
