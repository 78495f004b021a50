use Rattle.oas_num.proofs.PuttingLemmas.{first, ends}
use Rattle.oas_preparing.proofs.sameness.put_reports.Goals as goal

pub returns : goal.returns
returns g c = ends _ _ (first _ c.in_ok-put_report.ensures.puts) c.put_report-2.ensures.puts
