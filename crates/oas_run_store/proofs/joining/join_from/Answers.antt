use Rattle.std.proofs.Common.{◌∙◌, ap}
use Rattle.std.specs.Cmp.Lexicographic.{slice_cmp}
use Rattle.std.specs.Ordering.{nat_cmp}
use Rattle.oas_runs.specs.Blocks.{joined}
use Rattle.oas_runs.specs.Runs.{total, SameTotals}
use Rattle.oas_run_store.proofs.PartLemmas.{IsRun-empty}
use Rattle.oas_run_store.proofs.JoinLemmas.{cut_same, closed_same}
use Rattle.oas_run_store.proofs.joining.join_from.Goals as goal
use Rattle.oas_run_store.proofs.joining.join_from.Goals.{then-is_done, else-is_done}

pub move_all-is_done-requires-clause-to : goal.move_all-is_done-requires-clause-to
move_all-is_done-requires-clause-to c = IsRun-empty (slice_cmp nat_cmp) c.in-Ok.whole c.in-Ok.ensures

pub returns-clause-same : goal.returns-clause-same
returns-clause-same c =
    let lefts = c.move_all-is_done.new.runs.items in
    let kept : SameTotals (joined c.if-is_done.runs.items) (joined lefts) =
    elim c.if-is_done.branch [
      | then-is_done w ↦ λ g.
          ap (λ v. total g (joined v.items)) w.runs-is ∙ ap (λ rs. total g (joined rs)) w.truncate.ensures.items
          ∙ cut_same lefts c.args.from (c.move_all-is_done.ensures.over w.if-is_done.true) g
      | else-is_done w ↦ λ g. ap (λ v. total g (joined v.items)) w.runs-is
    ] in
    closed_same c.args.runs.now.items c.reserve.new.self.items lefts c.if-is_done.runs.items c.push_reserved.new.self.items c.in-Ok.whole c.move_all-is_done.new.to
    c.close.result c.reserve.ensures.items c.in-Ok.ensures c.move_all-is_done.ensures.same kept c.close.ensures.run c.push_reserved.ensures.items
