use Rattle.std.proofs.Common.{◌∙◌, Some, sym, ap}
use Rattle.oas_difference.proofs.Steps.{step_before, step_after, step_both}
use Rattle.oas_difference.proofs.changes.take_least.Goals as goal

pub returns-in_ok-element-in-Less-clause-changed : goal.returns-in_ok-element-in-Less-clause-changed
returns-in_ok-element-in-Less-clause-changed c =
    (step_before _ _ c.requires.before c.requires.after _ _ _ c.in_ok-element-in-Less.ensures (sym c.in_ok-first.ensures ∙ ap Some c.in-Less.is)).changed

pub returns-in_ok-element-in-Less-clause-before : goal.returns-in_ok-element-in-Less-clause-before
returns-in_ok-element-in-Less-clause-before c =
    (step_before _ _ c.requires.before c.requires.after _ _ _ c.in_ok-element-in-Less.ensures (sym c.in_ok-first.ensures ∙ ap Some c.in-Less.is)).before

pub returns-in_ok-count_after-in-Equal-clause-changed : goal.returns-in_ok-count_after-in-Equal-clause-changed
returns-in_ok-count_after-in-Equal-clause-changed c =
    (step_both _ _ c.requires.before c.requires.after _ _ _ _ _ _ c.in_ok-element-in-Equal.ensures c.in_ok-count_after-in-Equal.ensures (sym c.in_ok-first.ensures ∙ ap Some c.in-Equal.is)).changed

pub returns-in_ok-count_after-in-Equal-clause-before : goal.returns-in_ok-count_after-in-Equal-clause-before
returns-in_ok-count_after-in-Equal-clause-before c =
    (step_both _ _ c.requires.before c.requires.after _ _ _ _ _ _ c.in_ok-element-in-Equal.ensures c.in_ok-count_after-in-Equal.ensures (sym c.in_ok-first.ensures ∙ ap Some c.in-Equal.is)).before

pub returns-in_ok-count_after-in-Equal-clause-after : goal.returns-in_ok-count_after-in-Equal-clause-after
returns-in_ok-count_after-in-Equal-clause-after c =
    (step_both _ _ c.requires.before c.requires.after _ _ _ _ _ _ c.in_ok-element-in-Equal.ensures c.in_ok-count_after-in-Equal.ensures (sym c.in_ok-first.ensures ∙ ap Some c.in-Equal.is)).after

pub returns-in_ok-element-in-Greater-clause-changed : goal.returns-in_ok-element-in-Greater-clause-changed
returns-in_ok-element-in-Greater-clause-changed c =
    (step_after _ _ c.requires.before c.requires.after _ _ _ c.in_ok-element-in-Greater.ensures (sym c.in_ok-first.ensures ∙ ap Some c.in-Greater.is)).changed

pub returns-in_ok-element-in-Greater-clause-after : goal.returns-in_ok-element-in-Greater-clause-after
returns-in_ok-element-in-Greater-clause-after c =
    (step_after _ _ c.requires.before c.requires.after _ _ _ c.in_ok-element-in-Greater.ensures (sym c.in_ok-first.ensures ∙ ap Some c.in-Greater.is)).after
