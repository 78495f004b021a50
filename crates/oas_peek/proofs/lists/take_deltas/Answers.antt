use Rattle.std.proofs.Common.{arith}
use Rattle.std.proofs.lemmas.Bool.{ne_eqb}
use Rattle.oas_peek.proofs.ListLemmas.{if_some, turns_x, turns_y, steps_2, steps_3, steps_g}
use Rattle.oas_peek.proofs.lists.take_deltas.Goals as goal

pub returns-in-0 : goal.returns-in-0
returns-in-0 c = if_some (λ steps taken. turns_x c.args.kind c.args.count c.in-0.is taken) _ c.take_turns.ensures

pub returns-in-1 : goal.returns-in-1
returns-in-1 c = if_some (λ steps taken. turns_y c.args.kind c.args.count c.in-1.is taken) _ c.take_turns-in-1.ensures

pub returns-in-2 : goal.returns-in-2
returns-in-2 c = if_some (λ steps taken. steps_2 c.args.kind c.args.count c.in-2.is taken) _ c.take_steps.ensures

pub returns-in-3 : goal.returns-in-3
returns-in-3 c = if_some (λ steps taken. steps_3 c.args.kind c.args.count c.in-3.is taken) _ c.take_steps-in-3.ensures

pub returns-in_default : goal.returns-in_default
returns-in_default c =
    if_some (λ steps taken. steps_g c.args.kind c.args.count (ne_eqb c.args.kind 0 (omega arith)) (ne_eqb c.args.kind 1 (omega arith)) (ne_eqb c.args.kind 2 (omega arith)) (ne_eqb c.args.kind 3 (omega arith)) taken) _
    c.take_steps-in_default.ensures
