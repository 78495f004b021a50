use Rattle.std.proofs.Common.{◌≡◌, [], ◌∙◌, sym, arith, subst}
use Rattle.std.specs.List.{All}
use Rattle.std.proofs.lemmas.List.Elements.{All-more}
use Rattle.std.proofs.lemmas.List.{take_all}
use Rattle.oas_runs.specs.Entries.{Entry}
use Rattle.std.specs.Prelude.{List}
use Rattle.oas_run_store.proofs.joining.are_over.Goals as goal

pub loop-run-preserved : goal.loop-run-preserved
loop-run-preserved c =
    All-more (λ (run : List Entry). run ≡ []) c.args.runs.now c.loop-run.run-index c.run-item.result (omega (arith, c.loop-run-test.true)) c.loop-run.invariant
    (sym c.run-item.is ∙ c.is_empty.ensures.over c.if-not-is_empty.false)

pub returns : goal.returns
returns c = λ _. subst (λ (runs : List (List Entry)). All (λ (run : List Entry). run ≡ []) runs) (take_all c.loop-run.run-index c.args.runs.now (omega (arith, c.loop-run-test.false))) c.loop-run.invariant
