use Rattle.std.proofs.Common.{◌≡◌, length}
use Rattle.oas_num.specs.Grammar.{IsImage}
use Rattle.oas_num.proofs.GrammarLemmas.{Listed}
use Rattle.oas_shape.proofs.steps.read_steps.Given as goal

abbrev pub invariant-loop : goal.invariant-loop
invariant-loop g l = record {
  listed : Listed (IsImage g.D.Step.step_of g.D.Spelled.spells) (g.S.Source.script l.fn.source) (g.S.Source.script l.source) l.steps.items;
  len : length l.steps.items ≡ l.counter;
}
