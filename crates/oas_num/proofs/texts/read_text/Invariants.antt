use Rattle.std.proofs.Common.{◌≡◌, length}
use Rattle.oas_num.specs.Grammar.{IsSuch, IsByte}
use Rattle.oas_num.specs.Texts.{IsIn}
use Rattle.oas_num.proofs.GrammarLemmas.{Listed}
use Rattle.oas_num.proofs.texts.read_text.Given as goal

abbrev pub invariant-loop : goal.invariant-loop
invariant-loop g l = record {
  listed : Listed (IsSuch (IsIn l.class) IsByte) (g.S.Source.script l.fn.source) (g.S.Source.script l.source) l.text.items;
  len : length l.text.items ≡ l.counter;
}
