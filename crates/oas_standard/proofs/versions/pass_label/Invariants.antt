use Rattle.oas_num.specs.Grammar.{IsSuch, IsByte}
use Rattle.oas_num.specs.Texts.{IsLabelByte}
use Rattle.oas_record.proofs.PassLemmas.{Passed}
use Rattle.oas_standard.proofs.versions.pass_label.Given as goal

abbrev pub invariant-loop : goal.invariant-loop
invariant-loop g l = Passed (IsSuch IsLabelByte IsByte) (g.S.Source.script l.fn.source) (g.S.Source.script l.source) l.counter
