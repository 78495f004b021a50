use Rattle.std.proofs.Common.{◌≡◌, ◌∙◌, Some, rules}
use Rattle.oas_cells.specs.Weighing.{cell_weight}
use Rattle.oas_cells.proofs.WeighLemmas.{cell_known}
use Rattle.oas_cells.proofs.cells.CompactCellWeighed.weight_with.Goals as goal

pub returns-in_err-head : goal.returns-in_err-head
returns-in_err-head g c =
    let known : c.from_residual.result ≡ cell_weight c.args.names.now.named c.args.strings.now.named c.args.self.now = search rules in
    λ ds h. known ∙ cell_known c.args.names.now.named c.args.strings.now.named g.P.KeptBy.profile c.args.self.now ds c.requires h

pub returns-in_err-waiting : goal.returns-in_err-waiting
returns-in_err-waiting g c =
    let known : c.from_residual-in_err-waiting.result ≡ cell_weight c.args.names.now.named c.args.strings.now.named c.args.self.now = search rules in
    λ ds h. known ∙ cell_known c.args.names.now.named c.args.strings.now.named g.P.KeptBy.profile c.args.self.now ds c.requires h

pub returns : goal.returns
returns g c =
    let known : Some c.saturating_add-2.result ≡ cell_weight c.args.names.now.named c.args.strings.now.named c.args.self.now = search rules in
    λ ds h. known ∙ cell_known c.args.names.now.named c.args.strings.now.named g.P.KeptBy.profile c.args.self.now ds c.requires h
