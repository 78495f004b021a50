use Rattle.std.proofs.Common.{length, ap, ◌∙◌}
use Rattle.oas_elements.specs.Same.{normal}
use Rattle.oas_elements.specs.Contents.{Contents}
use Rattle.oas_layout.proofs.DraftLemmas.{length-with_more}
use Rattle.oas_layout.proofs.draft.Draft.add_many.Goals as goal

pub returns-clause-cells : goal.returns-clause-cells
returns-clause-cells c =
    ap (λ (v : Contents). length v.cells) c.in_default.ensures.ok ∙ length-with_more c.args.self.now.cells c.args.cell (normal c.args.self.now.profile c.args.element) c.args.times
