use Rattle.std.proofs.Common.{◌≡◌, ap, sym, subst, ◌∙◌, rules}
use Rattle.std.specs.Cmp.Lexicographic.{bytes_decides}
use Rattle.std.proofs.lemmas.Slice.Eq.{slice_eq-Decides}
use Rattle.oas_elements.specs.Contents.{Contents, IsLayout}
use Rattle.oas_runs.specs.Comparing.{same_entries_decide}
use Rattle.oas_layout.specs.Keyed.{keyed_cells}
use Rattle.oas_layout.specs.Laws.HeldLaws.{cells_keys}
use Rattle.oas_layout.proofs.SamenessLemmas.{pairs_decide, runs_decide}
use Rattle.oas_layout.proofs.layout.Layout.same.Goals as goal

pub returns : goal.returns
returns c alike =
    let unit : c.self.inside.unit ≡ c.other.inside.unit = search rules in
    let units : c.args.self.now.unit ≡ c.args.other.now.unit = sym (ap (λ (v : Contents). v.unit) c.self.view_is) ∙ unit ∙ ap (λ (v : Contents). v.unit) c.other.view_is in
    runs_decide c.args.self.now c.args.other.now (subst IsLayout c.self.view_is c.self.invariant) (subst IsLayout c.other.view_is c.other.invariant) alike
    c.self.inside.cells.items c.other.inside.cells.items c.eq.result
    (cells_keys c.self.inside.held ∙ ap (λ (v : Contents). keyed_cells v.cells) c.self.view_is) (cells_keys c.other.inside.held ∙ ap (λ (v : Contents). keyed_cells v.cells) c.other.view_is)
    units (slice_eq-Decides (pairs_decide bytes_decides same_entries_decide) c.self.inside.cells.items c.other.inside.cells.items c.eq.result c.eq.ensures)
