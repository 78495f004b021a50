use Rattle.std.proofs.Common.{◌∙◌, ap, arith, List, ℕ, ◌+◌, slice_set}
use Rattle.std.specs.Ordering.{nat_cmp}
use Rattle.oas_elements.specs.Bag.{put_more}
use Rattle.oas_elements.specs.Laws.BagLaws.{total}
use Rattle.oas_reader.specs.Used.{with_table}
use Rattle.oas_reader.proofs.UsedTables.{tabled_few, table_more}
use Rattle.oas_reader.proofs.used.Counts.add.Goals as goal

pub overflow_add-had : goal.overflow_add-had
overflow_add-had c =
    omega (
      arith,
      c.in-Some.ensures.value,
      tabled_few 0 c.self.inside.table.items c.self.inside.others.entries c.args.number c.in-Some.had.now c.in-Some.ensures.item.3.0,
      ap (total (λ _. 1)) c.self.view_is,
      c.requires.few,
    )

pub returns-in-Some-clause-ok : goal.returns-in-Some-clause-ok
returns-in-Some-clause-ok c =
    ap (λ (t : ℕ). with_table 0 (slice_set c.self.inside.table.items c.args.number (t + c.args.times)) c.self.inside.others.entries) c.in-Some.ensures.value
    ∙ table_more c.self.inside.table.items c.self.inside.others.entries c.args.number c.args.times c.in-Some.had.now c.in-Some.ensures.item.3.0 c.requires.some
    ∙ ap (λ (ps : List (ℕ × ℕ)). put_more nat_cmp ps c.args.number c.args.times) c.self.view_is
