use Rattle.std.proofs.Common.{refl, ◌∙◌, ap, arith, List, ℕ}
use Rattle.std.specs.Ordering.{nat_cmp}
use Rattle.oas_elements.specs.Bag.{put_more}
use Rattle.oas_elements.specs.Laws.BagLaws.{total}
use Rattle.oas_reader.specs.Used.{with_table}
use Rattle.oas_reader.proofs.UsedLemmas.{used_few, put_inserted}
use Rattle.oas_reader.proofs.UsedTables.{table_total, table_other}
use Rattle.oas_reader.proofs.used.Counts.add_other.Goals as goal

pub count_up-requires : goal.count_up-requires
count_up-requires c =
    omega (
      arith,
      used_few c.self.inside.others.entries c.args.number,
      table_total 0 c.self.inside.table.items c.self.inside.others.entries,
      ap (total (λ _. 1)) (c.self.view_is ∙ c.in_ok-begin_table.ensures),
      c.requires,
    )

pub returns-clause-ok : goal.returns-clause-ok
returns-clause-ok c =
    let now = c.self.inside.others.entries in
    ap (with_table 0 c.self.inside.table.items) (put_inserted now now c.count_up.new.counts.entries c.args.number c.args.times _ refl c.self.invariant refl c.in_ok-count_up.ensures.entries)
    ∙ table_other 0 c.self.inside.table.items now c.args.number c.args.times
    ∙ ap (λ (ps : List (ℕ × ℕ)). put_more nat_cmp ps c.args.number c.args.times) (c.self.view_is ∙ c.in_ok-begin_table.ensures)
