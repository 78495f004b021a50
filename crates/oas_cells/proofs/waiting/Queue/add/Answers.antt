use Rattle.std.proofs.Common.{◌+◌, ap, unwrap_or, arith}
use Rattle.std.specs.BTreeMap.{get, is_at}
use Rattle.oas_elements.specs.Laws.BagLaws.{total}
use Rattle.oas_reader.specs.DrawingDrawn.{drawn_cmp}
use Rattle.oas_reader.specs.DrawnLaws.{derived_cmp}
use Rattle.oas_cells.specs.Short.{drawn_of}
use Rattle.oas_reader.proofs.HeldLemmas.{times_drawn-derived, with_drawn-inserted, IsHeld-insert_entry}
use Rattle.oas_cells.proofs.DrawLemmas.{one_few}
use Rattle.oas_cells.proofs.WaitLemmas.{total-append, chunks_more, others_more}
use Rattle.oas_cells.proofs.waiting.Queue.add.Goals as goal

pub count_up-requires : goal.count_up-requires
count_up-requires c =
    omega (
      arith,
      times_drawn-derived c.self.inside.others.entries c.args.drawn,
      one_few (is_at (drawn_cmp c.args.drawn)) c.self.inside.others.entries,
      total-append (λ _. 1) c.self.inside.chunks c.self.inside.others.entries,
      ap (total (λ _. 1)) c.self.view_is,
      c.requires.room,
    )

pub invariant_of-self-in_default : goal.invariant_of-self-in_default
invariant_of-self-in_default c =
    IsHeld-insert_entry c.self.inside.others.entries _ c.args.drawn (unwrap_or (get derived_cmp c.self.inside.others c.args.drawn) 0 + c.args.times) c.self.invariant
    (omega arith) c.in_ok-count_up.ensures.ordered c.in_ok-count_up.ensures.entries

pub returns-in_default-clause-ok : goal.returns-in_default-clause-ok
returns-in_default-clause-ok c =
    others_more c.self.inside.chunks c.self.inside.others.entries c.args.self.now c.self.view_is c.count_up.new.counts.entries c.args.drawn c.args.times
    (with_drawn-inserted c.self.inside.others.entries _ c.args.drawn c.args.times c.self.invariant c.in_ok-count_up.ensures.entries)

pub returns-clause-ok : goal.returns-clause-ok
returns-clause-ok c =
    chunks_more c.self.inside.chunks c.self.inside.others.entries c.args.self.now c.self.view_is c.push.new.self c.args.drawn (drawn_of c.in-Some.short) c.args.times
    c.in_ok-push.ensures.ok c.in-Some.ensures.is c.in-Some.ensures.once
