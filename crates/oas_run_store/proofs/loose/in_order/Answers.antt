use Rattle.std.proofs.lemmas.List.Sorted.{All-permutation}
use Rattle.oas_runs.specs.Entries.{entries}
use Rattle.oas_run_store.specs.Loose.{Begins}
use Rattle.oas_run_store.proofs.LooseLemmas.{in_order_same}
use Rattle.oas_run_store.proofs.loose.in_order.Goals as goal

pub returns : goal.returns
returns c = record {
  begin = All-permutation (Begins c.args.bytes.now) c.in_ok-all.all.items c.sort_unstable_by.new.self.items c.sort_unstable_by.ensures.permutation c.in_ok-all.ensures.begin;
  same = in_order_same c.args.bytes.now c.in_ok-all.all.items c.sort_unstable_by.new.self.items (entries c.args.bytes.now) c.sort_unstable_by.ensures.permutation c.in_ok-all.ensures.same;
}
