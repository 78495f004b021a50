use Rattle.std.proofs.Common.{ℕ, ap, arith, List}
use Rattle.std.specs.Cmp.Lexicographic.{slice_cmp}
use Rattle.std.specs.Ordering.{nat_cmp}
use Rattle.oas_runs.specs.Entries.{Entry}
use Rattle.oas_run_store.specs.Tally.{count_at}
use Rattle.oas_run_store.specs.Laws.CountLaws.{count_at-more}
use Rattle.layout_tests.proofs.stores.orders.filled.Goals as goal

pub loop-k-preserved : goal.loop-k-preserved
loop-k-preserved c = λ q. omega (
  arith,
  c.loop-k.invariant q,
  ap {B = ℕ} (λ (es : List Entry). count_at (slice_cmp nat_cmp) es q) c.in_ok-put.ensures,
  count_at-more (slice_cmp nat_cmp) c.loop-k.store c.to_be_bytes-key.result 1 q,
)
