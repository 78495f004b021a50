use Rattle.std.proofs.Common.{ℕ, ◌≤◌, List}
use Rattle.std.specs.Cmp.Lexicographic.{slice_cmp}
use Rattle.std.specs.Ordering.{nat_cmp}
use Rattle.oas_run_store.specs.Tally.{count_at}
use Rattle.layout_tests.proofs.stores.orders.filled.Given as goal

-- no key is there more often than keys came
abbrev pub invariant-loop-k : goal.invariant-loop-k
invariant-loop-k l = (q : List ℕ) → count_at (slice_cmp nat_cmp) l.store q ≤ l.k
