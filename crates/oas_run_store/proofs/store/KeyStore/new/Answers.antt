use Rattle.std.specs.Cmp.Lexicographic.{slice_cmp}
use Rattle.std.specs.Ordering.{nat_cmp}
use Rattle.oas_run_store.proofs.StoreLemmas.{no_parts}
use Rattle.oas_run_store.proofs.store.KeyStore.new.Goals as goal

pub invariant_of-result : goal.invariant_of-result
invariant_of-result c = no_parts (slice_cmp nat_cmp) c.new.result c.new-2.result c.new-3.result.items c.new.ensures c.new-2.ensures c.new-3.ensures.items
