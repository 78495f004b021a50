use Rattle.std.proofs.lemmas.Cmp.{nat_list_cmp_total}
use Rattle.std.proofs.lemmas.Map.Lookups.{exact_bytes}
use Rattle.oas_run_store.proofs.StoreLemmas.{block_parts, block_is_view}
use Rattle.oas_run_store.proofs.store.KeyStore.of_block.Goals as goal

pub invariant_of-result : goal.invariant_of-result
invariant_of-result c = block_parts nat_list_cmp_total c.new.result c.args.block c.new-2.result.items c.new.ensures c.new-2.ensures.items c.requires.run c.requires.fits

pub returns : goal.returns
returns c = block_is_view nat_list_cmp_total exact_bytes c.new.result c.args.block c.new-2.result.items c.new.ensures c.new-2.ensures.items c.requires.run
    (block_parts nat_list_cmp_total c.new.result c.args.block c.new-2.result.items c.new.ensures c.new-2.ensures.items c.requires.run c.requires.fits)
