use Rattle.std.proofs.Common.{◌∙◌}
use Rattle.std.proofs.lemmas.Cmp.{nat_list_cmp_total}
use Rattle.std.proofs.lemmas.Map.Lookups.{exact_bytes}
use Rattle.oas_run_store.proofs.StoreLemmas.{same_view}
use Rattle.oas_run_store.proofs.store.KeyStore.settle.Goals as goal

pub returns : goal.returns
returns c = same_view nat_list_cmp_total exact_bytes c.self.inside.rising c.self.inside.loose c.settle.new.rising
    c.settle.new.loose c.self.inside.runs.items c.settle.new.runs.items c.self.invariant c.settle.ensures.parts c.settle.ensures.same ∙ c.self.view_is
