use Rattle.oas_cells.proofs.SortLemmas.{sorted_where_put}
use Rattle.oas_cells.proofs.sorting.sorted.Goals as goal

pub returns : goal.returns
returns c =
    sorted_where_put (λ ts. ts.items) c.without_places.result c.in_ok-all.all.items c.sort_unstable_by.new.self.items c.deref.result.now c.args.shorts.now
    c.in_ok-all.ensures c.sort_unstable_by.ensures.permutation c.deref.ensures.value c.without_places.ensures
