use Rattle.std.proofs.Common.{◌≡◌, ◌++◌, ℕ, List, not, ◌&&◌, append-nil, ap, sym, subst, ◌∙◌}
use Rattle.std.specs.Map.Iter.{deref}
use Rattle.std.proofs.lemmas.Map.Iter.{rest_all}
use Rattle.oas_info.specs.Names.{has_name, AreNames}
use Rattle.oas_info.proofs.names.missing.Goals as goal

pub returns : goal.returns
returns c =
    let none = rest_all deref c.loop-name.name-iterator c.next.new.self c.next.result c.in-None.is c.next.ensures.steps in
    let whole : c.loop-name.list.items ≡ c.difference-name-items.result =
    sym (ap (λ (r : List (List ℕ)). c.loop-name.list.items ++ r) none ∙ append-nil c.loop-name.list.items) ∙ c.loop-name.invariant ∙ sym c.difference-name-items.ensures.rest in
    subst (λ (ns : List (List ℕ)). AreNames (λ name. has_name c.args.names.now.keys name && not (has_name c.args.others.now.keys name)) ns) (sym whole)
    (record { ascending = c.difference-name-items.ensures.ordered; those = c.difference-name-items.ensures.members })
