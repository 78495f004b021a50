use Rattle.std.proofs.Common.{rules, ◌≡◌, ◌∙◌, ◌<◌, ◌≤◌, sym, ap, subst, Some, List, length, slice_index_or}
use Rattle.std.specs.Option.{option_copied}
use Rattle.oas_reader.specs.Names.{name_of}
use Rattle.oas_reader.proofs.NamesInOrder.{name_within, name_past}
use Rattle.oas_reader.proofs.names.NameTable.get.Goals as goal

pub returns-in-Some : goal.returns-in-Some
returns-in-Some g c =
    let below = subst (λ (ss : List g.row.S.Denot). c.args.number < length ss) c.deref.ensures.value c.in-Some.ensures.lookup.3.0 in
    let here = c.in-Some.ensures.lookup.1 ∙ ap (λ (ss : List g.row.S.Denot). slice_index_or ss c.args.number c.in-Some.string.now) c.deref.ensures.value in
    ap Some here
    ∙ sym (name_within c.args.self.now c.self.inside.numbering c.self.inside.in_order.items c.self.inside.others.entries c.self.view_is c.args.number c.in-Some.string.now below)

pub returns-in-None : goal.returns-in-None
returns-in-None g c =
    let at : option_copied c.get-in-None.result ≡ name_of c.self.inside.others.entries c.args.number = search rules in
    let beyond = subst (λ (ss : List g.row.S.Denot). length ss ≤ c.args.number) c.deref.ensures.value c.in-None.ensures.lookup.3 in
    at ∙ sym (name_past c.args.self.now c.self.inside.numbering c.self.inside.in_order.items c.self.inside.others.entries c.self.view_is c.args.number beyond)
