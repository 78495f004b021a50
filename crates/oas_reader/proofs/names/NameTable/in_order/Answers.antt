use Rattle.std.proofs.Common.{◌≡◌, ◌++◌, List, length, drop, subst, sym}
use Rattle.oas_reader.specs.NamesInOrder.{numbered}
use Rattle.oas_reader.proofs.NamesInOrder.{front_of_all}
use Rattle.oas_reader.proofs.names.NameTable.in_order.Goals as goal

pub returns : goal.returns
returns g c =
    subst (λ (ss : List g.row.S.Denot). numbered 0 ss ++ drop (length ss) c.args.self.now.named ≡ c.args.self.now.named) (sym c.deref.ensures.value)
    (front_of_all c.args.self.now c.self.inside.numbering c.self.inside.in_order.items c.self.inside.others.entries c.self.view_is)
