use Rattle.std.proofs.Common.{◌≡◌, ◌∙◌, ◌+◌, ap, arith, unwrap_or, length}
use Rattle.oas_reader.proofs.NamesInOrder.{count_is}
use Rattle.oas_reader.proofs.names.NameTable.number_for.Goals as goal

pub returns : goal.returns
returns g c =
    let all = count_is c.args.self.now c.self.inside.numbering c.self.inside.in_order.items c.self.inside.others.entries c.self.view_is in
    let are : c.len.result + c.len-2.result ≡ length c.args.self.now.named = omega (arith, all, c.len.ensures, c.len-2.ensures.len, c.self.inside.in_order.ok.0) in
    c.unwrap_or.ensures ∙ ap (unwrap_or c.args.number) are
