use Rattle.std.proofs.Common.{rules, ◌≡◌, None, arith}
use Rattle.oas_reader.specs.Names.{name_of}
use Rattle.oas_reader.proofs.NamesInOrder.{put_place, put_next, put_past, apart_next, apart_past}
use Rattle.oas_reader.proofs.names.NameTable.put.Goals as goal

pub returns-then-number-next-clause-ok : goal.returns-then-number-next-clause-ok
returns-then-number-next-clause-ok g c =
    put_place c.args.self.now c.self.inside.numbering c.self.inside.in_order.items c.self.inside.others.entries c.self.view_is c.args.number c.args.string
    (omega (arith, c.if-number-next.true, c.len-next.ensures, c.self.inside.in_order.ok.0))

pub invariant_of-self-then-not-contains_key : goal.invariant_of-self-then-not-contains_key
invariant_of-self-then-not-contains_key g c =
    let none : name_of c.self.inside.others.entries c.args.number ≡ None = search rules in
    apart_next c.self.inside.in_order.items c.push.new.self.items c.self.inside.others.entries c.args.number c.args.string c.in_ok-push.ensures.items c.self.invariant
    (omega (arith, c.if-number-next-2.true, c.len-next.ensures, c.self.inside.in_order.ok.0)) (omega (arith, c.if-next-lt-MOST_IN_ORDER.true)) none

pub returns-then-not-contains_key-clause-ok : goal.returns-then-not-contains_key-clause-ok
returns-then-not-contains_key-clause-ok g c =
    let none : name_of c.self.inside.others.entries c.args.number ≡ None = search rules in
    put_next c.args.self.now c.self.inside.numbering c.self.inside.in_order.items c.self.inside.others.entries c.self.view_is c.args.number c.args.string c.push.new.self.items
    (omega (arith, c.if-number-next-2.true, c.len-next.ensures, c.self.inside.in_order.ok.0)) c.self.invariant none c.in_ok-push.ensures.items

pub invariant_of-self-2 : goal.invariant_of-self-2
invariant_of-self-2 g c =
    apart_past c.self.inside.in_order.items c.self.inside.others.entries c.insert.new.self.entries c.args.number c.args.string c.self.invariant
    (omega (arith, c.if-number-next.false, c.len-next.ensures, c.self.inside.in_order.ok.0)) c.in_ok-insert.ensures.entries

pub returns-clause-ok : goal.returns-clause-ok
returns-clause-ok g c =
    put_past c.args.self.now c.self.inside.numbering c.self.inside.in_order.items c.self.inside.others.entries c.self.view_is c.args.number c.args.string c.insert.new.self.entries
    (omega (arith, c.if-number-next.false, c.len-next.ensures, c.self.inside.in_order.ok.0)) c.in_ok-insert.ensures.entries
