use Rattle.std.proofs.Common.{◌∙◌, sym, inr, arith}
use Rattle.oas_reader.proofs.AcceptLemmas.{end_lacks, end_twice, end_heavy, end_none}
use Rattle.oas_reader.proofs.accepting.accept_cells.Goals as goal

pub returns-in_default-clause-err : goal.returns-in_default-clause-err
returns-in_default-clause-err g c =
    λ ds h. inr (end_lacks g.S.CellStore.store c.args.names.now.named c.args.strings.now.named c.args.limits c.args.cells.now ds h (c.in_default.ensures ds h))

pub returns-then-twice-clause-err : goal.returns-then-twice-clause-err
returns-then-twice-clause-err g c =
    λ ds h. inr (end_twice g.S.CellStore.store c.args.names.now.named c.args.strings.now.named c.args.limits c.args.cells.now ds h c.in-Some.weight
    (c.in-Some.ensures ds h) (sym c.in_ok-twice.ensures.twice ∙ c.if-twice.true))

pub returns-then-weight-clause-err : goal.returns-then-weight-clause-err
returns-then-weight-clause-err g c =
    λ ds h. inr (end_heavy g.S.CellStore.store c.args.names.now.named c.args.strings.now.named c.args.limits c.args.cells.now ds h c.in-Some.weight
    (c.in-Some.ensures ds h) (sym c.in_ok-twice.ensures.twice ∙ c.if-twice.false) (omega (arith, c.if-weight.true, c.weight.ensures)))

pub returns-clause-ok : goal.returns-clause-ok
returns-clause-ok g c =
    λ ds h. end_none g.S.CellStore.store c.args.names.now.named c.args.strings.now.named c.args.limits c.args.cells.now ds h c.in-Some.weight (c.in-Some.ensures ds h)
    (sym c.in_ok-twice.ensures.twice ∙ c.if-twice.false) c.args.limits.light (omega (arith, c.if-weight.false, c.weight.ensures))
