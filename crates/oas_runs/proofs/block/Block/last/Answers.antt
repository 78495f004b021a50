use Rattle.std.proofs.Common.{ap, ◌∙◌, subst, sym}
use Rattle.std.proofs.lemmas.Option.{IfSome_then}
use Rattle.oas_runs.specs.Entries.{entries, IsBlock}
use Rattle.oas_runs.proofs.LastLemmas.{stands_last, last_read, none_read, none_then}
use Rattle.oas_runs.proofs.block.Block.last.Goals as goal

pub after-requires : goal.after-requires
after-requires c = (stands_last c.args.at c.left.result.now c.args.self.now c.left.ensures.block c.left.ensures.is c.requires).within

pub read_entry-requires : goal.read_entry-requires
read_entry-requires c =
    subst IsBlock (sym c.after.ensures) (stands_last c.args.at c.left.result.now c.args.self.now c.left.ensures.block c.left.ensures.is c.requires).block

pub returns-clause-none : goal.returns-clause-none
returns-clause-none c =
    let read = ap entries c.after.ensures ∙ (stands_last c.args.at c.left.result.now c.args.self.now c.left.ensures.block c.left.ensures.is c.requires).read in
    none_then c.read_entry.result c.read_entry.ensures.none (λ e. none_read c.after.result.now c.args.self.now read e)

pub returns-clause-some : goal.returns-clause-some
returns-clause-some c =
    let read = ap entries c.after.ensures ∙ (stands_last c.args.at c.left.result.now c.args.self.now c.left.ensures.block c.left.ensures.is c.requires).read in
    IfSome_then c.read_entry.result c.read_entry.ensures.some (λ x e. last_read c.after.result.now c.args.self.now _ (x.key.now, x.times) read e)
