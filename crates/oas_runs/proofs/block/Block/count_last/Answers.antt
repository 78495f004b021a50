use Rattle.std.proofs.Common.{rules, ◌<◌, ◌^◌, length, arith}
use Rattle.oas_runs.proofs.LastLemmas.{stands_behind, counts_last, recounts}
use Rattle.oas_runs.proofs.block.Block.count_last.Goals as goal

pub overflow_add-self-inside : goal.overflow_add-self-inside
overflow_add-self-inside c =
    let most : length c.self.inside.bytes.items < 2 ^ 64 = search rules in
    omega (
      arith,
      (stands_behind c.args.at c.self.inside.start c.self.inside.bytes.items c.args.self.now c.self.invariant.0 c.self.invariant.1 c.self.view_is c.requires.begins).within,
      most,
    )

pub count_last-requires-clause-within : goal.count_last-requires-clause-within
count_last-requires-clause-within c =
    (stands_behind c.args.at c.self.inside.start c.self.inside.bytes.items c.args.self.now c.self.invariant.0 c.self.invariant.1 c.self.view_is c.requires.begins).within

pub count_last-requires-clause-block : goal.count_last-requires-clause-block
count_last-requires-clause-block c =
    (stands_behind c.args.at c.self.inside.start c.self.inside.bytes.items c.args.self.now c.self.invariant.0 c.self.invariant.1 c.self.view_is c.requires.begins).block

pub count_last-requires-clause-last : goal.count_last-requires-clause-last
count_last-requires-clause-last c =
    counts_last _ c.args.self.now c.args.more
    (stands_behind c.args.at c.self.inside.start c.self.inside.bytes.items c.args.self.now c.self.invariant.0 c.self.invariant.1 c.self.view_is c.requires.begins).read
    c.requires.some c.requires.fits

pub invariant_of-self-2 : goal.invariant_of-self-2
invariant_of-self-2 c =
    let counted = recounts c.args.at c.self.inside.start c.self.inside.bytes.items c.count_last.new.bytes.items c.args.self.now c.args.more c.self.invariant.0
    c.self.invariant.1 c.self.view_is c.requires.begins c.requires.fits c.in_ok-count_last.ensures.ok in
    (counted.within, counted.block)

pub returns-clause-ok : goal.returns-clause-ok
returns-clause-ok c =
    (recounts c.args.at c.self.inside.start c.self.inside.bytes.items c.count_last.new.bytes.items c.args.self.now c.args.more c.self.invariant.0
    c.self.invariant.1 c.self.view_is c.requires.begins c.requires.fits c.in_ok-count_last.ensures.ok).counted

pub returns-clause-begins : goal.returns-clause-begins
returns-clause-begins c =
    (recounts c.args.at c.self.inside.start c.self.inside.bytes.items c.count_last.new.bytes.items c.args.self.now c.args.more c.self.invariant.0
    c.self.invariant.1 c.self.view_is c.requires.begins c.requires.fits c.in_ok-count_last.ensures.ok).begins

pub returns-clause-some : goal.returns-clause-some
returns-clause-some c =
    (recounts c.args.at c.self.inside.start c.self.inside.bytes.items c.count_last.new.bytes.items c.args.self.now c.args.more c.self.invariant.0
    c.self.invariant.1 c.self.view_is c.requires.begins c.requires.fits c.in_ok-count_last.ensures.ok).some
