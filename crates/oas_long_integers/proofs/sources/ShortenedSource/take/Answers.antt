use Rattle.std.proofs.Common.{refl, arith, rules}
use Rattle.oas_long_integers.proofs.SourceLemmas.{stands_more, gives, keeps}
use Rattle.oas_long_integers.proofs.sources.ShortenedSource.take.Goals as goal

pub invariant_of-self-then-is_none : goal.invariant_of-self-then-is_none
invariant_of-self-then-is_none g c = record {
  shortened = stands_more c.in-Ok-Some.byte _ _ 1 _ c.in-Ok-Some.field-0-is c.args.self.now.shortened c.in-Ok-Some.ensures c.moved-self.ensures (omega arith) refl;
}

pub invariant_of-self-else-is_none : goal.invariant_of-self-else-is_none
invariant_of-self-else-is_none g c = record {
  shortened = stands_more c.in-Ok-Some.byte _ _ 0 _ c.in-Ok-Some.field-0-is c.args.self.now.shortened c.in-Ok-Some.ensures c.moved-self.ensures (omega arith) (omega arith);
}

pub returns-then-is_none-clause-steps : goal.returns-then-is_none-clause-steps
returns-then-is_none-clause-steps g c = search (keeps {t = g.S.Source.script c.next.new.self} c.args.self.now.shortened, rules)

pub returns-else-is_none-clause-steps : goal.returns-else-is_none-clause-steps
returns-else-is_none-clause-steps g c = search (gives {t = g.S.Source.script c.next.new.self} c.args.self.now.shortened, rules)
