use Rattle.std.proofs.Common.{arith}
use Rattle.oas_block.proofs.FrontLemmas.{given_next, given_front}
use Rattle.oas_block.proofs.fronts.PrefixSourceSource.next.Goals as goal

pub invariant_of-self-in-Some : goal.invariant_of-self-in-Some
invariant_of-self-in-Some g c =
    let ne = c.if-self-eq0.false in
    record { front = given_front c.in-Some._byte _ c.in-Some.is c.args.self.now.front (omega arith) c.in_ok-next.ensures }

pub returns-in-Some : goal.returns-in-Some
returns-in-Some g c = let ne = c.if-self-eq0.false in given_next _ c.in-Some._byte _ c.in-Some.is (omega arith) c.in_ok-next.ensures
