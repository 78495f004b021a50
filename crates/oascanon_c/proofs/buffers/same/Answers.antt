use Rattle.oascanon_c.proofs.ReadingLemmas.{compares, not_compared}
use Rattle.oascanon_c.proofs.buffers.same.Goals as goal

pub returns-in-Ok : goal.returns-in-Ok
returns-in-Ok c = rw c.yes_or_no.ensures (compares c.in-Some.limits c.args.one.now c.args.other.now c.same_files.new.a c.same_files.new.b c.args.bounds.now c.in-Some.ensures.limits c.in-Ok.same
    (rw (c.new-first.ensures, c.new-second.ensures, c.input.ensures, c.input-2.ensures) at c.in-Ok.ensures.compared))

pub returns-in-Err : goal.returns-in-Err
returns-in-Err c = not_compared c.in-Some.limits c.args.one.now c.args.other.now c.same_files.new.a c.same_files.new.b c.args.bounds.now c.in-Some.ensures.limits c.in-Err.which c.in-Err.refusal
    (λ is. ((rw (c.new-first.ensures, c.input.ensures) at c.in-Err.ensures.first) is).0)
    (rw (c.new-first.ensures, c.new-second.ensures, c.input.ensures, c.input-2.ensures) at c.in-Err.ensures.second)
