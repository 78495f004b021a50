use Rattle.std.proofs.Common.{refl}
use Rattle.oascanon_c.proofs.ReadingLemmas.{keyed_from, refused_for}
use Rattle.oascanon_c.proofs.buffers.key.Goals as goal

pub returns-in-Ok : goal.returns-in-Ok
returns-in-Ok c =
    let k = keyed_from {limits = c.in-Some.limits} {bytes = c.args.bytes.now} (rw (c.new-source.ensures, c.input.ensures) at c.in-Ok.ensures.keyed) in
    (c.in-Some.limits, c.in-Some.ensures.limits, (k.0, (k.1.0, k.1.1, refl, k.1.2)))

pub returns-in-Err : goal.returns-in-Err
returns-in-Err c = (
  (
    c.in-Some.limits,
    c.in-Some.ensures.limits,
    refused_for {limits = c.in-Some.limits} {bytes = c.args.bytes.now} c.in-Err.refusal (rw (c.new-source.ensures, c.input.ensures) at c.in-Err.ensures.refused)
        (rw (c.new-source.ensures, c.input.ensures) at c.in-Err.ensures.placed) (rw (c.new-source.ensures, c.input.ensures) at c.in-Err.ensures.decided),
  ),
  refl,
)
