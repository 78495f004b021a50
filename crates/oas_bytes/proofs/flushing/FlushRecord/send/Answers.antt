use Rattle.std.proofs.Common.{◌-◌, ◌++◌, length, take, drop, sym, ap, subst, ◌∙◌, arith}
use Rattle.std.proofs.Math.Seq.{take-add}
use Rattle.std.proofs.lemmas.List.{take-take, length-take}
use Rattle.std.specs.Io.KnownBytes.{Appends}
use Rattle.oas_bytes.specs.Laws.OutletLaws.{Appends-then}
use Rattle.oas_bytes.proofs.flushing.FlushRecord.send.Goals as goal

pub loop-sent-preserved : goal.loop-sent-preserved
loop-sent-preserved g c =
    let sent = c.loop-sent.sent in
    let n = c.in-Ok.count in
    let xs = c.args.bytes.now in
    let call = c.in-Ok.ensures in
    let so_far = c.loop-sent.invariant.took in
    let most = length-take (length xs - sent) (drop sent xs) in
    let joined = ap (λ l. take sent xs ++ l) (take-take n (length xs - sent) (drop sent xs) (omega arith)) ∙ sym (take-add sent n xs) in
    record {
      within = omega arith;
      unflushed = c.loop-sent.invariant.unflushed;
      took = record {
        took = subst (Appends _ _) joined (Appends-then _ _ _ _ _ so_far.took call.took);
        failures = omega arith;
      };
    }
