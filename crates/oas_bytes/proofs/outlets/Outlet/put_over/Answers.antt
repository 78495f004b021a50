use Rattle.std.proofs.Common.{◌-◌, ◌++◌, length, take, drop, sym, ap, subst, ◌∙◌, arith}
use Rattle.std.proofs.Math.Seq.{take-add}
use Rattle.std.proofs.lemmas.List.{take-take}
use Rattle.std.proofs.lemmas.Result.{err_from_is_err_and}
use Rattle.oas_bytes.specs.Outlets.{IsGiven, failures_of}
use Rattle.oas_bytes.specs.Writing.{Puts}
use Rattle.oas_bytes.proofs.WritingLemmas.{Puts-then, rest_fails}
use Rattle.oas_bytes.proofs.outlets.Outlet.put_over.Goals as goal

pub returns-in_err-put : goal.returns-in_err-put
returns-in_err-put g c =
    let p = err_from_is_err_and c.from_residual.result c.from_residual.ensures.1 in
    rw p.1 (rest_fails _ _ _ _ _ c.args.bytes.now c.loop-put.put c.loop-put.invariant.puts c.in_err-put.ensures.fails)

pub loop-put-preserved : goal.loop-put-preserved
loop-put-preserved g c =
    let put = c.loop-put.put in
    let n = c.in_ok-put.field-0 in
    let xs = c.args.bytes.now in
    let some = c.in_ok-put.ensures.some in
    let joined = ap (λ l. take put xs ++ l) (take-take n (length xs - put) (drop put xs) (omega arith)) ∙ sym (take-add put n xs) in
    record {
      within = omega arith;
      puts = subst (λ l. Puts (IsGiven g.W.Device.calls) failures_of c.args.self.now l c.put_some.new.self) joined (Puts-then _ _ _ _ _ _ _ c.loop-put.invariant.puts c.in_ok-put.ensures.puts);
    }
