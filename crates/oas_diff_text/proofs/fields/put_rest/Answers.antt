use Rattle.std.proofs.Common.{◌≡◌, List, ◌∷◌, flat_map, ap, sym, rules}
use Rattle.std.proofs.lemmas.Result.{err_from_is_err_and}
use Rattle.oas_num.proofs.PuttingLemmas.{begins, fails_at, all_put, ◌▸◌}
use Rattle.oas_ring.specs.declared.point.Point.{Point}
use Rattle.oas_diff_text.specs.Fields.{place}
use Rattle.oas_diff_text.proofs.EntryLemmas.{left_is}
use Rattle.oas_diff_text.proofs.fields.put_rest.Goals as goal

pub loop-point-init : goal.loop-point-init
loop-point-init g c =
    let same : c.into_iter-point-iterator.result ≡ c.args.points = search rules in
    left_is (begins _ _) (ap (λ (ps : List Point). flat_map (λ q. c.args.byte ∷ place c.args.syntax c.args.scale.now q) ps) (sym same))

pub returns-in_err-put_next : goal.returns-in_err-put_next
returns-in_err-put_next g c =
    let p = err_from_is_err_and c.from_residual.result c.from_residual.ensures.1 in
    let text = ap (λ (ps : List Point). flat_map (λ q. c.args.byte ∷ place c.args.syntax c.args.scale.now q) ps) c.in-Some.ensures.steps in
    rw p.1 (fails_at _ (left_is c.loop-point.invariant text) c.in_err-put_next.ensures)

pub loop-point-preserved : goal.loop-point-preserved
loop-point-preserved g c =
    let text = ap (λ (ps : List Point). flat_map (λ q. c.args.byte ∷ place c.args.syntax c.args.scale.now q) ps) c.in-Some.ensures.steps in
    left_is c.loop-point.invariant text ▸ c.in_ok-put_next.ensures

pub returns : goal.returns
returns g c = all_put (left_is c.loop-point.invariant (ap (λ (ps : List Point). flat_map (λ q. c.args.byte ∷ place c.args.syntax c.args.scale.now q) ps) c.in-None.ensures.steps.0))
