use Rattle.std.proofs.Common.{◌++◌, ◌∷◌, [], sym, ap, ◌∙◌}
use Rattle.std.specs.Prelude.{reverse}
use Rattle.oas_ring.specs.Points.{origin}
use Rattle.oas_keys.proofs.StepLemmas.{two_parts, read_forwards, read_backwards}
use Rattle.oas_keys.proofs.fields.put_ring.Goals as goal
use Rattle.oas_keys.proofs.fields.put_ring.Goals.{then-reading, else-reading}

pub returns-clause-items : goal.returns-clause-items
returns-clause-items c = elim c.if-reading.branch [
  | then-reading w ↦
      let parts = w.split_at.ensures in
      let split = read_backwards c.args.points.now c.args.reading w.if-reading.true c.requires.start ∙ (λ i. reverse (sym parts.front i) ++ reverse (sym parts.back i)) in
      two_parts origin w.put_backwards-last.result w.put_backwards.result _ _ _ c.args.out.now.items w.put_backwards-last.new.out.items w.put_backwards.new.out.items _ split
      w.put_backwards-last.ensures.items w.put_backwards.ensures.items (c.push_reserved.ensures.items ∙ ap (λ o. o.items ++ 0 ∷ []) w.out-is)
  | else-reading w ↦
      let parts = w.split_at-else-reading.ensures in
      let split = read_forwards c.args.points.now c.args.reading w.if-reading.false ∙ (λ i. sym parts.back i ++ sym parts.front i) in
      two_parts origin w.put_forwards-last.result w.put_forwards.result _ _ _ c.args.out.now.items w.put_forwards-last.new.out.items w.put_forwards.new.out.items _ split
      w.put_forwards-last.ensures.items w.put_forwards.ensures.items (c.push_reserved.ensures.items ∙ ap (λ o. o.items ++ 0 ∷ []) w.out-is)
]
