use Rattle.std.proofs.Common.{◌+◌, ◌∙◌, ap, arith, inl, inr, refl}
use Rattle.std.proofs.lemmas.Result.{err_from_is_err_and}
use Rattle.std.proofs.lemmas.List.{length_push}
use Rattle.oas_num.specs.Laws.GrammarLaws.{PrefixFree-image}
use Rattle.oas_num.proofs.GrammarLemmas.{listed_more}
use Rattle.oas_num.proofs.PieceLemmas.{item_fails, item_unkept}
use Rattle.oas_num.proofs.HalfwayLemmas.{image_took}
use Rattle.oas_shape.proofs.ReadingLemmas.{image_read}
use Rattle.oas_shape.proofs.steps.read_steps.Goals as goal

pub returns-in_err-delta : goal.returns-in_err-delta
returns-in_err-delta g c =
    let p = err_from_is_err_and c.from_residual.result c.from_residual.ensures.1 in
    rw (p.1, p.2) (item_fails (PrefixFree-image _ _ g.met.D.Spelled.one_front) (λ _ h. inl h) (omega arith) c.loop.invariant.listed (image_took c.in_err-delta.ensures))

pub returns-in_err-keep : goal.returns-in_err-keep
returns-in_err-keep g c =
    let p = err_from_is_err_and c.from_residual-in_err-keep.result c.from_residual-in_err-keep.ensures.1 in
    rw (p.1, p.2, c.in_err-keep.ensures.refused) (item_unkept (λ _ h. inr (_, h, refl)) (omega (arith, c.loop.invariant.len)) c.loop.invariant.listed (image_read _ _ c.in_ok-delta.ensures))

pub loop-preserved : goal.loop-preserved
loop-preserved g c =
    rw (c.in_ok-keep.ensures.kept, c.step.ensures) (record {
      listed = listed_more _ _ _ _ _ _ c.loop.invariant.listed (image_read _ _ c.in_ok-delta.ensures);
      len = length_push _ _ ∙ ap (λ n. n + 1) c.loop.invariant.len;
    })
