use Rattle.std.proofs.Common.{refl, ◌∙◌}
use Rattle.std.proofs.lemmas.List.{take_rest}
use Rattle.oas_keys.proofs.SignedLemmas.{signed_some, passed}
use Rattle.oas_keys.proofs.points.behind_signed.Goals as goal

pub bounds-bytes-0 : goal.bounds-bytes-0
bounds-bytes-0 c = signed_some c.requires.0 c.args.bytes.now c.requires.1 c.requires.3

pub slice_bounds-result-count : goal.slice_bounds-result-count
slice_bounds-result-count c =
    let r = c.requires in
    (passed r.0 c.args.bytes.now r.1 _ _ r.2 r.3 refl c.more_behind.ensures).long

pub slice_bounds-result-start : goal.slice_bounds-result-start
slice_bounds-result-start c =
    let r = c.requires in
    (passed r.0 c.args.bytes.now r.1 _ _ r.2 r.3 refl c.more_behind.ensures).long

pub returns : goal.returns
returns c x rest step is = take_rest c.args.bytes.now _ ∙ (passed x c.args.bytes.now rest _ _ step is refl c.more_behind.ensures).rest_is
