use Rattle.std.proofs.Common.{◌+◌, ◌≤◌, length, take, subst}
use Rattle.oas_bytes.specs.Script.{Script, left_of, Consumed, slice_script}
use Rattle.oas_bytes.proofs.ScriptLemmas.{slice_skips}
use Rattle.oas_bytes.proofs.slices.SliceSourceSource.skip.Goals as goal

pub returns : goal.returns
returns c =
    let i = c.self.inside in
    let count = c.args.count in
    subst (λ (s : Script). count ≤ length (left_of s.rest) → Consumed s (take count (left_of s.rest)) (slice_script i.bytes.now i.limit (i.at + count)))
    c.self.view_is (λ few. slice_skips i.bytes.now i.limit i.at count few) c.requires
