use Rattle.std.proofs.Common.{List, ℕ, ◌++◌, take, ap, sym, subst, ◌∙◌, append_assoc}
use Rattle.std.proofs.lemmas.List.{take_more}
use Rattle.oas_checksum.specs.Signing.{AreSigned}
use Rattle.oas_checksum.proofs.signing.SignedSums.update.Goals as goal

pub loop-byte-preserved : goal.loop-byte-preserved
loop-byte-preserved c = λ bytes f.
    let xs = c.args.more.now in
    let i = c.loop-byte.byte-index in
    subst (λ (x : List ℕ). AreSigned c.push.new.self x)
    (append_assoc bytes (take i xs) (_) ∙ ap (λ (x : List ℕ). bytes ++ x) (sym (take_more xs i _ c.loop-byte-test.true)))
    (c.push.ensures (bytes ++ take i xs) (c.loop-byte.invariant bytes f))
