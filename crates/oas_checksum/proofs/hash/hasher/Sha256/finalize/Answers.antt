use Rattle.std.proofs.Common.{◌≡◌, ℕ, List, ◌*◌, ◌%◌, ◌-◌, ◌^◌, length, replicate, arith, ap, refl, ◌∙◌}
use Rattle.std.proofs.lemmas.List.{take-replicate}
use Rattle.sha2.specs.Sha256.{digest_bytes, sha256}
use Rattle.oas_checksum.proofs.HashingLemmas.{padded_hash, total_of}
use Rattle.oas_checksum.proofs.hash.hasher.Sha256.finalize.Goals as goal

pub returns : goal.returns
unfolding sha256
returns c = λ m held.
    let s = c.args.self in
    let total = total_of s m held in
    let used : s.total % 64 ≡ length m % 64 = omega arith in
    let bits : s.total * 8 % 2 ^ 64 ≡ length m * 8 % 2 ^ 64 = omega arith in
    let padded = c.update-3.ensures _ (c.update-2.ensures _ (c.update.ensures m held)) in
    let hash = padded_hash c.update-3.new.self m _ _ _ padded refl
    (take-replicate {X = ℕ} ((119 - s.total % 64) % 64) 64 0 (omega arith) ∙ ap (λ (k : ℕ). replicate ((119 - k) % 64) 0) used)
    (rw bits at c.to_be_bytes.ensures) in
    c.digest_bytes.ensures ∙ ap (λ (h : List ℕ). digest_bytes h 8) hash
