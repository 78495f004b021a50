use Rattle.std.proofs.Common.{◌≡◌, ℕ, ◌+◌, ◌-◌, ◌*◌, ◌/◌, length, drop, arith, refl, ap, ◌∙◌}
use Rattle.std.proofs.lemmas.List.{take_rest}
use Rattle.sha2.specs.Sha256.{initial_hash_256}
use Rattle.sha2.proofs.Absorbing256.{IsAbsorbed_block, IsAbsorbed_none, IsAbsorbed_tail}
use Rattle.oas_checksum.proofs.hash.hasher.Sha256.take_blocks.Goals as goal

pub whole-init : goal.whole-init
whole-init c = (
  refl,
  omega arith,
  λ m edge held. IsAbsorbed_none initial_hash_256 c.args.self.now.hash c.args.self.now.rest m c.args.bytes.now held,
)

pub whole-preserved : goal.whole-preserved
whole-preserved c =
    let next : 64 * (c.whole.i + 1) ≡ 64 * c.whole.i + 64 = omega arith in
    let width : 64 * c.whole.i + 64 - 64 * c.whole.i ≡ 64 = omega arith in (
      c.whole.invariant.0,
      omega arith,
      λ m edge held.
          rw (c.compress.ensures, next)
          (IsAbsorbed_block initial_hash_256 c.whole.self.hash c.whole.self.rest m c.args.bytes.now _ (64 * c.whole.i)
          (c.whole.invariant.2 m edge held) (omega arith) (omega arith) (rw width refl)),
    )

pub returns-clause-bytes : goal.returns-clause-bytes
returns-clause-bytes c = λ m edge held.
    let a : ℕ = 64 * c.whole.i in
    let end : ℕ = 64 * (length c.args.bytes.now / 64) in
    let same : end ≡ a = omega (arith, c.whole.auto.i-end) in
    IsAbsorbed_tail initial_hash_256 _ c.whole.self.hash c.whole.self.rest m c.args.bytes.now _ a _ (c.whole.invariant.2 m edge held)
    (omega arith) (omega arith) (omega arith) refl
    (c.copy_from_slice.ensures.after ∙ take_rest c.args.bytes.now end ∙ ap (λ (k : ℕ). drop k c.args.bytes.now) same)
