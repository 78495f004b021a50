-- What the sums of a source are.
use Rattle.std.specs.Prelude.{◌≡◌, ℕ, List}
use Rattle.std.proofs.Props.{props}
use base.Fml.{GName}
use Rattle.oas_bytes.specs.Script.{Script, since, Consumed, Consumed-prop}
use Rattle.oas_checksum.specs.Signing.{AreSigned}
use Rattle.oas_checksum.specs.Sums.{AreSums}

-- The source is the one that was handed in, and the sums cover all bytes that it gave since then.
pub record IsSummed (start : Script) (name same : GName) (now : Script) (sums : (ℕ × ℕ) × List ℕ) : Type 0 where
  pub same_source : same ≡ name
  pub takes : Consumed start (since start now) now
  pub are : AreSigned sums (since start now)

-- ---- each of these has at most one proof

AreSums-prop : (sums : ℕ × ℕ) (bytes : List ℕ) → IsProp (AreSums sums bytes)
AreSums-prop sums bytes = Prim.hlevel props

AreSigned-prop : (sums : (ℕ × ℕ) × List ℕ) (bytes : List ℕ) → IsProp (AreSigned sums bytes)
AreSigned-prop sums bytes = Prim.hlevel (AreSums-prop, props)

pub IsSummed-prop : (start : Script) (name same : GName) (now : Script) (sums : (ℕ × ℕ) × List ℕ) → IsProp (IsSummed start name same now sums)
IsSummed-prop start name same now sums = Prim.hlevel (Consumed-prop, AreSigned-prop, props)
