-- What reading a block does.
use Rattle.std.specs.Prelude.{◌≡◌, ◌≢◌, ◌⊎◌, ℕ, ◌<◌, ◌≤◌, List, [], ◌++◌, length, Result, Ok, Err}
use Rattle.oas_num.specs.declared.refusals.Why.TheVariants.{Truncated, Read, InputTooLong, Memory}
use Rattle.oas_num.specs.Script.{Script, Consumed, IsAtEnd, HasFailed, IsTooLong}
use Rattle.oas_inflate.specs.Bits.{bits_of}
use Rattle.oas_inflate.specs.Deflate.{IsDeflated}
use Rattle.oas_inflate.specs.Cut.{IsCutOff}
use Rattle.oas_inflate.specs.Reading.{Found, Nothing, Longer}
use Rattle.oas_standard.specs.declared.blocks.BlockHead.{BlockHead}
use Rattle.oas_block.specs.declared.block.BlockEnd.{BlockEnd}
use Rattle.oas_block.specs.declared.block.BlockEnd.TheVariants.{Whole, Unfinished, Other}
use Rattle.oas_block.specs.declared.faults.BlockFault.{BlockFault}
use Rattle.oas_block.specs.declared.faults.BlockFault.TheVariants.{Kind, Length, Deflate, Why, Full}
use Rattle.oas_block.specs.Blocks.{Represents}

-- The block's bytes were taken, and they encode the plain ones.
pub record IsRead (head : BlockHead) (limit : ℕ) (old : Script) (plain : List ℕ) (new : Script) : Type 0 where
  pub bytes : List ℕ
  pub takes : Consumed old bytes new
  pub block : Represents head bytes plain
  pub within : length plain ≤ limit

-- All bytes of the block were taken, and this holds for them.
pub record ConsumesAll (head : BlockHead) (P : List ℕ → Type 0) (old new : Script) : Type 0 where
  pub bytes : List ℕ
  pub takes : Consumed old bytes new
  pub kind : head.kind ≡ 0
  pub whole : length bytes ≡ head.deflated
  pub is : P bytes

-- Bytes of the block were taken, and this holds for all its bytes, whatever the ones that are left are.
pub record Tells (head : BlockHead) (P : List ℕ → Type 0) (old new : Script) : Type 0 where
  pub bytes : List ℕ
  pub takes : Consumed old bytes new
  pub kind : head.kind ≡ 0
  pub within : length bytes ≤ head.deflated
  pub all : (more : List ℕ) → length (bytes ++ more) ≡ head.deflated → P (bytes ++ more)

-- Fewer bytes than the block has were taken.
pub record Stops (head : BlockHead) (old new : Script) : Type 0 where
  pub bytes : List ℕ
  pub takes : Consumed old bytes new
  pub kind : head.kind ≡ 0
  pub fewer : length bytes < head.deflated

-- no stream is finished there, and the plain bytes are those that it gives before the bytes end
pub record IsUnfinished (plain bytes : List ℕ) : Type 0 where
  pub none : Nothing IsDeflated (bits_of bytes)
  pub given : IsCutOff plain (bits_of bytes)

-- there is a stream for the plain bytes, but those are fewer than the head says, or some bytes are left after it
pub record IsOther (head : BlockHead) (plain bytes : List ℕ) : Type 0 where
  pub left : List ℕ
  pub found : Found IsDeflated plain (bits_of bytes) left
  pub other : (length plain < head.inflated) ⊎ (8 ≤ length left)

-- how the stream of a block's bytes ends, all of which were taken
abbrev pub EndsBlock : BlockHead → ℕ → Script → List ℕ → BlockEnd → Script → Type 0
EndsBlock head limit old plain Whole new = IsRead head limit old plain new
EndsBlock head limit old plain Unfinished new = ConsumesAll head (λ bytes. IsUnfinished plain bytes) old new
EndsBlock head limit old plain Other new = ConsumesAll head (λ bytes. IsOther head plain bytes) old new

-- why a block isn't read
abbrev pub FailsBlock : BlockHead → ℕ → Script → BlockFault → Script → Type 0
FailsBlock head limit old Kind new = (head.kind ≢ 0) × Consumed old [] new
FailsBlock head limit old Length new = Tells head (λ bytes. Longer head.inflated IsDeflated (bits_of bytes)) old new
FailsBlock head limit old Deflate new = Tells head (λ bytes. Nothing IsDeflated (bits_of bytes)) old new
FailsBlock head limit old Full new = (limit < head.inflated) × Tells head (λ bytes. Longer limit IsDeflated (bits_of bytes)) old new
FailsBlock head limit old (Why Truncated) new = Stops head old new × IsAtEnd new
FailsBlock head limit old (Why Read) new = Stops head old new × HasFailed new
FailsBlock head limit old (Why InputTooLong) new = Stops head old new × IsTooLong new
FailsBlock head limit old (Why Memory) new = Tells head (λ bytes. Unit {0}) old new
FailsBlock head limit old (Why _) new = ⊥

-- A block with this head is read, whose plain bytes are seen as a list.
abbrev pub ReadsBlock : {X : Type 0} → (X → List ℕ) → (X → BlockEnd) → BlockHead → ℕ → Script → Result X BlockFault → Script → Type 0
ReadsBlock given end head limit old (Ok x) new = EndsBlock head limit old (given x) (end x) new
ReadsBlock given end head limit old (Err fault) new = FailsBlock head limit old fault new
