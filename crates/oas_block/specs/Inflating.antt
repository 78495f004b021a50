-- What the parts of reading a block do.
use Rattle.std.specs.Prelude.{◌≡◌, ◌≢◌, ◌⊎◌, ℕ, ◌<◌, ◌≤◌, Bool, true, false, List, [], ◌∷◌, length, Result, Ok, Err}
use Rattle.oas_num.specs.declared.refusals.Why.{Why}
use Rattle.oas_num.specs.declared.refusals.Why.TheVariants as why
use Rattle.oas_num.specs.Script.{Script, Consumed, IsAtEnd, HasFailed, IsTooLong}
use Rattle.oas_num.specs.SourceFault.TheVariants.{Device, TooLong}
use Rattle.oas_inflate.specs.declared.faults.Fault.{Fault}
use Rattle.oas_inflate.specs.declared.faults.Fault.TheVariants as faults
use Rattle.oas_standard.specs.declared.blocks.BlockHead.{BlockHead}
use Rattle.oas_block.specs.declared.block.BlockEnd.{BlockEnd}
use Rattle.oas_block.specs.declared.block.BlockEnd.TheVariants as ends
use Rattle.oas_block.specs.declared.faults.BlockFault.{BlockFault}
use Rattle.oas_block.specs.Fronts.{prefix_script}
use Rattle.oas_block.specs.declared.faults.BlockFault.TheVariants as blocks

-- bytes were taken
pub record Passed (old new : Script) : Type 0 where
  pub bytes : List ℕ
  pub takes : Consumed old bytes new

-- A byte was taken, or none was left, or the source stopped.
abbrev pub PassesByte : Script → Result Bool Why → Script → Type 0
PassesByte old (Ok true) new = (byte : ℕ) × Consumed old (byte ∷ []) new × (new.given ≤ new.limit)
PassesByte old (Ok false) new = Consumed old [] new × IsAtEnd new
PassesByte old (Err why.Read) new = Consumed old [] new × HasFailed new
PassesByte old (Err why.InputTooLong) new = Consumed old [] new × IsTooLong new
PassesByte old (Err _) new = ⊥

-- All bytes that there were were taken, up to the end or to where the source stopped.
abbrev pub Passes : Script → Result (Unit {0}) Why → Script → Type 0
Passes old (Ok done) new = Passed old new × IsAtEnd new
Passes old (Err why.Read) new = Passed old new × HasFailed new
Passes old (Err why.InputTooLong) new = Passed old new × IsTooLong new
Passes old (Err _) new = ⊥

-- the plain bytes are as long as they should be, and the stream left only idle bits
pub record IsWhole (plain : List ℕ) (inflated unread idle : ℕ) : Type 0 where
  pub long : length plain ≡ inflated
  pub read : unread ≡ 0
  pub few : idle < 8

-- as they should be, or not
abbrev pub IsJudged : List ℕ → BlockEnd → ℕ → ℕ → ℕ → Type 0
IsJudged plain ends.Whole inflated unread idle = IsWhole plain inflated unread idle
IsJudged plain ends.Other inflated unread idle = (length plain ≢ inflated) ⊎ ((0 < unread) ⊎ (8 ≤ idle))
IsJudged plain ends.Unfinished inflated unread idle = ⊥

abbrev pub Judges : List ℕ → BlockEnd → List ℕ → ℕ → ℕ → ℕ → Type 0
Judges given end plain inflated unread idle = (given ≡ plain) × IsJudged plain end inflated unread idle

-- What is left of a block was taken; its stream encoded these bytes and left this many bits.
abbrev pub Finishes : {X : Type 0} → (X → List ℕ) → (X → BlockEnd) → List ℕ → ℕ → ℕ → Script → ℕ → Result X BlockFault → Script → ℕ → Type 0
Finishes given end plain inflated idle old unread (Ok x) new left = Passed (prefix_script old unread) (prefix_script new left) × (left ≡ 0) × Judges (given x) (end x) plain inflated unread idle
Finishes given end plain inflated idle old unread (Err (blocks.Why why.Truncated)) new left = (0 < left) × IsAtEnd (prefix_script new left)
Finishes given end plain inflated idle old unread (Err (blocks.Why why.Read)) new left = HasFailed (prefix_script new left)
Finishes given end plain inflated idle old unread (Err (blocks.Why why.InputTooLong)) new left = IsTooLong (prefix_script new left)
Finishes given end plain inflated idle old unread (Err _) new left = ⊥

-- what a fault of inflating means for a block, not all of whose bytes were taken where they ended
abbrev pub FaultOf : BlockHead → ℕ → Fault → BlockFault → Type 0
FaultOf head limit (faults.Bad flaw) blocks.Deflate = Unit {0}
FaultOf head limit faults.Cut (blocks.Why why.Truncated) = Unit {0}
FaultOf head limit (faults.Source Device) (blocks.Why why.Read) = Unit {0}
FaultOf head limit (faults.Source TooLong) (blocks.Why why.InputTooLong) = Unit {0}
FaultOf head limit faults.Memory (blocks.Why why.Memory) = Unit {0}
FaultOf head limit faults.Full blocks.Full = limit < head.inflated
FaultOf head limit faults.Full blocks.Length = head.inflated ≤ limit
FaultOf head limit _ _ = ⊥

-- the same for a block with this many bytes not taken
abbrev pub EndOf : {X : Type 0} → (X → List ℕ) → (X → BlockEnd) → BlockHead → ℕ → ℕ → Fault → List ℕ → Result X BlockFault → Type 0
EndOf given end head limit left why bytes (Ok x) = (left ≡ 0) × (why ≡ faults.Cut) × (end x ≡ ends.Unfinished) × (given x ≡ bytes)
EndOf given end head limit left why bytes (Err fault) = FaultOf head limit why fault × (why ≡ faults.Cut → 0 < left)
