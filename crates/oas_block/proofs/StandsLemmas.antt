-- What isn't read encodes nothing.
use Rattle.std.proofs.Common.{ℕ, List, length, inl, inr, ap, arith}
use Rattle.oas_num.specs.Script.{Script}
use Rattle.oas_inflate.specs.Bits.{bits_of}
use Rattle.oas_inflate.specs.Deflate.{IsDeflated}
use Rattle.oas_inflate.specs.Reading.{Nothing, Longer}
use Rattle.oas_standard.specs.declared.blocks.BlockHead.{BlockHead}
use Rattle.oas_block.specs.Blocks.{Represents}
use Rattle.oas_block.specs.Reading.{Tells, ConsumesAll, IsUnfinished, IsOther}

-- the bytes of a block with this head, which encode nothing
pub record RepresentsNothing (head : BlockHead) (bytes : List ℕ) : Type 0 where
  pub none : (plain : List ℕ) → Represents head bytes plain → ⊥

pub nothing_stands : (head : BlockHead) (bytes : List ℕ) → Nothing IsDeflated (bits_of bytes) → RepresentsNothing head bytes
nothing_stands head bytes n = record { none = λ plain h. n.none plain h.packed.idle h.packed.stands }

pub longer_stands : (head : BlockHead) (bytes : List ℕ) → Longer head.inflated IsDeflated (bits_of bytes) → RepresentsNothing head bytes
longer_stands head bytes l = record { none = λ plain h. let m = l.more plain h.packed.idle h.packed.stands in let e = h.inflated in omega arith }

pub unfinished_stands : (head : BlockHead) (plain bytes : List ℕ) → IsUnfinished plain bytes → RepresentsNothing head bytes
unfinished_stands head plain bytes u = nothing_stands head bytes u.none

pub other_stands : (head : BlockHead) (plain bytes : List ℕ) → IsOther head plain bytes → RepresentsNothing head bytes
other_stands head plain bytes o = record {
  none = λ given h.
      let same = o.found.only given h.packed.idle h.packed.stands in
      let l = ap length same.0 in
      let r = ap length same.1 in
      let n = h.inflated in
      let f = h.packed.few in
      elim o.other [ inl w ↦ omega arith | inr w ↦ omega arith ];
}

-- the same for a refusal, and for a stream that doesn't end as it should
pub told : {head : BlockHead} {P : List ℕ → Type 0} {old new : Script} → Tells head P old new → ((bytes : List ℕ) → P bytes → RepresentsNothing head bytes) → Tells head (λ bytes. RepresentsNothing head bytes) old new
told t h = record { bytes = t.bytes; takes = t.takes; kind = t.kind; within = t.within; all = λ more e. h _ (t.all more e) }

pub taken : {head : BlockHead} {P : List ℕ → Type 0} {old new : Script} → ConsumesAll head P old new → ((bytes : List ℕ) → P bytes → RepresentsNothing head bytes) → ConsumesAll head (λ bytes. RepresentsNothing head bytes) old new
taken t h = record { bytes = t.bytes; takes = t.takes; kind = t.kind; whole = t.whole; is = h _ t.is }
