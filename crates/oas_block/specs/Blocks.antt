-- The data of a compressed block (SEMI P39, CBLOCK record).
use Rattle.std.specs.Prelude.{◌≡◌, ℕ, ◌<◌, List, length}
use Rattle.oas_inflate.specs.Bits.{bits_of}
use Rattle.oas_inflate.specs.Deflate.{IsDeflated}
use Rattle.oas_standard.specs.declared.blocks.BlockHead.{BlockHead}

-- The bytes are a deflated stream for the plain bytes, with nothing after it except idle bits of the last byte.
pub record IsPacked (bytes plain : List ℕ) : Type 0 where
  pub idle : List ℕ
  pub stands : IsDeflated plain (bits_of bytes) idle
  pub few : length idle < 8

-- The bytes are those of a block with this head, and encode the plain ones.
pub record Represents (head : BlockHead) (bytes plain : List ℕ) : Type 0 where
  pub kind : head.kind ≡ 0
  pub inflated : length plain ≡ head.inflated
  pub deflated : length bytes ≡ head.deflated
  pub packed : IsPacked bytes plain
