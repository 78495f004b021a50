-- How the head of a compressed block is spelled, after its id (SEMI P39, CBLOCK record).
use Rattle.std.specs.Prelude.{ℕ, List}
use Rattle.oas_num.specs.declared.refusals.Why.{Why}
use Rattle.oas_record.specs.Kinds.{Kind}
use Rattle.oas_record.specs.Trees.{pair, image_any}
use Rattle.oas_standard.specs.declared.blocks.BlockHead.{BlockHead}
use Rattle.oas_standard.specs.Long.{long_number}

abbrev pub head_of : ℕ × (ℕ × ℕ) → BlockHead
head_of p = record { kind = p.0; inflated = p.1.0; deflated = p.1.1 }

-- comp-type, uncomp-byte-count, comp-byte-count, each in any number of bytes
abbrev pub block_head : Kind BlockHead
block_head = image_any head_of (pair long_number (λ _. pair long_number (λ _. long_number)))

abbrev pub SpellsBlockHead : BlockHead → List ℕ → Type 0
SpellsBlockHead = block_head.any

-- where a read of the head may fail
abbrev pub BlockHeadTook : Why → List ℕ → Type 0
BlockHeadTook = block_head.took
