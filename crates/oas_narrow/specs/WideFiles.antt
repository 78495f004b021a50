-- What a file of the standard is: its head, its records and END (SEMI P39, OASIS file). Records come by themselves, or in
-- blocks (SEMI P39, CBLOCK record); either way they are the file's.
use Rattle.std.specs.Prelude.{◌≡◌, ◌≢◌, ℕ, Bool, List, [], ◌∷◌, ◌++◌}
use Rattle.oas_num.specs.Grammar.{IsPair, IsSuch, IsImage, IsEach}
use Rattle.oas_record.specs.Heads.{IsMagic}
use Rattle.oas_block.specs.BlockHead.{BlockHead}
use Rattle.oas_block.specs.WideEnd.{WideEnd}
use Rattle.oas_block.specs.WideStart.{WideStart}
use Rattle.oas_block.specs.Heads.{SpellsWideStart}
use Rattle.oas_block.specs.WideRecord.{WideRecord}
use Rattle.oas_block.specs.WideRecord.TheVariants.{End, Block}
use Rattle.oas_block.specs.WideRecords.{wide_record_in}
use Rattle.oas_block.specs.Blocks.{Represents}

abbrev pub after_magic : Unit {0} × WideStart → WideStart
after_magic p = p.1

-- the magic and START
abbrev pub wide_head : WideStart → List ℕ → Type 0
wide_head = IsImage after_magic (IsPair IsMagic (λ _. SpellsWideStart))

-- ---- records

-- neither END nor the head of a block
pub record IsInner (w : WideRecord) : Type 0 where
  pub no_end : (end : WideEnd) → w ≢ End end
  pub no_block : (head : BlockHead) → w ≢ Block head

abbrev pub inner_in : Bool → WideRecord → List ℕ → Type 0
inner_in in_end = IsSuch IsInner (wide_record_in in_end)

-- END
abbrev pub end_in : Bool → WideEnd → List ℕ → Type 0
end_in in_end end bytes = wide_record_in in_end (End end) bytes

-- ---- blocks

-- what comes before a block's bytes
abbrev pub head_in : Bool → BlockHead → List ℕ → Type 0
head_in in_end head bytes = wide_record_in in_end (Block head) bytes

-- a block's bytes, by the data that they encode
abbrev pub packed_by : BlockHead → List ℕ → List ℕ → Type 0
packed_by head plain bytes = Represents head bytes plain

-- a block, by its head and its data
abbrev pub block_in : Bool → BlockHead × List ℕ → List ℕ → Type 0
block_in in_end = IsPair (head_in in_end) packed_by

-- a block whose data are these records, each of them whole
pub record is_block_of (in_end : Bool) (ws : List WideRecord) (bytes : List ℕ) : Type 0 where
  pub block : BlockHead × List ℕ
  pub spelled : block_in in_end block bytes
  pub each : IsEach (inner_in in_end) ws block.1

-- ---- the file

-- a record, or a block of records
pub data item_in (in_end : Bool) (ws : List WideRecord) (bytes : List ℕ) : Type 0 where
  AsRecord : (w : WideRecord) → w ∷ [] ≡ ws → inner_in in_end w bytes → item_in in_end ws bytes
  AsBlock : is_block_of in_end ws bytes → item_in in_end ws bytes

-- the records of all items, in their order
abbrev pub records_of : List (List WideRecord) → List WideRecord
records_of [] = []
records_of (ws ∷ items) = ws ++ records_of items

abbrev pub WideParts : Type 0
WideParts = WideStart × (List (List WideRecord) × WideEnd)

-- the magic and START, then items and END; START says where the table-offsets are
abbrev pub wide_file : WideParts → List ℕ → Type 0
wide_file = IsPair wide_head (λ start. IsPair (IsEach (item_in start.flag_in_end)) (λ _. end_in start.flag_in_end))

-- the bytes are a file with this START, these records and this END
pub record WideFileOf (start : WideStart) (ws : List WideRecord) (end : WideEnd) (bytes : List ℕ) : Type 0 where
  pub items : List (List WideRecord)
  pub all : records_of items ≡ ws
  pub spelled : wide_file (start, (items, end)) bytes

-- the bytes are a prefix of a file: the magic, START and these records
pub record WidePrefixOf (head : WideStart) (ws : List WideRecord) (bytes : List ℕ) : Type 0 where
  pub items : List (List WideRecord)
  pub all : records_of items ≡ ws
  pub spelled : IsPair wide_head (λ start. IsEach (item_in start.flag_in_end)) (head, items) bytes
