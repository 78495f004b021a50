-- How keys with counts are laid out in a block of bytes.
use Rattle.std.specs.Prelude.{◌≡◌, ℕ, ◌+◌, ◌-◌, ◌<◌, ◌^◌, List, [], ◌∷◌, ◌++◌, length, take, drop, cond, nat_lt, slice_index, zero, suc}
use Rattle.std.specs.Int.{w64, to_le_bytes, from_le_bytes}
use Rattle.std.specs.Borrow.{Bor}
use Rattle.std.specs.List.{AllByRecursion}

-- a key and how often it is there
abbrev pub Entry : Type 0
Entry = List ℕ × ℕ

-- a number below 255 is one byte; another is 255 and eight bytes, the low ones first
abbrev pub number_bytes : ℕ → List ℕ
number_bytes n = cond (nat_lt n 255) (n ∷ []) (255 ∷ to_le_bytes w64 n)

-- the length of the key, the count, and the key
abbrev pub entry_bytes : Entry → List ℕ
entry_bytes p = number_bytes (length p.0) ++ number_bytes p.1 ++ p.0

-- entries, one after another
abbrev pub block_bytes : List Entry → List ℕ
block_bytes [] = []
block_bytes (p ∷ ps) = entry_bytes p ++ block_bytes ps

-- what can be written like this
abbrev pub Fits : Entry → Type 0
Fits p = (length p.0 < 2 ^ 64) × (p.1 < 2 ^ 64)

-- the first number, and how many bytes it takes
abbrev pub number_at : List ℕ → ℕ
number_at bytes = cond (nat_lt (slice_index bytes 0) 255) (slice_index bytes 0) (from_le_bytes w64 (take 8 (drop 1 bytes)))

abbrev pub number_size : List ℕ → ℕ
number_size bytes = cond (nat_lt (slice_index bytes 0) 255) 1 9

-- where the key of the first entry begins, and where the entry ends
abbrev pub key_start : List ℕ → ℕ
key_start bytes = number_size bytes + number_size (drop (number_size bytes) bytes)

abbrev pub entry_end : List ℕ → ℕ
entry_end bytes = key_start bytes + number_at bytes

-- the first entry
abbrev pub entry_at : List ℕ → Entry
entry_at bytes = (take (number_at bytes) (drop (key_start bytes) bytes), number_at (drop (number_size bytes) bytes))

-- the entries after this many bytes
abbrev pub entries_after : ℕ → List ℕ → List Entry
entries_after skipped [] = []
entries_after zero (b ∷ bytes) = entry_at (b ∷ bytes) ∷ entries_after (entry_end (b ∷ bytes) - 1) bytes
entries_after (suc skipped) (b ∷ bytes) = entries_after skipped bytes

-- the entries of a block
abbrev pub entries : List ℕ → List Entry
entries bytes = entries_after 0 bytes

-- bytes that are entries and nothing else
pub record IsBlock (bytes : List ℕ) : Type 0 where
  pub fits : AllByRecursion Fits (entries bytes)
  pub is : bytes ≡ block_bytes (entries bytes)

-- a key and its count, as an iterator gives them
abbrev pub key_and_count : Bor (List ℕ) × ℕ → Entry
key_and_count p = (p.0.now, p.1)

-- there is a first entry, and it has this many bytes
abbrev pub FirstHas : ℕ → List Entry → Type 0
FirstHas n [] = ⊥
FirstHas n (p ∷ ps) = n ≡ length (entry_bytes p)

-- all but the last
abbrev pub but_last : List Entry → List Entry
but_last [] = []
but_last (p ∷ []) = []
but_last (p ∷ q ∷ ps) = p ∷ but_last (q ∷ ps)

-- the last entry begins after this many bytes
abbrev pub LastBegins : ℕ → List Entry → Type 0
LastBegins at es = at ≡ length (block_bytes (but_last es))
