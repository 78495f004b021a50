-- Saved keys: whether a file still has its key.
use Rattle.std.specs.Prelude.{◌≡◌, ◌↔◌, ℕ, Bool, List, Result, Ok, Err, IsTrue}
use Rattle.hex.specs.Hex.{encode_lower}
use Rattle.oas_num.specs.declared.refusals.Refusal.{Refusal}

-- For a key that was found, yes where its hex digits are those that were saved; where none was found, why.
abbrev pub Agrees : List ℕ → Result (List ℕ) Refusal → Result Bool Refusal → Type 0
Agrees kept (Ok digest) (Ok same) = IsTrue same ↔ (kept ≡ encode_lower digest)
Agrees kept (Ok digest) (Err refusal) = Ok digest ≡ Err refusal
Agrees kept (Err refusal) same = same ≡ Err refusal
