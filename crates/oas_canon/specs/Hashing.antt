-- What a sink that hashes was given.
use Rattle.std.specs.Prelude.{◌≡◌, ℕ, List, ◌++◌, take}
use Rattle.oas_checksum.specs.Hashing.{Holds256}
use Rattle.oas_canon.specs.declared.hashing.Hasher.{Hasher}

-- this message so far: what was hashed of it, and then what the window holds
pub record HasTaken (s : Hasher) (m : List ℕ) : Type 0 where
  pub front : List ℕ
  pub hashed : Holds256 s.hasher front
  pub joined : m ≡ front ++ take s.held s.window

-- between two of its states it was given these bytes
abbrev pub Hashes : Hasher → List ℕ → Hasher → Type 0
Hashes start bytes now = (m : List ℕ) → HasTaken start m → HasTaken now (m ++ bytes)
