-- A sink that hashes: one more byte, and all of a layout's bytes.
use Rattle.std.proofs.Common.{◌≡◌, ℕ, List, [], ◌∷◌, ◌++◌, Result, Ok, Err, sym, append_assoc, append-nil, arith}
use Rattle.oas_checksum.specs.Hashing.{Holds256}
use Rattle.oas_num.specs.SinkFault.{SinkFault}
use Rattle.oas_num.specs.Writing.{Puts, Writes}
use Rattle.oas_judge.specs.Putting.{Counts}
use Rattle.oas_canon.specs.declared.hashing.Hasher.{Hasher}
use Rattle.oas_canon.specs.Hashing.{HasTaken, Hashes}
use Rattle.oas_canon.specs.Laws.HashingLaws.{Hashes-none}

-- nothing waits, and all was hashed
pub emptied : (old mid : Hasher) → mid.held ≡ 0 → ((m : List ℕ) → HasTaken old m → Holds256 mid.hasher m) → (m : List ℕ) → HasTaken old m → HasTaken mid m
emptied old mid none hashed m h = record { front = m; hashed = hashed m h; joined = rw none (sym (append-nil m)) }

-- one more byte, after what was taken so far
pub put_more : (old mid new : Hasher) (byte : ℕ) → ((m : List ℕ) → HasTaken old m → HasTaken mid m) → Hashes mid (byte ∷ []) new → Puts Hashes (λ _. 0) old (byte ∷ []) new
put_more old mid new byte keeps held = record {
  after = λ start before h m t. rw (← append_assoc) (held (m ++ before) (keeps (m ++ before) (h m t)));
  no_fewer = omega arith;
}

-- it has taken all, since it never fails
pub hashed : (start end : Hasher) (all : List ℕ) (r : Result ℕ SinkFault) → Counts Hashes (λ _. 0) start all r end → HasTaken start [] → HasTaken end all
hashed start end all (Ok n) p h = p.puts.after start [] (Hashes-none start) [] h
hashed start end all (Err fault) p h = absurd (omega (arith, p.failed))

-- so of any bytes
pub hashed_all : (start end : Hasher) (all : List ℕ) (r : Result Unit SinkFault) → Writes Hashes (λ _. 0) start all r end → HasTaken start [] → HasTaken end all
hashed_all start end all (Ok done) p h = p.after start [] (Hashes-none start) [] h
hashed_all start end all (Err fault) p h = absurd (omega (arith, p.failed))
