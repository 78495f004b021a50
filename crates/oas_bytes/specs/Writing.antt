-- What is put into a sink.
use Rattle.std.specs.Prelude.{◌≡◌, ℕ, ◌<◌, ◌≤◌, List, ◌++◌, Result, Ok, Err}
use Rattle.oas_bytes.specs.declared.sinks.SinkFault.{SinkFault}

-- all of the bytes were put: whatever the sink was given up to old, it was given up to new, followed by these bytes
pub record Puts {K : Type 0} (given : K → List ℕ → K → Type 0) (failures : K → ℕ) (old : K) (bytes : List ℕ) (new : K) : Type 0 where
  pub after : (start : K) (before : List ℕ) → given start before old → given start (before ++ bytes) new
  pub no_fewer : failures old ≤ failures new

-- the sink has failed, and a prefix of the bytes was put
pub record PutsPrefix {K : Type 0} (given : K → List ℕ → K → Type 0) (failures : K → ℕ) (old : K) (bytes : List ℕ) (new : K) : Type 0 where
  pub front : List ℕ
  pub back : List ℕ
  pub joined : bytes ≡ front ++ back
  pub puts : Puts given failures old front new
  pub failed : 0 < failures new

-- the bytes were put, or after a fault a prefix of them
abbrev pub Writes : {K : Type 0} → (K → List ℕ → K → Type 0) → (K → ℕ) → K → List ℕ → Result Unit SinkFault → K → Type 0
Writes given failures old bytes (Ok done) new = Puts given failures old bytes new
Writes given failures old bytes (Err fault) new = PutsPrefix given failures old bytes new
