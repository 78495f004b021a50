-- What the writer puts, and counts.
use Rattle.std.specs.Prelude.{◌≡◌, ℕ, List, length, Result, Ok, Err}
use Rattle.oas_num.specs.SinkFault.{SinkFault}
use Rattle.oas_num.specs.Writing.{Puts, PutsPrefix}

-- all of the bytes were put, and there are this many
pub record PutsAll {K : Type 0} (given : K → List ℕ → K → Type 0) (failures : K → ℕ) (old : K) (bytes : List ℕ) (count : ℕ) (new : K) : Type 0 where
  pub puts : Puts given failures old bytes new
  pub count_is : count ≡ length bytes

-- all of the bytes were put and counted, or the sink has failed, and a prefix of them was put
abbrev pub Counts : {K : Type 0} → (K → List ℕ → K → Type 0) → (K → ℕ) → K → List ℕ → Result ℕ SinkFault → K → Type 0
Counts given failures old bytes (Ok count) new = PutsAll given failures old bytes count new
Counts given failures old bytes (Err fault) new = PutsPrefix given failures old bytes new
