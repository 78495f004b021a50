-- Bytes that are put into room, as far as they fit.
use Rattle.std.specs.Prelude.{◌≡◌, ℕ, ◌<◌, ◌≤◌, List, ◌++◌, length, take, drop, nat_lt, if◌then◌else◌}
use Rattle.oascanon_c.specs.declared.answers.Answer.{Answer}
use Rattle.oascanon_c.specs.declared.answers.Answer.TheVariants.{Done, TooSmall}

-- as many of the bytes as fit, and then what stood there before
abbrev pub filled_with : List ℕ → List ℕ → List ℕ
filled_with start bytes = take (length start) bytes ++ drop (length bytes) start

-- what is told of an output of so many bytes that is put into the room
abbrev pub answer_of : ℕ → List ℕ → Answer
answer_of n room = if nat_lt (length room) n then TooSmall n else Done n

-- An output and its length: all of it stands at the start of the room, and what is behind it as before; or it is longer, and
-- as much of it stands there as fits.
abbrev pub Puts : List ℕ → List ℕ → Answer → List ℕ → Type 0
Puts output old (Done n) new = (n ≡ length output) × (length output ≤ length old) × (new ≡ filled_with old output)
Puts output old (TooSmall n) new = (n ≡ length output) × (length old < length output) × (new ≡ filled_with old output)
Puts output old _ new = ⊥
