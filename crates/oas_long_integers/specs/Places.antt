-- What is given for bytes that contain integers of more than ten bytes.
use Rattle.std.specs.Prelude.{ℕ, ◌+◌, ◌%◌, ◌==◌, if◌then◌else◌, List, [], ◌∷◌, Option, Some, None}
use Rattle.std.proofs.Math.Dec.{ltb}
use Rattle.oas_long_integers.specs.declared.places.Place.{Place}
use Rattle.oas_long_integers.specs.declared.places.Place.TheVariants.{Free, Groups, Tenth}

-- a tenth group and one after it: 127 is a tenth group of no integer below 2^64
abbrev pub joined : ℕ → ℕ → ℕ
joined group byte = if byte % 128 == 0 then group else 127

-- what is given for a byte there
abbrev pub given_by : Place → ℕ → Option ℕ
given_by Free byte = Some byte
given_by (Groups count) byte = if ltb byte 128 then Some byte else (if ltb count 9 then Some byte else None)
given_by (Tenth group) byte = if ltb byte 128 then Some (joined group byte) else None

-- the place of the byte after it
abbrev pub moved : Place → ℕ → Place
moved Free byte = Groups 0
moved (Groups count) byte = if ltb byte 128 then Groups 0 else (if ltb count 9 then Groups (count + 1) else Tenth (byte % 128))
moved (Tenth group) byte = if ltb byte 128 then Groups 0 else Tenth (joined group byte)

-- a byte, where there is one, and others
abbrev pub put : Option ℕ → List ℕ → List ℕ
put None bytes = bytes
put (Some byte) bytes = byte ∷ bytes

-- all that is given
abbrev pub shortened : Place → List ℕ → List ℕ
shortened place [] = []
shortened place (b ∷ bs) = put (given_by place b) (shortened (moved place b) bs)

-- the place of the byte after them
abbrev pub after : Place → List ℕ → Place
after place [] = place
after place (b ∷ bs) = after (moved place b) bs

-- nothing is held back
abbrev pub IsSettled : Place → Type 0
IsSettled (Tenth group) = ⊥
IsSettled _ = Unit {0}
