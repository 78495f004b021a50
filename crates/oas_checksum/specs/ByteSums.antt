-- CHECKSUM32 (SEMI P39, END record): the sum of the bytes, modulo 2^32.
use Rattle.std.specs.Prelude.{ℕ, ◌%◌, ◌^◌, List, sum}

abbrev pub checksum32 : List ℕ → ℕ
checksum32 bytes = sum bytes % 2 ^ 32
