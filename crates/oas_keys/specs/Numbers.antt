-- Numbers as bytes that are ordered as the numbers are (own rule). The numbers are divided into classes, ascending. A number
-- is a first byte, which gives its class and the highest part of its place in the class, and as many more bytes as its class
-- has, which are the rest of its place, highest first.
use Rattle.std.specs.Prelude.{ℕ, zero, suc, ◌+◌, ◌-◌, ◌*◌, ◌/◌, ◌%◌, ◌^◌, ◌≤◌, nat_lt, cond, ℤ, pos, negsuc, ◌≤ℤ◌, ◌+ℤ◌, unsigned_abs, List, [], ◌∷◌}
use Rattle.oas_keys.specs.declared.classes.Class.{Class}

-- this many numbers have a byte of their own
abbrev pub single : ℕ → Class
single size = record { size = size; firsts = size; more = 0 }

-- as many numbers as the first bytes leave room for
abbrev pub full : ℕ → ℕ → Class
full firsts more = record { size = firsts * 2 ^ (8 * more); firsts = firsts; more = more }

-- this many of the lowest digits to base 256, highest first
abbrev pub digits : ℕ → ℕ → List ℕ
digits zero n = []
digits (suc k) n = (n / 2 ^ (8 * k)) ∷ digits k (n % 2 ^ (8 * k))

-- The number at a place counted from where these classes begin, whose first bytes begin at `first`. After the last class come
-- the numbers of one more first byte, with eight bytes after it.
abbrev pub number_in : List Class → ℕ → ℕ → List ℕ
number_in [] first n = first ∷ digits 8 n
number_in (c ∷ cs) first n = cond (nat_lt n c.size) ((first + n / 2 ^ (8 * c.more)) ∷ digits c.more (n % 2 ^ (8 * c.more))) (number_in cs (first + c.firsts) (n - c.size))

-- a class has no more numbers than its bytes can distinguish, and at most eight bytes after the first
abbrev pub AreClasses : List Class → Type 0
AreClasses [] = Unit {0}
AreClasses (c ∷ cs) = (c.size ≤ c.firsts * 2 ^ (8 * c.more)) × ((c.more ≤ 8) × AreClasses cs)

-- how many first bytes the classes have
abbrev pub firsts_of : List Class → ℕ
firsts_of [] = 0
firsts_of (c ∷ cs) = c.firsts + firsts_of cs

-- how many numbers the classes have, with those after the last
abbrev pub room : List Class → ℕ
room [] = 2 ^ 64
room (c ∷ cs) = c.size + room cs

-- the first byte of a number
abbrev pub first_of : List Class → ℕ → ℕ → ℕ
first_of [] first n = first
first_of (c ∷ cs) first n = cond (nat_lt n c.size) (first + n / 2 ^ (8 * c.more)) (first_of cs (first + c.firsts) (n - c.size))

-- what follows it
abbrev pub more_of : List Class → ℕ → List ℕ
more_of [] n = digits 8 n
more_of (c ∷ cs) n = cond (nat_lt n c.size) (digits c.more (n % 2 ^ (8 * c.more))) (more_of cs (n - c.size))

-- the classes of unsigned numbers
abbrev pub unsigned_classes : List Class
unsigned_classes = single 128 ∷ full 64 1 ∷ full 32 2 ∷ full 16 3 ∷ full 13 4 ∷ []

-- those of signed ones: below 0, around it, and above
abbrev pub signed_classes : List Class
signed_classes =
    record { size = 2 ^ 62; firsts = 1; more = 8 }
    ∷ full 7 4 ∷ full 16 3 ∷ full 32 2 ∷ full 40 1
    ∷ single 63
    ∷ full 40 1 ∷ full 32 2 ∷ full 16 3 ∷ full 7 4 ∷ []

-- how far 0 is from the first number that has a class
abbrev pub signed_start : ℕ
signed_start = 2 ^ 62 + 7 * 2 ^ 32 + 16 * 2 ^ 24 + 32 * 2 ^ 16 + 40 * 2 ^ 8 + 31

-- an unsigned number; no byte begins one that is 0
unfoldable pub unsigned_key : ℕ → List ℕ
unsigned_key n = number_in unsigned_classes 1 n

-- the place of a signed number
abbrev pub place : ℤ → ℕ
place x = unsigned_abs (x +ℤ pos signed_start)

-- a signed one
unfoldable pub signed_key : ℤ → List ℕ
signed_key x = number_in signed_classes 1 (place x)

-- the signed numbers that are written: those between two coordinates
pub record IsStep (x : ℤ) : Type 0 where
  pub above : negsuc (2 ^ 61) ≤ℤ x
  pub below : x ≤ℤ pos (2 ^ 61)
