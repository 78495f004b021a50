-- Where a file that isn't accepted is refused.
use Rattle.std.specs.Prelude.{◌≡◌, ◌≢◌, ℕ, ◌+◌, List, [], ◌∷◌, ◌++◌, length, ◌⊎◌}
use Rattle.oas_num.specs.Style.{Any}
use Rattle.oas_record.specs.declared.heads.Head.{Head}
use Rattle.oas_record.specs.declared.records.Record.{Record}
use Rattle.oas_record.specs.declared.records.Record.TheVariants.{End}
use Rattle.oas_record.specs.Heads.{magic, start_in}
use Rattle.oas_record.specs.Records.{record_in}
use Rattle.oas_elements.specs.declared.limits.Limits.{Limits}
use Rattle.oas_file.specs.Files.{PrefixOf}
use Rattle.oas_record.specs.Found.{NoneIsSpelled}
use Rattle.oas_file.specs.Acceptance.{Allowed, IsWhole, Accepted}

-- before the magic
pub record AtMagic (b : List ℕ) (at : ℕ) : Type 0 where
  pub place : at ≡ 0
  pub differs : (rest : List ℕ) → b ≢ magic ++ rest

-- after the magic, where no START follows
pub record AtStart (b : List ℕ) (at : ℕ) : Type 0 where
  pub left : List ℕ
  pub place : at ≡ 13
  pub joined : b ≡ magic ++ left
  pub none : NoneIsSpelled (start_in Any) left

-- before the place come the magic, START and records that are allowed, and this is all
pub record IsBefore (limits : Limits) (b left : List ℕ) (at : ℕ) (head : Head) (records : List Record) : Type 0 where
  pub before : List ℕ
  pub front : PrefixOf head records before
  pub allowed : Allowed limits records
  pub place : at ≡ length before
  pub joined : b ≡ before ++ left

-- a record by which they are still allowed
pub record IsNext (limits : Limits) (head : Head) (records : List Record) (r : Record) (bytes : List ℕ) : Type 0 where
  pub spelled : record_in Any head.flag_in_end r bytes
  pub allowed : Allowed limits (records ++ r ∷ [])

-- at a record: there is neither END nor one that is allowed
pub record AtRecord (limits : Limits) (b : List ℕ) (at : ℕ) : Type 0 where
  pub left : List ℕ
  pub head : Head
  pub records : List Record
  pub before : IsBefore limits b left at head records
  pub no_end : (front rest : List ℕ) → record_in Any head.flag_in_end End front → left ≢ front ++ rest
  pub no_record : NoneIsSpelled (IsNext limits head records) left

-- after END, where a byte follows
pub record AfterEnd (limits : Limits) (b : List ℕ) (at : ℕ) : Type 0 where
  pub left : List ℕ
  pub head : Head
  pub records : List Record
  pub start : ℕ
  pub before : IsBefore limits b left start head records
  pub last : List ℕ
  pub byte : ℕ
  pub rest : List ℕ
  pub end : record_in Any head.flag_in_end End last
  pub joined : left ≡ last ++ (byte ∷ rest)
  pub place : at ≡ start + length last

-- at END, with nothing after it, where it refuses the records
pub record AtEnd (limits : Limits) (b : List ℕ) (at : ℕ) : Type 0 where
  pub left : List ℕ
  pub head : Head
  pub records : List Record
  pub before : IsBefore limits b left at head records
  pub end : record_in Any head.flag_in_end End left
  pub torn : IsWhole limits records → ⊥

-- the one place at which it is refused
pub data RefusedAt (limits : Limits) (b : List ℕ) (at : ℕ) : Type 0 where
  ByMagic : AtMagic b at → RefusedAt limits b at
  ByStart : AtStart b at → RefusedAt limits b at
  ByRecord : AtRecord limits b at → RefusedAt limits b at
  AfterLast : AfterEnd limits b at → RefusedAt limits b at
  ByEnd : AtEnd limits b at → RefusedAt limits b at

-- a file is refused at most at one place
abbrev pub OnePlace : Type 0
OnePlace = (limits : Limits) (b : List ℕ) (p q : ℕ) → RefusedAt limits b p → RefusedAt limits b q → p ≡ q

-- and at none where it is accepted
abbrev pub NoPlace : Type 0
NoPlace = (limits : Limits) (b : List ℕ) (p : ℕ) → Accepted limits b → RefusedAt limits b p → ⊥

-- and at some place where it isn't
abbrev pub SomePlace : Type 0
SomePlace = (limits : Limits) (b : List ℕ) → Accepted limits b ⊎ ((p : ℕ) × RefusedAt limits b p)
