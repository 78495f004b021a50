-- What the latest record gave, in the words of the standard. Records are listed newest first.
use Rattle.std.specs.Prelude.{◌≡◌, List, [], ◌∷◌, ◌++◌, Option, None, Some, false, ◌↔◌}
use Rattle.oas_record.specs.declared.records.Record.{Record}
use Rattle.oas_drawing.specs.Looking.{is_cell, latest}

-- none of these records, after those, is a CELL, and none gives anything
abbrev pub Silent : {A : Type 0} → (Record → List Record → Option A) → List Record → List Record → Type 0
Silent gives [] those = Unit {0}
Silent gives (r ∷ rs) those = (is_cell r ≡ false) × (gives r (rs ++ those) ≡ None) × Silent gives rs those

-- one record gave x, is no CELL, and after it no record is a CELL or gives anything
pub record GaveLatest {A : Type 0} (gives : Record → List Record → Option A) (rs : List Record) (x : A) : Type 0 where
  pub after : List Record
  pub by : Record
  pub before : List Record
  pub split : rs ≡ after ++ by ∷ before
  pub gave : gives by before ≡ Some x
  pub no_cell : is_cell by ≡ false
  pub silent : Silent gives after (by ∷ before)

-- looking back for a value of the type finds what the latest record gave, and nothing else
abbrev pub FindsLatest : Type 0 → Type 0
FindsLatest A = (gives : Record → List Record → Option A) (rs : List Record) (x : A) → latest gives rs ≡ Some x ↔ GaveLatest gives rs x
