-- The state after the records of a file, one after another.
use Rattle.std.specs.Prelude.{◌≡◌, ℕ, Option, None, Some, List, reverse, ◌⊎◌}
use Rattle.oas_num.specs.declared.refusals.Refusal.{Refusal}
use Rattle.oas_num.specs.declared.refusals.Why.{Why}
use Rattle.oas_num.specs.declared.refusals.Why.TheVariants.{Memory}
use Rattle.oas_elements.specs.declared.limits.Limits.{Limits}
use Rattle.oas_narrow.specs.Stands.{Represents, ReaderState}
use Rattle.oas_narrow.specs.Stores.{Store}
use Rattle.oas_narrow.specs.declared.dropping.Dropping.{Dropping}
use Rattle.oas_narrow.specs.WideWhy.{WideWhy}
use Rattle.oas_narrow.specs.WideWhy.TheVariants.{Profile}
use Rattle.oas_narrow.specs.declared.places.Place.TheVariants.{File}
use Rattle.oas_narrow.specs.declared.places.Rejection.{Rejection}
use Rattle.oas_narrow.specs.WideRecord.{WideRecord}
use Rattle.oas_narrow.specs.Narrowing.{narrowed, kept_of, is_open, report_of, obstacle_after}
use Rattle.oas_narrow.specs.Roles.{role_of, obstacle_by}
use Rattle.oas_prepare.specs.declared.taking.Preparation.{Preparation}

-- the state with a reader over stores of this kind
abbrev pub State : Type 0 → Type 0
State C = Preparation (ReaderState C)

module _ {C : Type 0} where
  -- it is the result of these records, oldest first
  pub record Stands (t : Store C) (p : State C) (ws : List WideRecord) : Type 0 where
    pub reader : Represents t p.reader (narrowed ws)
    pub resolver : p.resolver ≡ kept_of (reverse ws)
    pub in_cell : p.in_cell ≡ is_open (reverse ws)
    pub report : p.report ≡ report_of ws

  -- what is for the whole file stays
  pub record SameRun (old new : State C) : Type 0 where
    pub unit : new.reader.unit ≡ old.reader.unit
    pub limits : new.reader.limits ≡ old.reader.limits
    pub dropping : new.dropping ≡ old.dropping

-- why a record after these isn't prepared, oldest first
abbrev pub obstacle_next : Limits → Dropping → List WideRecord → WideRecord → Option WideWhy
obstacle_next limits dropping ws w = obstacle_after limits dropping (reverse ws) w

-- why it stops the file before any of its contents is checked: it isn't to be left out, or no cell is open
abbrev pub bar_next : Dropping → List WideRecord → WideRecord → Option WideWhy
bar_next dropping ws w = obstacle_by dropping (is_open (reverse ws)) (role_of w)

-- it isn't prepared for the first reason that holds, or out of memory, where its kind doesn't stop it
abbrev pub MayStop : Limits → Dropping → List WideRecord → WideRecord → WideWhy → Type 0
MayStop limits dropping ws w why = ((why ≡ Profile Memory) × (bar_next dropping ws w ≡ None)) ⊎ (obstacle_next limits dropping ws w ≡ Some why)

-- it stops at that offset, for this reason
pub record IsStop (at : ℕ) (limits : Limits) (dropping : Dropping) (ws : List WideRecord) (w : WideRecord) (rejection : Rejection) : Type 0 where
  pub place : rejection.place ≡ File at
  pub why : MayStop limits dropping ws w rejection.why

-- records at that offset are refused, for that reason or out of memory
pub record IsRefused (at : ℕ) (reason : Option Why) (refusal : Refusal) : Type 0 where
  pub place : refusal.at ≡ at
  pub why : (refusal.why ≡ Memory) ⊎ (reason ≡ Some refusal.why)
