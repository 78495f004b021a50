-- What gathering the records of a file does.
use Rattle.std.specs.Prelude.{◌≡◌, ◌⊎◌, ℕ, Bool, ◌+◌, List, [], ◌∷◌, ◌++◌, length, None, Result, Ok, Err}
use Rattle.oas_num.specs.Reading.{ReadsValue}
use Rattle.oas_num.specs.Script.{Script, Consumed, IsAtEnd}
use Rattle.oas_narrow.specs.Stands.{ReaderState}
use Rattle.oas_narrow.specs.Stores.{Store}
use Rattle.oas_narrow.specs.WideEnd.{WideEnd}
use Rattle.oas_narrow.specs.WideStart.{WideStart}
use Rattle.oas_narrow.specs.WideRecord.{WideRecord}
use Rattle.oas_elements.specs.declared.limits.Limits.{Limits}
use Rattle.oas_narrow.specs.declared.dropping.Dropping.{Dropping}
use Rattle.oas_narrow.specs.declared.places.Place.TheVariants.{File}
use Rattle.oas_narrow.specs.declared.places.Rejection.{Rejection}
use Rattle.oas_narrow.specs.Preparable.{IsUnitOf, AllPrepared}
use Rattle.oas_narrow.specs.WideFiles.{WidePrefixOf, inner_in, end_in, head_in}
use Rattle.oas_narrow.specs.WideRecords.{FailsWide}
use Rattle.oas_prepare.specs.declared.gathering.Gathered.{Gathered}
use Rattle.oas_prepare.specs.declared.gathering.Next.{Next}
use Rattle.oas_prepare.specs.declared.gathering.Next.TheVariants.{Taken, End, Block}
use Rattle.oas_prepare.specs.Run.{Stops}
use Rattle.oas_prepare.specs.Taking.{State, Stands, SameRun, IsStop, obstacle_next}

-- ---- one record

-- neither a record nor END can be read
pub record FailsOne (in_end : Bool) (old : Script) (e : Rejection) (new : Script) : Type 0 where
  pub place : e.place ≡ File old.given
  pub fails : FailsWide in_end old e.why new

module _ {C : Type 0} where
  -- a record before END was read, and this is the result with it
  pub record HasTakenOne (t : Store C) (in_end : Bool) (old : Script) (first : State C) (new : Script) (p : State C) : Type 0 where
    pub next : WideRecord
    pub read : ReadsValue (inner_in in_end) old next new
    pub taken : (ws : List WideRecord) → Stands t first ws → (obstacle_next first.reader.limits first.dropping ws next ≡ None) × Stands t p (ws ++ next ∷ [])
    pub same : SameRun first p

  -- a record was read, and isn't prepared
  pub record StopsOne (t : Store C) (in_end : Bool) (old : Script) (first : State C) (e : Rejection) (new : Script) : Type 0 where
    pub next : WideRecord
    pub read : ReadsValue (inner_in in_end) old next new
    pub stopped : (ws : List WideRecord) → Stands t first ws → IsStop old.given first.reader.limits first.dropping ws next e

  -- the next record was taken, or END was read, or the head of a block; or it isn't prepared, or none of them can be read
  abbrev pub ConsumesNext : Store C → Bool → Script → State C → Result Next Rejection → Script → State C → Type 0
  ConsumesNext t in_end old first (Ok Taken) new p = HasTakenOne t in_end old first new p
  ConsumesNext t in_end old first (Ok (End end)) new p = ReadsValue (end_in in_end) old end new × (p ≡ first)
  ConsumesNext t in_end old first (Ok (Block head)) new p = ReadsValue (head_in in_end) old head new × (p ≡ first)
  ConsumesNext t in_end old first (Err e) new p = FailsOne in_end old e new ⊎ StopsOne t in_end old first e new

-- ---- all records

module _ {C : Type 0} where
  -- the head and some records were taken, and this is the result
  pub record HasGathered (t : Store C) (origin : Script) (start : WideStart) (first : State C) (now : Script) (p : State C) : Type 0 where
    pub records : List WideRecord
    pub bytes : List ℕ
    pub takes : Consumed origin bytes now
    pub front : WidePrefixOf start records bytes
    pub prepared : AllPrepared first.reader.limits first.dropping records
    pub stands : Stands t p records
    pub same : SameRun first p

  -- the head, all records and END were taken; END begins at that offset
  pub record HasAll (t : Store C) (origin : Script) (start : WideStart) (first : State C) (at : ℕ) (end : WideEnd) (now : Script) (p : State C) : Type 0 where
    pub records : List WideRecord
    pub bytes : List ℕ
    pub last : List ℕ
    pub takes : Consumed origin (bytes ++ last) now
    pub front : WidePrefixOf start records bytes
    pub ends : end_in start.flag_in_end end last
    pub place : at ≡ origin.given + length bytes
    pub prepared : AllPrepared first.reader.limits first.dropping records
    pub stands : Stands t p records
    pub same : SameRun first p

  abbrev pub Gathers : Store C → WideStart → Script → State C → Result (ℕ × WideEnd) Rejection → Script → State C → Type 0
  Gathers t start old first (Ok ended) new p = (origin : Script) → HasGathered t origin start first old first → HasAll t origin start first ended.0 ended.1 new p
  Gathers t start old first (Err e) new p = (origin : Script) → HasGathered t origin start first old first → Stops first.reader.limits first.dropping origin e new

-- ---- the whole file

module _ {C : Type 0} where
  -- all that the source gave is a file with these records, and this is the result; END begins at that offset
  pub record IsGathered (t : Store C) (limits : Limits) (dropping : Dropping) (old : Script) (g : Gathered (ReaderState C)) (new : Script) : Type 0 where
    pub start : WideStart
    pub records : List WideRecord
    pub bytes : List ℕ
    pub last : List ℕ
    pub takes : Consumed old (bytes ++ last) new
    pub ended : IsAtEnd new
    pub front : WidePrefixOf start records bytes
    pub ends : end_in start.flag_in_end g.end last
    pub place : g.at ≡ old.given + length bytes
    pub is_unit : IsUnitOf start.unit g.preparation.reader.unit
    pub prepared : AllPrepared limits dropping records
    pub stands : Stands t g.preparation records
    pub within : g.preparation.reader.limits ≡ limits

  abbrev pub GathersFile : Store C → Limits → Dropping → Script → Result (Gathered (ReaderState C)) Rejection → Script → Type 0
  GathersFile t limits dropping old (Ok g) new = IsGathered t limits dropping old g new
  GathersFile t limits dropping old (Err e) new = Stops limits dropping old e new
