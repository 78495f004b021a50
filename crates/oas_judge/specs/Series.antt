-- Series of records that are at hand, and what taking one does.
use Rattle.std.specs.Prelude.{◌≡◌, ℕ, ◌+◌, ◌<◌, ◌≤◌, Bool, List, [], ◌∷◌, ◌++◌, map, length, sum_by, Option, None, Some, Result, Ok, Err}
use Rattle.std.specs.List.{AllByRecursion}
use Rattle.oas_num.specs.declared.refusals.Refusal.{Refusal}
use Rattle.oas_num.specs.Script.{Script}
use Rattle.oas_record.specs.declared.heads.Head.{Head}
use Rattle.oas_record.specs.declared.records.Record.{Record}
use Rattle.oas_record.specs.Records.{id_of}
use Rattle.oas_peek.specs.declared.figures.PeekedFigure.{PeekedFigure}
use Rattle.oas_peek.specs.declared.named.Given.TheVariants.{Bytes}
use Rattle.oas_peek.specs.declared.named.NamedOnce.{NamedOnce}
use Rattle.oas_peek.specs.declared.named.NamedOnce.TheVariants as once
use Rattle.oas_elements.specs.declared.element.Element.{Element}
use Rattle.oas_elements.specs.declared.limits.Limits.{Limits}
use Rattle.oas_elements.specs.declared.profile.Profile.{Profile}
use Rattle.oas_elements.specs.Element.{kind}
use Rattle.oas_elements.specs.Weight.{weight_of}
use Rattle.oas_writing.specs.Gathering.{inner_in}
use Rattle.oas_writing.specs.Judging.{Entry, entry_bytes}
use Rattle.oas_writing.specs.Records.{element_record}
use Rattle.oas_writing.specs.Stores.{Store}
use Rattle.oas_writing.specs.Stands.{ReaderState}
use Rattle.oas_judge.specs.declared.judge.FileJudge.{FileJudge}
use Rattle.oas_judge.specs.declared.series.Series.{Series}
use Rattle.oas_judge.specs.declared.parts.Part.{Part}
use Rattle.oas_judge.specs.declared.parts.Part.TheVariants.{Judged}
use Rattle.oas_judge.specs.Candidates.{IsDrawable}
use Rattle.oas_judge.specs.FileJudges.{IsJudging, AreEntries, GoesOnTaking}
use Rattle.oas_judge.specs.Judged.{HasBegun, HasSeen}
use Rattle.oas_judge.specs.Parts.{MayWant, SeesRefused, JudgesPart, StopsAt}

-- ---- a record of a series

-- it is the canonical record of an element that some limits allow, and the judge represents it too
pub record SeesElement (known : List ℕ) (old : FileJudge) (r : Record) (new : FileJudge) : Type 0 where
  pub element : Element
  pub is : element_record element ≡ r
  pub fit : IsDrawable element
  pub taking : GoesOnTaking known old r new

-- the weight of the element whose record it is
abbrev pub WeighsAs : Record → ℕ → Type 0
WeighsAs r weight = (e : Element) → element_record e ≡ r → weight_of e ≡ weight

-- the weight of a placement or a text that gives its name by the bytes of it
abbrev pub weight_given : NamedOnce → Option ℕ
weight_given (once.Placement (Bytes name) quarters flip x y) = Some (1 + length name.now)
weight_given (once.Text (Bytes string) textlayer texttype x y) = Some (1 + length string.now)
weight_given _ = None

-- the record of a polygon or a path at hand
abbrev pub figure_record : PeekedFigure → Record
figure_record ahead = ahead.record

-- it has the id of the one before it, if there is one
abbrev pub IsLike : Option Record → Record → Type 0
IsLike None r = Unit {0}
IsLike (Some last) r = id_of last ≡ id_of r

-- ---- a series

-- an element, and the bytes of its record
abbrev pub Item : Type 0
Item = Element × List ℕ

abbrev pub item_entries : List Item → List Entry
item_entries items = map (λ i. (element_record i.0, i.1)) items

abbrev pub item_elements : List Item → List Element
item_elements items = map (λ i. i.0) items

pub record IsItem (i : Item) : Type 0 where
  pub fit : IsDrawable i.0
  pub spelled : (in_end : Bool) → inner_in in_end (element_record i.0) i.1

-- the judge represents these entries too, where they are accepted
abbrev pub GoesOnOver : FileJudge → List Entry → FileJudge → Type 0
GoesOnOver old entries new = (limits : Limits) (profile : Profile) (head : Head) (start : List ℕ) (before : List Entry) →
    AreEntries limits head (before ++ entries) → IsJudging profile old head start before → IsJudging profile new head start (before ++ entries)

-- the bytes begin with these records, for which there is room, and the judge represents them too
pub record HasSeries (all : List ℕ) (most heaviest : ℕ) (old : FileJudge) (series : Series) (items : List Item) (new : FileJudge) : Type 0 where
  pub each : AllByRecursion IsItem items
  pub rest : List ℕ
  pub joined : all ≡ entry_bytes (item_entries items) ++ rest
  pub length_is : series.length ≡ length (entry_bytes (item_entries items))
  pub count_is : series.count ≡ length items
  pub weight_is : series.weight ≡ sum_by weight_of (item_elements items)
  pub few : series.count ≤ most
  pub light : series.weight ≤ heaviest
  pub goes_on : GoesOnOver old (item_entries items) new

-- they are records of one kind, and this is the last
pub record EndsSeries (all : List ℕ) (most heaviest : ℕ) (old : FileJudge) (last : Record) (series : Series) (new : FileJudge) : Type 0 where
  pub front : List Item
  pub final : Item
  pub has : HasSeries all most heaviest old series (front ++ final ∷ []) new
  pub is : element_record final.0 ≡ last
  pub last_is : series.last ≡ length final.1
  pub alike : AllByRecursion (λ i. kind i.0 ≡ kind final.0) front

-- or there is none
pub record IsNoSeries (old : FileJudge) (series : Series) (new : FileJudge) : Type 0 where
  pub series_is : series ≡ record { count = 0; weight = 0; length = 0; last = 0 }
  pub same : new ≡ old

abbrev pub SeriesSoFar : List ℕ → ℕ → ℕ → FileJudge → Option Record → Series → FileJudge → Type 0
SeriesSoFar all most heaviest old None series new = IsNoSeries old series new
SeriesSoFar all most heaviest old (Some last) series new = EndsSeries all most heaviest old last series new

-- ---- one series, in a read that has seen some entries

module _ {C : Type 0} where
  -- it is some more entries; memory may have run out for the last of them, at that offset
  abbrev pub SeesMany : Store C → Head → Script → ReaderState C → FileJudge → ℕ → Script → ReaderState C → FileJudge → Type 0
  SeesMany t head old s j at new s' j' = (profile : Profile) (now : Script) (first : ReaderState C) (judge : FileJudge) (b : HasBegun t profile head now first judge)
      → HasSeen t profile head b.begun.start b.origin first old s j → HasSeen t profile head b.begun.start b.origin first new s' j' × MayWant first.limits b.origin at new

  -- it was taken, and its last record begins at that offset; or nothing was done
  abbrev pub JudgesSeries : Store C → Head → Script → ReaderState C → FileJudge → Result (Option ℕ) Refusal → Script → ReaderState C → FileJudge → Type 0
  JudgesSeries t head old s j (Ok (Some at)) new s' j' = (old.given < new.given) × SeesMany t head old s j at new s' j'
  JudgesSeries t head old s j (Ok None) new s' j' = (new ≡ old) × (s' ≡ s) × (j' ≡ j)
  JudgesSeries t head old s j (Err refusal) new s' j' = SeesRefused t head old s j refusal new

  -- a series or one part was taken; its last part begins at that offset
  abbrev pub JudgesNext : Store C → Head → Script → ReaderState C → FileJudge → Result (Part × ℕ) Refusal → Script → ReaderState C → FileJudge → Type 0
  JudgesNext t head old s j (Ok (Judged, at)) new s' j' = (old.given < new.given) × SeesMany t head old s j at new s' j'
  JudgesNext t head old s j (Ok (part, at)) new s' j' = (at ≡ old.given) × JudgesPart t head old s j (Ok part) new s' j'
  JudgesNext t head old s j (Err refusal) new s' j' = SeesRefused t head old s j refusal new

-- ---- all parts, in a read that has seen some entries

module _ {C : Type 0} where
  -- what was taken last, at that offset
  abbrev pub JudgesRest : Store C → Head → Script → ReaderState C → FileJudge → Result (Part × ℕ) Refusal → Script → ReaderState C → FileJudge → Type 0
  JudgesRest t head old s j (Ok stop) new s' j' = (profile : Profile) (now : Script) (first : ReaderState C) (judge : FileJudge) (b : HasBegun t profile head now first judge)
      → HasSeen t profile head b.begun.start b.origin first old s j → StopsAt t profile head first b stop.0 stop.1 new s' j'
  JudgesRest t head old s j (Err refusal) new s' j' = SeesRefused t head old s j refusal new

  -- or more entries alone
  abbrev pub JudgesAllSeries : Store C → Head → Script → ReaderState C → FileJudge → Result (Option (Part × ℕ)) Refusal → Script → ReaderState C → FileJudge → Type 0
  JudgesAllSeries t head old s j (Ok (Some stop)) new s' j' = JudgesRest t head old s j (Ok stop) new s' j'
  JudgesAllSeries t head old s j (Ok None) new s' j' = (profile : Profile) (now : Script) (first : ReaderState C) (judge : FileJudge) (b : HasBegun t profile head now first judge)
      → HasSeen t profile head b.begun.start b.origin first old s j → HasSeen t profile head b.begun.start b.origin first new s' j'
  JudgesAllSeries t head old s j (Err refusal) new s' j' = SeesRefused t head old s j refusal new
