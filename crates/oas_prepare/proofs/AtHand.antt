-- A record of the profile at hand is that record of the standard.
use Rattle.std.specs.Prelude.{take, Bool, List}
use Rattle.std.proofs.Common.{◌≡◌, ℕ, refl, subst}
use Rattle.oas_num.specs.Reading.{ReadsValue}
use Rattle.oas_num.specs.Script.{Script, Consumed}
use Rattle.oas_num.specs.Style.{Any}
use Rattle.oas_record.specs.declared.records.Record.{Record}
use Rattle.oas_record.specs.declared.records.Record.TheVariants.{Rectangle, Polygon, Path}
use Rattle.oas_record.specs.Records.{record_in}
use Rattle.oas_peek.specs.declared.figures.PeekedFigure.{PeekedFigure}
use Rattle.oas_peek.specs.declared.named.NamedOnce.{NamedOnce}
use Rattle.oas_peek.specs.declared.named.NamedOnce.TheVariants as once
use Rattle.oas_peek.specs.declared.named.PeekedNamed.{PeekedNamed}
use Rattle.oas_peek.specs.declared.rectangles.PeekedRectangle.{PeekedRectangle}
use Rattle.oas_peek.specs.Figures.{IsFigure, IsPeekedFigure}
use Rattle.oas_peek.specs.Named.{IsPeekedNamed, named_record}
use Rattle.oas_peek.specs.Peeked.{IsPeeked}
use Rattle.oas_narrow.specs.Stores.{Store}
use Rattle.oas_narrow.specs.WideFiles.{inner_in, IsInner}
use Rattle.oas_narrow.specs.WideRecord.{WideRecord}
use Rattle.oas_narrow.specs.WideRecord.TheVariants.{Profile}
use Rattle.oas_narrow.specs.WideRecords.{wide_record_in, widened}
use Rattle.oas_narrow.specs.declared.places.Rejection.{Rejection}
use Rattle.oas_narrow.proofs.WidenedLemmas.{widen}
use Rattle.oas_prepare.specs.Gathering.{StopsOne}
use Rattle.oas_prepare.specs.Taking.{State, Stands, IsStop}

-- ---- records that are none of the standard's own

pub plain_inner : (r : Record) → IsInner (Profile r)
plain_inner r = record { no_end = λ end e. cc; no_block = λ head e. cc }

as_inner : (r : Record) (bytes : List ℕ) → widened r ≡ Profile r → ((in_end : Bool) → record_in Any in_end r bytes) → (in_end : Bool) → inner_in in_end (Profile r) bytes
as_inner r bytes is h in_end = record {
  holds = plain_inner r;
  spelled = subst (λ (w : WideRecord). wide_record_in in_end w bytes) is (widen in_end r bytes (h in_end));
}

named_kept : (next : NamedOnce) → widened (named_record next) ≡ Profile (named_record next)
named_kept (once.Placement c quarters flip x y) = refl
named_kept (once.Text s textlayer texttype x y) = refl

figure_kept : (r : Record) → IsFigure r → widened r ≡ Profile r
figure_kept (Polygon p) h = refl
figure_kept (Path p) h = refl
figure_kept _ h = absurd h

-- ---- each is read by taking its bytes

pub rectangle_read : {old new : Script} {bytes : List ℕ} {ahead : PeekedRectangle} (in_end : Bool) → IsPeeked bytes ahead → Consumed old (take ahead.length bytes) new → ReadsValue (inner_in in_end) old (Profile (Rectangle ahead.rectangle)) new
rectangle_read {bytes = bytes} {ahead = ahead} in_end is takes = record {
  bytes = take ahead.length bytes;
  takes = takes;
  spelled = as_inner (Rectangle ahead.rectangle) (take ahead.length bytes) refl is.spelled in_end;
}

pub named_read : {old new : Script} {bytes : List ℕ} {ahead : PeekedNamed} (in_end : Bool) → IsPeekedNamed bytes ahead → Consumed old (take ahead.length bytes) new → ReadsValue (inner_in in_end) old (Profile (named_record ahead.element)) new
named_read {bytes = bytes} {ahead = ahead} in_end is takes = record {
  bytes = take ahead.length bytes;
  takes = takes;
  spelled = as_inner (named_record ahead.element) (take ahead.length bytes) (named_kept ahead.element) is.spelled in_end;
}

pub figure_read : {old new : Script} {bytes : List ℕ} {ahead : PeekedFigure} (in_end : Bool) → IsPeekedFigure bytes ahead → Consumed old (take ahead.length bytes) new → ReadsValue (inner_in in_end) old (Profile ahead.record) new
figure_read {bytes = bytes} {ahead = ahead} in_end is takes = record {
  bytes = take ahead.length bytes;
  takes = takes;
  spelled = as_inner ahead.record (take ahead.length bytes) (figure_kept ahead.record is.figure) is.spelled in_end;
}

-- ---- so is another record before END

pub inner_read : {old new : Script} {in_end : Bool} {w : WideRecord} → IsInner w → ReadsValue (wide_record_in in_end) old w new → ReadsValue (inner_in in_end) old w new
inner_read inner read = record { bytes = read.bytes; takes = read.takes; spelled = record { holds = inner; spelled = read.spelled } }

-- ---- and then it isn't prepared

pub stops_one : {C : Type 0} {t : Store C} {old new : Script} {in_end : Bool} {first : State C} {at : ℕ} {w : WideRecord} {e : Rejection} → at ≡ old.given → ReadsValue (inner_in in_end) old w new
    → ((ws : List WideRecord) → Stands t first ws → IsStop at first.reader.limits first.dropping ws w e) → StopsOne t in_end old first e new
stops_one {first = first} {w = w} {e = e} is read stopped = record {
  next = w;
  read = read;
  stopped = λ ws s. subst (λ (n : ℕ). IsStop n first.reader.limits first.dropping ws w e) is (stopped ws s);
}
