-- A file that was read, and whether it is the canonical file that it is prepared to.
use Rattle.std.specs.Prelude.{◌↔◌}
use Rattle.std.proofs.Common.{◌≡◌, ℕ, ◌-◌, Bool, List, ◌++◌, length, IsTrue, Ok, Err, inl, refl, sym, ap, ◌∙◌, arith}
use Rattle.std.proofs.lemmas.List.{length-append}
use Rattle.oas_num.specs.declared.refusals.Why.TheVariants.{Memory}
use Rattle.oas_num.specs.Script.{Script, Consumed}
use Rattle.oas_num.proofs.PrefixLemmas.{file_before, file_front, file_joined}
use Rattle.oas_num.proofs.ReadLemmas.{Consumed-one}
use Rattle.oas_num.proofs.RefusingLemmas.{ForMemory, judged_refused}
use Rattle.oas_elements.specs.declared.limits.Limits.{Limits}
use Rattle.oas_elements.specs.Contents.{Contents, meaning_of}
use Rattle.oas_explain.specs.ProfileConstants.{PROFILE}
use Rattle.oas_explain.specs.Bytes.{canonical_bytes}
use Rattle.oas_prepare.specs.WideEnd.{WideEnd}
use Rattle.oas_prepare.specs.WideStart.{WideStart}
use Rattle.oas_prepare.specs.WideRecord.{WideRecord}
use Rattle.oas_prepare.specs.NarrowDropping.{Dropping}
use Rattle.oas_prepare.specs.Report.{Report}
use Rattle.oas_prepare.specs.Rejection.{Rejection}
use Rattle.oas_prepare.specs.WideFiles.{WideFileOf, WidePrefixOf, end_in}
use Rattle.oas_prepare.specs.Finishing.{IsReadPrepared}
use Rattle.oas_prepare.specs.Reasons.{Torn, TheWhole, IsReasoned}
use Rattle.oas_prepare.specs.Run.{Stops}
use Rattle.oas_prepare.proofs.Fronts.{parts as of_file}
use Rattle.oas_prepare.proofs.Refusing.{memory_placed}
use Rattle.oas_prepare.proofs.Whole.{taken, exactly_done, exactly_stopped}
use Rattle.oas_preparing.specs.Checks.{ChecksPrepared, unkept}
use Rattle.oas_preparing.proofs.EndLemmas.{end_length}

-- ---- a whole file

-- what comes before END, and END
record Parts (start : WideStart) (ws : List WideRecord) (end : WideEnd) (bytes : List ℕ) : Type 0 where
  before : List ℕ
  last : List ℕ
  front : WidePrefixOf start ws before
  ends : end_in start.flag_in_end end last
  joined : bytes ≡ before ++ last

parts_of : {start : WideStart} {ws : List WideRecord} {end : WideEnd} {bytes : List ℕ} → WideFileOf start ws end bytes → Parts start ws end bytes
parts_of f = record {
  before = file_before of_file f.spelled;
  last = f.spelled.second.back;
  front = record { items = f.items; all = f.all; spelled = file_front of_file f.spelled };
  ends = f.spelled.second.second;
  joined = file_joined of_file f.spelled;
}

-- ---- what was found

module _ {limits : Limits} {dropping : Dropping} {old new : Script} where
  pub unchecked : (e : Rejection) → Stops limits dropping old e new → ChecksPrepared limits dropping old (Err e) new
  unchecked e stops = record { checked = tt; stopped = stops; exactly = exactly_stopped e stops.0 }

  module _ {l : Contents} {report : Report} (read : IsReadPrepared limits PROFILE dropping old l report new) where
    pub checked : (bytes : List ℕ) → Consumed old bytes new → (answer : Bool) → (IsTrue answer ↔ (canonical_bytes (meaning_of l) ≡ bytes)) →
        ChecksPrepared limits dropping old (Ok (answer, report)) new
    checked bytes kept answer is =
        let same = Consumed-one kept (taken read).takes in
        record {
          checked = record { canonical = canonical_bytes (meaning_of l); taken = taken read; equal = (λ yes. sym (is.0 yes ∙ same), λ e. is.1 (sym (same ∙ e))) };
          stopped = tt;
          exactly = exactly_done read;
        }

    -- it was not kept
    pub not_kept : ChecksPrepared limits dropping old (Err (unkept new.given)) new
    not_kept = unchecked e (judged_refused read.takes (ForMemory refl), memory_placed e read.bytes read.takes tt refl, reasoned) where
      e : Rejection
      e = unkept new.given

      parts : Parts read.formed.start read.formed.records read.formed.end read.bytes
      parts = parts_of read.formed.file

      place : old.given ≡ 0 → new.given - 256 ≡ length parts.before
      place fresh =
          omega (arith, fresh, read.takes.given, ap length parts.joined, length-append parts.before parts.last, end_length read.formed.start.flag_in_end read.formed.end parts.last parts.ends)

      reasoned : IsReasoned limits dropping old e new
      reasoned = record {
        bytes = read.bytes;
        takes = read.takes;
        decided = λ fresh. TheWhole (record {
          left = parts.last;
          start = read.formed.start;
          records = read.formed.records;
          before = record { before = parts.before; front = parts.front; prepared = read.formed.prepared; place = place fresh; joined = parts.joined };
          end = read.formed.end;
          ends = parts.ends;
          ended = read.ended;
          is = Torn Memory refl read.valid (inl refl);
        });
      }
