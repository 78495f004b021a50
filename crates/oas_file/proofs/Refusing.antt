-- What a refusal says, from where the bytes go wrong.
use Rattle.std.proofs.Common.{◌≡◌, ℕ, List, [], ◌++◌, ◌⊎◌, inl, inr, refl, append_assoc, arith}
use Rattle.oas_num.specs.declared.refusals.Why.{Why}
use Rattle.oas_num.specs.declared.refusals.Why.TheVariants.{Memory}
use Rattle.oas_num.specs.declared.refusals.Refusal.{Refusal}
use Rattle.oas_num.specs.Reading.{FailsPiece}
use Rattle.oas_num.specs.Script.{Script, Consumed}
use Rattle.oas_num.specs.Style.{Any}
use Rattle.oas_num.proofs.ReadLemmas.{Consumed-none, Consumed-then}
use Rattle.oas_num.proofs.PieceLemmas.{whole_piece}
use Rattle.oas_record.proofs.NeverLemmas.{record_never, start_never}
use Rattle.oas_record.specs.declared.records.Record.TheVariants.{End}
use Rattle.oas_record.specs.declared.heads.Head.{Head}
use Rattle.oas_record.specs.declared.records.Record.{Record}
use Rattle.oas_record.specs.Heads.{magic, MagicMay, StartTook, RefusesMagic, RefusesStart}
use Rattle.oas_record.specs.Records.{record_in}
use Rattle.oas_record.specs.Refusals.{RecordTook}
use Rattle.oas_elements.specs.declared.limits.Limits.{Limits}
use Rattle.oas_file.specs.Files.{Parts, file_in, PrefixOf}
use Rattle.oas_file.specs.Acceptance.{Allowed, Accepted}
use Rattle.oas_file.specs.Deciding.{TheMagic, TheStart, TheRecord}
use Rattle.oas_file.specs.Places.{ByMagic, ByStart, ByRecord}
use Rattle.oas_file.specs.Reading.{IsPlaced, Refuses}
use Rattle.oas_file.proofs.Fronts.{magic_expected, start_expected, file_expects}
use Rattle.oas_num.proofs.RefusingLemmas.{memory_not, not_writing, none_is_spelled, read_refused}

-- an accepted file is spelled
spelled : {limits : Limits} (b : List ℕ) → Accepted limits b → (v : Parts) × file_in Any v b
spelled b a = ((a.head, (a.records, End)), a.file.spelled)

-- out of memory has no place
pub memory_placed : {limits : Limits} {old new : Script} (at : ℕ) (why : Why) (bytes : List ℕ) → Consumed old bytes new → why ≡ Memory → IsPlaced limits old (record { at = at; why = why }) new
memory_placed at why bytes takes e = record {
  bytes = bytes;
  takes = takes;
  placed = λ fresh is. absurd (memory_not why e is);
}

-- ---- the head

module _ {limits : Limits} {old new : Script} (refusal : Refusal) where
  magic_refuses : RefusesMagic old refusal new → Refuses limits old refusal new
  magic_refuses r =
      let f = r.fails in (
        read_refused spelled [] magic_expected (Consumed-none old) f (not_writing refusal.why MagicMay f.reason.last (λ h. h) f.reason.holds),
        record { bytes = f.bytes; takes = f.takes; placed = λ fresh is more ended. ByMagic (record { place = r.at; differs = λ rest. none_is_spelled f is more ended tt magic rest refl }) },
        record { bytes = f.bytes; takes = f.takes; decided = λ fresh. TheMagic (record { place = r.at; decides = f.reason; cut = f.cut }) },
      )

  start_refuses : RefusesStart old refusal new → Refuses limits old refusal new
  start_refuses r =
      let f = r.fails in
      let takes = Consumed-then old r.mid new magic f.bytes r.takes f.takes in (
        read_refused spelled magic start_expected r.takes f (not_writing refusal.why StartTook f.reason.last (start_never f.reason.last) f.reason.holds),
        record {
          bytes = magic ++ f.bytes;
          takes = takes;
          placed = λ fresh is more ended. ByStart (record { left = f.bytes ++ more; place = r.at; joined = append_assoc magic f.bytes more; none = record { none = none_is_spelled f is more ended } });
        },
        record { bytes = magic ++ f.bytes; takes = takes; decided = λ fresh. TheStart (record { left = f.bytes; place = r.at; joined = refl; took = whole_piece f; cut = f.cut }) },
      )

  pub head_refuses : RefusesMagic old refusal new ⊎ RefusesStart old refusal new → Refuses limits old refusal new
  head_refuses (inl r) = magic_refuses r
  head_refuses (inr r) = start_refuses r

-- ---- a record

module _ {limits : Limits} {origin mid new : Script} {head : Head} {rs : List Record} {bytes : List ℕ} where
  -- neither a record nor END can be read
  pub record_refuses : (refusal : Refusal) → PrefixOf head rs bytes → Allowed limits rs → Consumed origin bytes mid → refusal.at ≡ mid.given
      → FailsPiece (record_in Any head.flag_in_end) (RecordTook head.flag_in_end) mid refusal.why new → Refuses limits origin refusal new
  record_refuses refusal front allowed takes at f =
      let both = Consumed-then origin mid new bytes f.bytes takes f.takes in (
        read_refused spelled bytes (file_expects front) takes f (not_writing refusal.why (RecordTook head.flag_in_end) f.reason.last (record_never head.flag_in_end f.reason.last) f.reason.holds),
        record {
          bytes = bytes ++ f.bytes;
          takes = both;
          placed = λ fresh is more ended. ByRecord (record {
            left = f.bytes ++ more;
            head = head;
            records = rs;
            before = record { before = bytes; front = front; allowed = allowed; place = omega (arith, at, takes.given, fresh); joined = append_assoc bytes f.bytes more };
            no_end = none_is_spelled f is more ended End;
            no_record = record { none = λ r front rest s. none_is_spelled f is more ended r front rest s.spelled };
          });
        },
        record {
          bytes = bytes ++ f.bytes;
          takes = both;
          decided = λ fresh. TheRecord (record {
            left = f.bytes;
            head = head;
            records = rs;
            before = record { before = bytes; front = front; allowed = allowed; place = omega (arith, at, takes.given, fresh); joined = refl };
            took = whole_piece f;
            cut = f.cut;
          });
        },
      )
