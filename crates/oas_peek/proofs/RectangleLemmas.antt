-- The fields of a rectangle without a repetition, and its record.
use Rattle.std.proofs.Common.{◌≡◌, ℕ, ◌-◌, ◌<◌, Bool, Option, None, List, [], ◌∷◌, ◌++◌, length, refl, ap, sym, ◌∙◌, arith}
use Rattle.std.specs.Prelude.{IsTrue, ◌==◌, take}
use Rattle.std.proofs.lemmas.List.{length-append}
use Rattle.std.proofs.Math.Seq.{take-append_seam}
use Rattle.oas_num.specs.Style.{Any, Shortest}
use Rattle.oas_record.specs.declared.records.Record.TheVariants.{Rectangle}
use Rattle.oas_record.specs.declared.rectangles.Rectangle.{Rectangle as OneRectangle}
use Rattle.oas_record.specs.declared.spots.Spot.{Spot}
use Rattle.oas_record.specs.Info.{has}
use Rattle.oas_record.specs.Kinds.{number}
use Rattle.oas_record.specs.Trees.{pair, there}
use Rattle.oas_record.specs.Fields.{Layers, layers, spot}
use Rattle.oas_record.specs.Records.{record_in}
use Rattle.oas_peek.specs.Fronts.{Left, ConsumesByte, ConsumesPrefix, noted}
use Rattle.oas_peek.specs.Peeked.{IsPeeked, IsOnceInfo, ConsumesFields}
use Rattle.oas_peek.proofs.FrontLemmas.{pair_takes, one_byte, one_shortest, both_true}

pub fields_take : (info : ℕ) {both : Layers} {width height : Option ℕ} {at : Spot} {old one two three new : Left} → ConsumesPrefix (layers info) both old one → ConsumesPrefix (there (has info 64) number) width one two
    → ConsumesPrefix (there (has info 32) number) height two three → ConsumesPrefix (spot (has info 16) (has info 8) (has info 4)) at three new → at.repetition ≡ None
    → ConsumesFields info (record { square = has info 128; layer = both.0; datatype = both.1; width = width; height = height; spot = at }) old new
fields_take info {both} {width} {height} {at} l w h s once = record {
  fields = (both, (width, (height, at)));
  is = refl;
  takes = pair_takes (λ _. pair (there (has info 64) number) (λ _. pair (there (has info 32) number) (λ _. spot (has info 16) (has info 8) (has info 4)))) l
      (pair_takes (λ _. pair (there (has info 32) number) (λ _. spot (has info 16) (has info 8) (has info 4))) w
      (pair_takes (λ _. spot (has info 16) (has info 8) (has info 4)) h s));
  once = once;
}

module _ (info : ℕ) (small : info < 256) (drawn : OneRectangle) (two new : Left) (once : IsOnceInfo info) (t : ConsumesFields info drawn two new) where
  spelled_any : (in_end : Bool) → record_in Any in_end (Rectangle drawn) (20 ∷ info ∷ t.takes.bytes)
  spelled_any in_end = record {
    whole = λ e. cc;
    parts = record {
      front = 20 ∷ [];
      back = info ∷ t.takes.bytes;
      first = one_byte 20 (omega arith);
      second = record {
        from = drawn;
        is = refl;
        spelled = record {
          from = (info, t.fields);
          is = t.is;
          spelled = record { front = info ∷ []; back = t.takes.bytes; first = record { holds = once.0; spelled = record { only = refl; small = small } }; second = t.takes.spelled; joined = refl };
        };
      };
      joined = refl;
    };
  }

  spelled_shortest : info ≡ 123 → IsTrue new.shortest → (in_end : Bool) → record_in Shortest in_end (Rectangle drawn) (20 ∷ info ∷ t.takes.bytes)
  spelled_shortest all now in_end = record {
    whole = λ e. cc;
    parts = record {
      front = 20 ∷ [];
      back = info ∷ t.takes.bytes;
      first = one_shortest 20 (omega arith);
      second = record {
        from = drawn;
        is = refl;
        spelled = record {
          from = (info, t.fields);
          is = t.is;
          spelled = record { front = info ∷ []; back = t.takes.bytes; first = record { holds = (once.0, all); spelled = record { only = refl; small = small } }; second = (t.takes.shortest now).1; joined = refl };
        };
      };
      joined = refl;
    };
  }

-- bytes are taken as long as they are longer than what is left
pub taken : (bytes front left : List ℕ) → bytes ≡ front ++ left → take (length bytes - length left) bytes ≡ front
taken bytes front left is =
    let e : length bytes - length left ≡ length front = rw is (omega (arith, length-append front left)) in
    rw (e, is) (take-append_seam front left)

is_all : (info : ℕ) → IsTrue (info == 123) → info ≡ 123
is_all info t = grind arith

-- id, info byte and fields were taken
pub is_peeked : (bytes : List ℕ) (info : ℕ) (drawn : OneRectangle) (all one two new : Left) → all.bytes ≡ bytes → ConsumesByte 20 all one → ConsumesByte info one two → IsOnceInfo info → ConsumesFields info drawn two new
    → IsPeeked bytes (record { rectangle = drawn; length = length bytes - length new.bytes; shortest = (noted (info == 123) new).shortest })
is_peeked bytes info drawn all one two new is id second once t =
    let joined : bytes ≡ (20 ∷ info ∷ t.takes.bytes) ++ new.bytes = sym is ∙ id.joined ∙ ap (λ bs. 20 ∷ bs) (second.joined ∙ ap (λ bs. info ∷ bs) t.takes.joined) in
    let e = taken bytes (20 ∷ info ∷ t.takes.bytes) new.bytes joined in
    record {
      within = omega arith;
      once = t.once;
      spelled = λ in_end. rw e (spelled_any info second.small drawn two new once t in_end);
      shortest = λ now in_end.
          let f = both_true new.shortest (info == 123) now in
          rw e (spelled_shortest info second.small drawn two new once t (is_all info f.1) f.0 in_end);
    }
