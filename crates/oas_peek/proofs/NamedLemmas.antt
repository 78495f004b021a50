-- Placements and texts without a repetition, and their records.
use Rattle.std.proofs.Common.{◌≡◌, false, ℕ, ℤ, ◌+◌, ◌-◌, ◌/◌, ◌%◌, ◌<◌, ◌≤◌, Bool, Option, None, List, [], ◌∷◌, ◌++◌, length, refl, ap, sym, ◌∙◌, append_assoc, arith}
use Rattle.std.specs.Prelude.{IsTrue, bit_and, ◌==◌}
use Rattle.std.proofs.lemmas.List.{length-append}
use Rattle.oas_num.specs.Texts.{IsNameByte, IsLabelByte, IsName, IsLabel}
use Rattle.oas_num.specs.Laws.TextLaws.{text_itself}
use Rattle.oas_record.specs.declared.placements.Turn.TheVariants.{Quarters}
use Rattle.oas_record.specs.Found.{Settled}
use Rattle.oas_record.specs.declared.records.Record.TheVariants.{End}
use Rattle.oas_record.specs.Info.{has}
use Rattle.oas_record.specs.Kinds.{Kind, number, signed, name, label}
use Rattle.oas_record.specs.Trees.{pair, there, info_byte}
use Rattle.oas_record.specs.References.{cell_kind, cell_number, cell_name, string_kind, text_number, text_label}
use Rattle.oas_record.specs.Fields.{Layers, layers, spot}
use Rattle.oas_record.specs.Placements.{IsPlacementInfo, IsCanonicalPlacement, quarter_parts, quarters_of, quarters_kind}
use Rattle.oas_record.specs.Texts.{IsTextInfo, IsCanonicalText, text_parts, text_of, text_kind}
use Rattle.oas_peek.specs.Fronts.{Left, ConsumesByte, ConsumesPrefix, noted}
use Rattle.oas_peek.specs.declared.named.Given.{Given}
use Rattle.oas_peek.specs.declared.named.Given.TheVariants.{Modal, Number, Bytes}
use Rattle.oas_peek.specs.declared.named.NamedOnce.{NamedOnce}
use Rattle.oas_peek.specs.declared.named.NamedOnce.TheVariants.{Placement, Text}
use Rattle.oas_peek.specs.Named.{cell_given, string_given, named_record, HasValidCell, HasValidString, HasValidName, IsPeekedNamed, ConsumesBytes, ConsumesGiven, ConsumesNamed}
use Rattle.oas_peek.proofs.FrontLemmas.{pair_takes, image_takes, none_takes, some_takes, first_takes, second_takes, spot_takes, leaves_fewer, one_byte, one_shortest, both_true}
use Rattle.oas_peek.proofs.RectangleLemmas.{taken}

-- ---- what is given for a name

-- bytes after their length, that are a name's
name_takes : (bytes : List ℕ) {old new : Left} → IsName bytes → ConsumesBytes bytes old new → ConsumesPrefix name bytes old new
name_takes bytes {new = new} h t = record {
  bytes = t.len.bytes ++ bytes;
  joined = t.len.joined ∙ ap (λ r. t.len.bytes ++ r) t.joined ∙ sym (append_assoc t.len.bytes bytes new.bytes);
  spelled = record {
    front = t.len.bytes;
    back = bytes;
    first = record { holds = h.some; spelled = t.len.spelled };
    second = text_itself IsNameByte (λ b c. omega (arith, c.1)) bytes h.class;
    joined = refl;
  };
  shortest = λ now.
      let s = t.len.shortest (rw (sym t.shortest) now) in (
        s.0,
        record {
          front = t.len.bytes;
          back = bytes;
          first = record { holds = h.some; spelled = s.1 };
          second = text_itself IsNameByte (λ b c. omega (arith, c.1)) bytes h.class;
          joined = refl;
        },
      );
}

-- or a string's
label_takes : (bytes : List ℕ) {old new : Left} → IsLabel bytes → ConsumesBytes bytes old new → ConsumesPrefix label bytes old new
label_takes bytes {new = new} h t = record {
  bytes = t.len.bytes ++ bytes;
  joined = t.len.joined ∙ ap (λ r. t.len.bytes ++ r) t.joined ∙ sym (append_assoc t.len.bytes bytes new.bytes);
  spelled = record {
    front = t.len.bytes;
    back = bytes;
    first = t.len.spelled;
    second = text_itself IsLabelByte (λ b c. omega (arith, c.1)) bytes h.class;
    joined = refl;
  };
  shortest = λ now.
      let s = t.len.shortest (rw (sym t.shortest) now) in (
        s.0,
        record {
          front = t.len.bytes;
          back = bytes;
          first = s.1;
          second = text_itself IsLabelByte (λ b c. omega (arith, c.1)) bytes h.class;
          joined = refl;
        },
      );
}

cell_takes : (here numbered : Bool) (given : Given) (old new : Left) → ConsumesGiven here numbered given old new → HasValidCell given
    → ConsumesPrefix (there here (cell_kind numbered)) (cell_given given) old new
cell_takes here numbered Modal old new t h = rw t.1 (none_takes (cell_kind numbered) here old t.0)
cell_takes here numbered (Number n) old new t h = some_takes (cell_kind numbered) here t.0 (first_takes numbered _ _ t.1 (image_takes cell_number _ number _ t.2))
cell_takes here numbered (Bytes bytes) old new t h = some_takes (cell_kind numbered) here t.0 (second_takes numbered _ _ t.1 (image_takes cell_name _ name _ (name_takes bytes.now h t.2)))

string_takes : (here numbered : Bool) (given : Given) (old new : Left) → ConsumesGiven here numbered given old new → HasValidString given
    → ConsumesPrefix (there here (string_kind numbered)) (string_given given) old new
string_takes here numbered Modal old new t h = rw t.1 (none_takes (string_kind numbered) here old t.0)
string_takes here numbered (Number n) old new t h = some_takes (string_kind numbered) here t.0 (first_takes numbered _ _ t.1 (image_takes text_number _ number _ t.2))
string_takes here numbered (Bytes bytes) old new t h = some_takes (string_kind numbered) here t.0 (second_takes numbered _ _ t.1 (image_takes text_label _ label _ (label_takes bytes.now h t.2)))

given_fewer : (here numbered : Bool) (given : Given) (old new : Left) → ConsumesGiven here numbered given old new → length new.bytes ≤ length old.bytes
given_fewer here numbered Modal old new t = rw t.1 (omega arith)
given_fewer here numbered (Number n) old new t = leaves_fewer number t.2
given_fewer here numbered (Bytes bytes) old new t =
    let e : length t.2.mid.bytes ≡ length bytes.now + length new.bytes = rw t.2.joined (length-append bytes.now new.bytes) in
    omega (arith, e, leaves_fewer number t.2.len)

-- ---- a record after its id

pub lacks : (info weight : ℕ) → bit_and info weight ≡ 0 → has info weight ≡ false
lacks info weight e = rw e refl

pub all_fields : (info : ℕ) → IsTrue (info == 91) → IsCanonicalText info
all_fields info t = grind arith

-- the info byte, and the fields that it gives
pub info_takes : {F : Type 0} (allowed canonical : ℕ → Type 0) (settled : (info : ℕ) → Settled (allowed info)) (zero : allowed 0) (parts : ℕ → Kind F) (info : ℕ) (all : Bool) {fields : F} {old one new : Left}
    → ConsumesByte info old one → allowed info → (IsTrue all → canonical info) → ConsumesPrefix (parts info) fields one new → ConsumesPrefix (pair (info_byte allowed canonical settled zero) parts) (info, fields) old (noted all new)
info_takes allowed canonical settled zero parts info all {new = new} took fits is p = record {
  bytes = info ∷ p.bytes;
  joined = took.joined ∙ ap (λ bs. info ∷ bs) p.joined;
  spelled = record { front = info ∷ []; back = p.bytes; first = record { holds = fits; spelled = record { only = refl; small = took.small } }; second = p.spelled; joined = refl };
  shortest = λ now.
      let f = both_true new.shortest all now in
      let s = p.shortest f.0 in
      (rw (sym took.shortest) s.0, record { front = info ∷ []; back = p.bytes; first = record { holds = (fits, is f.1); spelled = record { only = refl; small = took.small } }; second = s.1; joined = refl });
}

pub placement_takes : (info : ℕ) (given : Given) (all : Bool) {x y : Option ℤ} {old one two three new : Left} → ConsumesByte info old one → has info 8 ≡ false → ConsumesGiven (has info 128) (has info 64) given one two
    → ConsumesPrefix (there (has info 32) signed) x two three → ConsumesPrefix (there (has info 16) signed) y three new → (IsTrue all → IsCanonicalPlacement info)
    → ConsumesNamed 17 (Placement given (info / 2 % 4) (info % 2 == 1) x y) old (noted all new)
placement_takes info given all {x} {y} {old} {one} {two} {three} {new} took once g p q is = record {
  is = refl;
  fewer = omega (arith, ap length took.joined, given_fewer _ _ given one two g, leaves_fewer (there (has info 32) signed) p, leaves_fewer (there (has info 16) signed) q);
  takes = λ names.
      let fields = pair_takes (λ _. spot (has info 32) (has info 16) (has info 8)) (cell_takes _ _ given one two g names) (spot_takes (has info 32) (has info 16) (has info 8) once p q) in
      let placed : ConsumesPrefix quarters_kind (record { cell = cell_given given; turn = Quarters (info / 2 % 4); flip = info % 2 == 1; spot = (record { x = x; y = y; repetition = None }) }) old (noted all new) =
      image_takes quarters_of _ _ _ (info_takes IsPlacementInfo IsCanonicalPlacement _ _ quarter_parts info all took took.small is fields) in
      record {
        bytes = placed.bytes;
        joined = placed.joined;
        spelled = λ in_end. record { from = _; is = refl; spelled = placed.spelled };
        shortest = λ now. let s = placed.shortest now in (s.0, λ in_end. record { from = _; is = refl; spelled = s.1 });
      };
}

pub text_takes : (info : ℕ) (given : Given) (all : Bool) {both : Layers} {x y : Option ℤ} {old one two three four new : Left} → ConsumesByte info old one → info < 128 → has info 4 ≡ false
    → ConsumesGiven (has info 64) (has info 32) given one two → ConsumesPrefix (layers info) both two three → ConsumesPrefix (there (has info 16) signed) x three four → ConsumesPrefix (there (has info 8) signed) y four new
    → (IsTrue all → IsCanonicalText info) → ConsumesNamed 19 (Text given both.0 both.1 x y) old (noted all new)
text_takes info given all {both} {x} {y} {old} {one} {two} {three} {four} {new} took fits once g l p q is = record {
  is = refl;
  fewer = omega (arith, ap length took.joined, given_fewer _ _ given one two g, leaves_fewer (layers info) l, leaves_fewer (there (has info 16) signed) p, leaves_fewer (there (has info 8) signed) q);
  takes = λ names.
      let fields = pair_takes (λ _. pair (layers info) (λ _. spot (has info 16) (has info 8) (has info 4))) (string_takes _ _ given one two g names)
      (pair_takes (λ _. spot (has info 16) (has info 8) (has info 4)) l (spot_takes (has info 16) (has info 8) (has info 4) once p q)) in
      let written : ConsumesPrefix text_kind (record { string = string_given given; textlayer = both.0; texttype = both.1; spot = (record { x = x; y = y; repetition = None }) }) old (noted all new) =
      image_takes text_of _ _ _ (info_takes IsTextInfo IsCanonicalText _ _ text_parts info all took fits is fields) in
      record {
        bytes = written.bytes;
        joined = written.joined;
        spelled = λ in_end. record { from = _; is = refl; spelled = written.spelled };
        shortest = λ now. let s = written.shortest now in (s.0, λ in_end. record { from = _; is = refl; spelled = s.1 });
      };
}

-- ---- the whole record

not_end : (element : NamedOnce) → named_record element ≡ End → ⊥
not_end (Placement c quarters flip x y) e = cc
not_end (Text s textlayer texttype x y) e = cc

-- id, and what follows it, were taken
pub is_peeked_named : (bytes : List ℕ) (id : ℕ) (element : NamedOnce) (all one new : Left) → all.bytes ≡ bytes → id < 128 → ConsumesByte id all one → ConsumesNamed id element one new → HasValidName element
    → IsPeekedNamed bytes (record { element = element; length = length bytes - length new.bytes; shortest = new.shortest })
is_peeked_named bytes id element all one new is small first t names = record {
  within = omega arith;
  named = names;
  spelled = λ in_end.
      let r = t.takes names in
      rw (taken bytes (id ∷ r.bytes) new.bytes (sym is ∙ first.joined ∙ ap (λ bs. id ∷ bs) r.joined))
      (record {
        whole = λ e. absurd (not_end element e);
        parts = record { front = id ∷ []; back = r.bytes; first = rw t.is (one_byte id small); second = rw t.is (r.spelled in_end); joined = refl };
      });
  shortest = λ now in_end.
      let r = t.takes names in
      rw (taken bytes (id ∷ r.bytes) new.bytes (sym is ∙ first.joined ∙ ap (λ bs. id ∷ bs) r.joined))
      (record {
        whole = λ e. absurd (not_end element e);
        parts = record { front = id ∷ []; back = r.bytes; first = rw t.is (one_shortest id small); second = rw t.is ((r.shortest now).1 in_end); joined = refl };
      });
}
