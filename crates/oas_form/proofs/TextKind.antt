-- What is proved about texts: their records as they are read, what these draw, and the canonical record of one.
use Rattle.std.proofs.Common.{◌≡◌, ℕ, ◌-◌, ◌≤◌, ◌^◌, true, false, List, ◌∷◌, ◌++◌, length, Some, refl, sym, ap, arith, append_assoc, ◌+◌, Option, subst, ◌∙◌, ◌*◌, None, length-append, ◌&&◌, []}
use Rattle.std.specs.Prelude.{ℤ, IfSome}
use Rattle.std.proofs.lemmas.Bool.{and_parts}
use Rattle.oas_num.specs.Grammar.{IsPair}
use Rattle.oas_num.specs.Style.{Shortest, Any}
use Rattle.oas_num.specs.Writing.{shortest}
use Rattle.oas_ring.specs.declared.point.Point.{Point}
use Rattle.oas_record.specs.declared.references.TextRef.TheVariants as text
use Rattle.oas_record.specs.Info.{info_in}
use Rattle.oas_record.specs.Texts.{IsTextInfo, IsCanonicalText, text_record_in}
use Rattle.oas_elements.specs.Grid.{is_coordinate}
use Rattle.oas_elements.specs.Sound.{FitsText, IsSound, Fits}
use Rattle.oas_form.specs.Records.{spot_at, element_record}
use Rattle.oas_form.specs.Bytes.{string_bytes, place_bytes, element_bytes}
use Rattle.oas_record.specs.declared.records.Record.TheVariants as record_of
use Rattle.oas_record.specs.Records.{record_in}
use Rattle.oas_elements.specs.Weight.{weight_of, lacks_points}
use Rattle.oas_form.specs.Spelling.{HasPoint}
use Rattle.oas_record.specs.References.{text_in}
use Rattle.oas_record.specs.declared.references.TextRef.{TextRef}
use Rattle.oas_file.specs.GivenFields.{given_fields}
use Rattle.oas_file.specs.Drawn.TheVariants.{Named}
use Rattle.oas_file.specs.Modal.{ModalState, stepped}
use Rattle.oas_file.specs.Drawing.{text_at, drawn_at}
use Rattle.oas_shape.specs.Steps.{still}
use Rattle.oas_elements.specs.declared.limits.Limits.{Limits}
use Rattle.oas_file.specs.Reasons.{is_on_grid, draw_reason}
use Rattle.oas_record.specs.Texts as texts
use Rattle.oas_record.specs.declared.texts.Text.{Text as OneText}
use Rattle.oas_elements.specs.declared.element.Element.TheVariants.{Text}
use Rattle.oas_file.specs.Kind.TheVariants as kinds
use Rattle.oas_form.proofs.ElementSpelling.{Inner, info_byte}
use Rattle.oas_form.proofs.FieldsFit.{is_spelled, number_fits, labelled_fits}
use Rattle.oas_form.proofs.FieldsGiven.{Small, StringFits, FieldsFit, fit, string_fits, there, small, moved_fits}
use Rattle.oas_form.proofs.DrawnFits.{DrawnFits}
use Rattle.oas_form.proofs.Lengths.{length-string, length-place, length-numbers}
use Rattle.oas_form.proofs.DrawnAgain.{landed, stands_at}
use Rattle.oas_form.proofs.OneAllowed.{IsFine, none_wrong}
use Rattle.oas_form.proofs.KindLemmas.{IsDrawn}
use Rattle.oas_form.proofs.OfElement.{OfElement}
use Rattle.oas_form.proofs.FieldSpelling.{label_spelled, near, spot_spelled, layers_spelled}
use Rattle.oas_form.proofs.ShortFields.{given, spot_is}

-- ---- as it is read

-- its fields fit, in any style
pub fields_given : (t : OneText) (bytes : List ℕ) → text_record_in Any t bytes → FieldsFit (given_fields (record_of.Text t))
fields_given t bytes h =
    let f = h.spelled.second in
    moved_fits record_of.Text _ t h.is (fit tt (there StringFits (text_in Any _) (string_fits _) _ h.from.1.0 _ f.first) (small _ h.from.1.1.0.0 _ f.second.first.first) (small _ h.from.1.1.0.1 _ f.second.first.second) tt tt tt tt tt tt)

-- a text string itself
record IsLabelled (t : TextRef) : Type 0 where
  label : List ℕ
  is : text.Label label ≡ t

labelled : (t : TextRef) (bytes : List ℕ) → text_in Shortest false t bytes → IsLabelled t
labelled t bytes h = record { label = h.from; is = h.is }

-- in the shortest style it is the record of an element
pub text_is : (u : ℕ × texts.TextFields) (bytes : List ℕ) → IsPair (info_in texts.IsTextInfo texts.IsCanonicalText Shortest) (texts.text_fields Shortest) u bytes →
    IsDrawn (record_of.Text (texts.text_of u))
text_is u bytes h =
    let f = subst (λ (info : ℕ). texts.text_fields Shortest info u.1 h.back) h.first.holds.1 h.second in
    let t = given _ _ _ f.first in
    let label = labelled t.value _ t.spelled in
    let string_is : ◌≡◌ {A = Option TextRef} (Some (text.Label label.label)) u.1.0 = ap (λ (v : TextRef). Some v) label.is ∙ t.is in
    let textlayer = given _ _ _ f.second.first.first in
    let texttype = given _ _ _ f.second.first.second in
    let spot = spot_is _ _ f.second.second in
    record {
      element = Text label.label textlayer.value texttype.value spot.x spot.y;
      is = λ i. record_of.Text (record { string = string_is i; textlayer = textlayer.is i; texttype = texttype.is i; spot = spot.is i });
      points = refl;
    }

-- ---- as it is drawn

-- what is drawn from fields that fit has fields that fit
pub drawn_fits : (s : Option TextRef) (layer kind : Option ℕ) (at : Point) → IfSome s StringFits → IfSome layer Small → IfSome kind Small → IfSome (text_at s layer kind at) DrawnFits
drawn_fits None layer kind at s l k = tt
drawn_fits (Some (text.Number n)) None kind at s l k = tt
drawn_fits (Some (text.Number n)) (Some layer) None at s l k = tt
drawn_fits (Some (text.Number n)) (Some layer) (Some kind) at s l k = (l, k)
drawn_fits (Some (text.Label n)) None kind at s l k = tt
drawn_fits (Some (text.Label n)) (Some layer) None at s l k = tt
drawn_fits (Some (text.Label n)) (Some layer) (Some kind) at s l k = record { string_fits = s; textlayer_fits = l; texttype_fits = k }

-- ---- its canonical record

string_spelled : (string : List ℕ) (textlayer texttype : ℕ) (x y : ℤ) → FitsText string textlayer texttype → (is_coordinate x && is_coordinate y) ≡ true
    → text_record_in Shortest (record { string = Some (text.Label string); textlayer = Some textlayer; texttype = Some texttype; spot = spot_at x y })
    (0x5B ∷ (string_bytes string ++ (shortest textlayer ++ (shortest texttype ++ place_bytes x y))))
string_spelled string textlayer texttype x y h inside =
    let at = and_parts (is_coordinate x) (is_coordinate y) inside in
    record {
      from = (0x5B, (Some (text.Label string), ((Some textlayer, Some texttype), spot_at x y)));
      is = refl;
      spelled = record {
        front = 0x5B ∷ [];
        back = string_bytes string ++ (shortest textlayer ++ (shortest texttype ++ place_bytes x y));
        first = info_byte IsTextInfo IsCanonicalText 0x5B (omega arith) refl (omega arith);
        joined = refl;
        second = record {
          front = string_bytes string;
          back = shortest textlayer ++ (shortest texttype ++ place_bytes x y);
          first = record { from = string; is = refl; spelled = label_spelled string h.string_fits };
          joined = refl;
          second = record {
            front = shortest textlayer ++ shortest texttype;
            back = place_bytes x y;
            first = layers_spelled textlayer texttype h.textlayer_fits h.texttype_fits;
            second = spot_spelled x y (near x at.0) (near y at.1);
            joined = sym (append_assoc (shortest textlayer) (shortest texttype) (place_bytes x y));
          };
        };
      };
    }

spelled_fits : (t : OneText) (string : List ℕ) (textlayer texttype : ℕ) (bytes : List ℕ) → t.string ≡ Some (text.Label string) → t.textlayer ≡ Some textlayer → t.texttype ≡ Some texttype →
    text_record_in Shortest t bytes → FitsText string textlayer texttype
spelled_fits t string textlayer texttype bytes s l k h =
    let f = h.spelled.second in
    record {
      string_fits = labelled_fits _ string _ (is_spelled _ (text_in Shortest _) h.from.1.0 (text.Label string) _ (ap (λ (q : OneText). q.string) h.is ∙ s) f.first);
      textlayer_fits = number_fits _ h.from.1.1.0.0 textlayer _ (ap (λ (q : OneText). q.textlayer) h.is ∙ l) f.second.first.first;
      texttype_fits = number_fits _ h.from.1.1.0.1 texttype _ (ap (λ (q : OneText). q.texttype) h.is ∙ k) f.second.first.second;
    }

same_fields : (a b : OneText) → record_of.Text a ≡ record_of.Text b → a ≡ b
same_fields a b e = cc

element_fits : (string : List ℕ) (textlayer texttype : ℕ) (x y : ℤ) (bytes : List ℕ) → record_in Shortest false (element_record (Text string textlayer texttype x y)) bytes → Fits (Text string textlayer texttype x y)
element_fits string textlayer texttype x y bytes h =
    let s = h.parts.second in
    let e = same_fields s.from _ s.is in
    spelled_fits s.from string textlayer texttype _ (ap (λ (t : OneText). t.string) e) (ap (λ (t : OneText). t.textlayer) e) (ap (λ (t : OneText). t.texttype) e) s.spelled

drawn_again : (string : List ℕ) (textlayer texttype : ℕ) (x y : ℤ) (m : ModalState) → m.relative ≡ false → lacks_points (Text string textlayer texttype x y) ≡ false →
    drawn_at (stepped m (element_record (Text string textlayer texttype x y))) (element_record (Text string textlayer texttype x y)) still ≡ Some (Named (Text string textlayer texttype x y))
drawn_again string textlayer texttype x y m absolute h = ap (λ (at : Point). Some (Named (Text string textlayer texttype at.x at.y)))
    (stands_at m.relative m.text (record { x = x; y = y }) absolute)

allowed_once : (limits : Limits) (count weight : ℕ) (m : ModalState) (string : List ℕ) (textlayer texttype : ℕ) (x y : ℤ) → m.relative ≡ false →
    IsFine limits count weight (stepped m (element_record (Text string textlayer texttype x y))) (Text string textlayer texttype x y) →
    draw_reason limits count weight (stepped m (element_record (Text string textlayer texttype x y))) (element_record (Text string textlayer texttype x y)) ≡ None
allowed_once limits count weight m string textlayer texttype x y absolute h = none_wrong _ _ _ _ _ h _ (ap is_on_grid (landed m.relative m.text (record { x = x; y = y }) absolute) ∙ h.inside)

length-record : (string : List ℕ) (textlayer texttype : ℕ) (x y : ℤ) → HasPoint (Text string textlayer texttype x y) → length (element_bytes (Text string textlayer texttype x y)) ≤ 64 * weight_of (Text string textlayer texttype x y)
length-record string textlayer texttype x y h =
    omega (
      arith,
      length-append (string_bytes string) (shortest textlayer ++ (shortest texttype ++ place_bytes x y)),
      length-numbers textlayer texttype
          (place_bytes x y),
      length-string string,
      length-place x y,
    )

inner_record : (string : List ℕ) (textlayer texttype : ℕ) (x y : ℤ) → IsSound (Text string textlayer texttype x y) → weight_of (Text string textlayer texttype x y) ≤ 2 ^ 30 → Inner (element_record (Text string textlayer texttype x y)) (element_bytes (Text string textlayer texttype x y))
inner_record string textlayer texttype x y h light =
    record { inner = λ e. cc; small = omega arith; rest = _; is = refl; after = record { from = _; is = refl; spelled = string_spelled string textlayer texttype x y h.fits h.inside } }

pub of_text : (string : List ℕ) (textlayer texttype : ℕ) (x y : ℤ) → OfElement (Text string textlayer texttype x y)
of_text string textlayer texttype x y = record {
  kind = kinds.Text;
  is = refl;
  once = refl;
  drawn = drawn_again string textlayer texttype x y;
  allowed = λ limits count weight m. allowed_once limits count weight m string textlayer texttype x y;
  inner = inner_record string textlayer texttype x y;
  fits = element_fits string textlayer texttype x y;
  short = length-record string textlayer texttype x y;
}
