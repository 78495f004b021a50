-- Files of the profile are files of the standard, prepared with nothing left out.
use Rattle.std.proofs.Common.{◌≡◌, ◌≢◌, ℕ, Bool, true, false, ◌+◌, List, [], ◌∷◌, ◌++◌, reverse, Option, None, Some, refl, sym, ap, subst, ◌∙◌, arith}
use Rattle.std.proofs.lemmas.List.{reverse-append, reverse-reverse}
use Rattle.std.specs.Option.{option_or}
use Rattle.std.specs.Prelude.{cond, Result, Ok}
use Rattle.oas_num.specs.declared.refusals.Why.{Why}
use Rattle.oas_num.specs.Grammar.{IsEach, IsSuch}
use Rattle.oas_num.specs.Script.{Script, Consumed, IsAtEnd}
use Rattle.oas_num.specs.Style.{Any}
use Rattle.oas_record.specs.declared.heads.Head.{Head}
use Rattle.oas_record.specs.declared.placements.Turn.{Turn}
use Rattle.oas_record.specs.declared.placements.Turn.TheVariants.{Quarters, Degrees}
use Rattle.oas_record.specs.declared.records.Record.{Record}
use Rattle.oas_record.specs.declared.records.Record.TheVariants as record_of
use Rattle.oas_record.specs.declared.references.CellRef.{CellRef}
use Rattle.oas_record.specs.declared.spots.Spot.{Spot}
use Rattle.oas_record.specs.Records.{record_in, IsInner as IsInnerRecord}
use Rattle.oas_elements.specs.declared.limits.Limits.{Limits}
use Rattle.oas_elements.specs.declared.profile.Profile.{Profile}
use Rattle.oas_elements.specs.Meaning.{Meaning, SameLayout}
use Rattle.oas_narrow.specs.Standing.{open_after}
use Rattle.oas_narrow.specs.Stands as stands
use Rattle.oas_narrow.specs.Stands.{is_in_cell, refused_after, records_mean, end_refusal}
use Rattle.oas_canon.specs.Acceptance.{Accepted, Means}
use Rattle.oas_canon.specs.Canonical.{CanonicalForm}
use Rattle.oas_canon.specs.Files.{FileOf}
use Rattle.oas_narrow.specs.Steps.{translated_by, kept_after}
use Rattle.oas_narrow.specs.Tracked.{tracked}
use Rattle.oas_narrow.proofs.LawLemmas.{tracked_plain, given_plain}
use Rattle.oas_canon.specs.FormLaws.{form_is_accepted}
use Rattle.oas_canon.proofs.Forms.{one_canonical_form}
use Rattle.oas_elements.proofs.LawProofs.{reflexive, symmetric}
use Rattle.oas_narrow.specs.BlockHead.{BlockHead}
use Rattle.oas_narrow.specs.WideEnd.{WideEnd}
use Rattle.oas_narrow.specs.Validation.TheVariants.{Unvalidated}
use Rattle.oas_narrow.specs.WideStart.{WideStart}
use Rattle.oas_narrow.specs.WideWhy.{WideWhy}
use Rattle.oas_narrow.specs.WideRecord.{WideRecord}
use Rattle.oas_narrow.specs.WideRecord.TheVariants.{End, Block}
use Rattle.oas_narrow.specs.WideRecords.{wide_record_in, inner_widened, widened}
use Rattle.oas_narrow.proofs.WidenedLemmas.{widen}
use Rattle.oas_narrow.specs.declared.dropping.Dropping.{Dropping}
use Rattle.oas_narrow.specs.declared.dropping.Extra.{Extra}
use Rattle.oas_narrow.specs.declared.dropping.Extra.TheVariants as extra
use Rattle.oas_narrow.specs.Dropping.{nothing_left_out, capped}
use Rattle.oas_narrow.specs.Narrowing.{is_open, kept_of, translated_after, listed, stood_for, narrowed, translated_obstacle, refused_if, obstacle_after, ArePrepared, one_if, tally, report_of}
use Rattle.oas_narrow.specs.Roles.{plain_role, role_of, opens, outside, obstacle_by, extra_of}
use Rattle.oas_narrow.specs.declared.roles.Role.{Role}
use Rattle.oas_narrow.specs.Preparable.{IsUnitOf, IsValid, Formed, WideMeans}
use Rattle.oas_narrow.specs.WideFiles.{WideFileOf, WideParts, inner_in, item_in, end_in}
use Rattle.oas_narrow.proofs.KeptLemmas.{kept, plain}
use Rattle.oas_prepare.specs.Laws.{ProfileIsPrepared, ProfileAsCanonical, PreparedAgain}
use Rattle.oas_prepare.specs.Run.{IsPreparedAs, IsTaken}
use Rattle.oas_prepare.proofs.OneFile.{PrefixFree-file, same_all}
use Rattle.oas_prepare.proofs.Items.{alone, records-alone, each_alone}
use Rattle.oas_prepare.proofs.ProfileHeads.{head_widened}
use Rattle.oas_prepare.proofs.WideMeanings.{one_wide_meaning}

-- ---- records

abbrev pub wide_all : List Record → List WideRecord
wide_all [] = []
wide_all (r ∷ rs) = inner_widened r ∷ wide_all rs

wide-append : (rs ss : List Record) → wide_all (rs ++ ss) ≡ wide_all rs ++ wide_all ss
wide-append [] ss = refl
wide-append (r ∷ rs) ss = λ i. inner_widened r ∷ wide-append rs ss i

wide-reverse : (rs : List Record) → wide_all (reverse rs) ≡ reverse (wide_all rs)
wide-reverse [] = refl
wide-reverse (r ∷ rs) =
    ap wide_all (reverse-append (r ∷ []) rs) ∙ wide-append (reverse rs) (r ∷ []) ∙ ap (λ (ws : List WideRecord). ws ++ inner_widened r ∷ []) (wide-reverse rs)
    ∙ sym (reverse-append (inner_widened r ∷ []) (wide_all rs))

-- no trapezoid is among them
plain-wide : (rs : List Record) → (kept_of (wide_all rs)).is_mixed ≡ false
plain-wide [] = refl
plain-wide (r ∷ rs) = ap (λ (w : WideRecord). (kept_after (kept_of (wide_all rs)) w).is_mixed) (kept r) ∙ tracked_plain (kept_of (wide_all rs)) r (plain-wide rs)

-- newest first
handed-wide : (rs : List Record) (r : Record) → translated_after (wide_all rs) (inner_widened r) ≡ Ok (r ∷ [])
handed-wide rs r =
    ap (translated_by (kept_of (wide_all rs))) (kept r)
    ∙ given_plain (tracked (kept_of (wide_all rs)) r) r (tracked_plain (kept_of (wide_all rs)) r (plain-wide rs))

stood-wide : (rs : List Record) → stood_for (wide_all rs) ≡ reverse rs
stood-wide [] = refl
stood-wide (r ∷ rs) =
    ap (λ (h : Result (List Record) WideWhy). stood_for (wide_all rs) ++ listed h) (handed-wide rs r)
    ∙ ap (λ (ss : List Record). ss ++ r ∷ []) (stood-wide rs) ∙ sym (reverse-append (r ∷ []) rs)

-- oldest first
narrowed-wide : (rs : List Record) → narrowed (wide_all rs) ≡ rs
narrowed-wide rs = ap stood_for (sym (wide-reverse rs)) ∙ stood-wide (reverse rs) ∙ reverse-reverse rs

-- what opens a cell and what closes it
opens-plain : (was : Bool) (r : Record) → opens was (plain_role r) ≡ open_after was r
opens-plain was (record_of.Cell cell) = refl
opens-plain was _ = refl

open-wide : (rs : List Record) → is_open (wide_all rs) ≡ is_in_cell rs
open-wide [] = refl
open-wide (r ∷ rs) = ap (λ (q : Role). opens (is_open (wide_all rs)) q) (plain r) ∙ opens-plain (is_open (wide_all rs)) r ∙ ap (λ (was : Bool). open_after was r) (open-wide rs)

not_extra : (r : Record) → extra_of (plain_role r) ≡ None
not_extra (record_of.Cell cell) = refl
not_extra _ = refl

tally-wide : (e : Extra) (rs : List Record) → tally e (wide_all rs) ≡ 0
tally-wide e [] = refl
tally-wide e (r ∷ rs) = ap (λ (q : Option Extra). tally e (wide_all rs) + one_if e q) (ap extra_of (plain r) ∙ not_extra r) ∙ omega (arith, tally-wide e rs)

none_left_out : (rs : List Record) → report_of (wide_all rs) ≡ nothing_left_out
none_left_out rs = λ i. record {
  property_names = capped (tally-wide extra.PropertyName rs i);
  properties = capped (tally-wide extra.Property rs i);
  layer_names = capped (tally-wide extra.LayerName rs i);
  extension_names = capped (tally-wide extra.ExtensionName rs i);
  extensions = capped (tally-wide extra.ExtensionElement rs i);
}

-- ---- none is stopped

-- an element that is allowed is in a cell
inside : (in_cell : Bool) (id : ℕ) (drawn : Option Why) (why : Why) → cond in_cell drawn (Some why) ≡ None → outside in_cell id ≡ None
inside true id drawn why e = refl
inside false id drawn why e = absurd cc

in_a_cell : (limits : Limits) (dropping : Dropping) (before : List Record) (r : Record) → refused_after limits before r ≡ None → obstacle_by dropping (is_in_cell before) (plain_role r) ≡ None
in_a_cell limits dropping before record_of.Pad e = refl
in_a_cell limits dropping before record_of.End e = refl
in_a_cell limits dropping before (record_of.CellName name number) e = refl
in_a_cell limits dropping before (record_of.TextString label number) e = refl
in_a_cell limits dropping before (record_of.Cell cell) e = refl
in_a_cell limits dropping before record_of.XyAbsolute e = refl
in_a_cell limits dropping before record_of.XyRelative e = refl
in_a_cell limits dropping before _ e = inside (is_in_cell before) _ _ _ e

-- it is translated to itself, after those before it
allowed_one : (limits : Limits) (before : List Record) (r : Record) → refused_after limits before r ≡ None → translated_obstacle limits (stood_for (wide_all before)) (Ok (r ∷ [])) ≡ None
allowed_one limits before r e =
    ap (λ (rs : List Record). translated_obstacle limits rs (Ok (r ∷ []))) (stood-wide before)
    ∙ ap (λ (rs : List Record). refused_if (option_or (refused_after limits rs r) None)) (reverse-reverse before)
    ∙ ap (λ (o : Option Why). refused_if (option_or o None)) e

no_obstacle : (limits : Limits) (dropping : Dropping) (before : List Record) (r : Record) → refused_after limits before r ≡ None → obstacle_after limits dropping (wide_all before) (inner_widened r) ≡ None
no_obstacle limits dropping before r e =
    ap (λ (o : Option WideWhy). option_or o (translated_obstacle limits (stood_for (wide_all before)) (translated_after (wide_all before) (inner_widened r))))
    (ap (λ (was : Bool). obstacle_by dropping was (role_of (inner_widened r))) (open-wide before) ∙ ap (λ (q : Role). obstacle_by dropping (is_in_cell before) q) (plain r) ∙ in_a_cell limits dropping before r e)
    ∙ ap (translated_obstacle limits (stood_for (wide_all before))) (handed-wide before r) ∙ allowed_one limits before r e

prepared : (limits : Limits) (dropping : Dropping) (rs : List Record) → stands.Allowed limits rs → ArePrepared limits dropping (wide_all rs)
prepared limits dropping [] a = tt
prepared limits dropping (r ∷ before) a = (prepared limits dropping before a.0, no_obstacle limits dropping before r a.1)

-- ---- the file

placed_not_end : (c : Option CellRef) (turn : Turn) (flip : Bool) (at : Spot) (e : WideEnd) →
    inner_widened (record_of.Placement (record { cell = c; turn = turn; flip = flip; spot = at })) ≡ End e → ⊥
placed_not_end c (Quarters turns) flip at e is = cc
placed_not_end c (Degrees magnification angle) flip at e is = cc

not_end : (r : Record) (e : WideEnd) → inner_widened r ≡ End e → ⊥
not_end (record_of.Placement p) e is = placed_not_end p.cell p.turn p.flip p.spot e is
not_end _ e is = cc

placed_not_block : (c : Option CellRef) (turn : Turn) (flip : Bool) (at : Spot) (head : BlockHead) →
    inner_widened (record_of.Placement (record { cell = c; turn = turn; flip = flip; spot = at })) ≡ Block head → ⊥
placed_not_block c (Quarters turns) flip at head is = cc
placed_not_block c (Degrees magnification angle) flip at head is = cc

not_block : (r : Record) (head : BlockHead) → inner_widened r ≡ Block head → ⊥
not_block (record_of.Placement p) head is = placed_not_block p.cell p.turn p.flip p.spot head is
not_block _ head is = cc

widened_inner : (r : Record) → r ≢ record_of.End → widened r ≡ inner_widened r
widened_inner record_of.End not = absurd (not refl)
widened_inner _ not = refl

each_wide : (in_end : Bool) (rs : List Record) (bytes : List ℕ) → IsEach (IsSuch IsInnerRecord (record_in Any in_end)) rs bytes → IsEach (inner_in in_end) (wide_all rs) bytes
each_wide in_end [] bytes h = h
each_wide in_end (r ∷ rs) bytes h = (
  h.0,
  h.1,
  record { holds = record { no_end = not_end r; no_block = not_block r }; spelled = subst (λ (w : WideRecord). wide_record_in in_end w h.0) (widened_inner r h.2.holds) (widen in_end r h.0 h.2.spelled) },
  each_wide in_end rs h.1 h.3,
  h.4,
)

record FileWide (head : Head) (rs : List Record) (b : List ℕ) : Type 0 where
  start : WideStart
  file : WideFileOf start (wide_all rs) (record { validation = Unvalidated }) b
  is_unit : IsUnitOf start.unit head.unit

file_wide : (head : Head) (rs : List Record) (b : List ℕ) → FileOf head rs b → FileWide head rs b
file_wide head rs b f =
    let s = f.spelled in
    let t = s.second in
    let w = head_widened head s.front s.first in
    record {
      start = w.start;
      file = record {
        items = alone (wide_all rs);
        all = records-alone (wide_all rs);
        spelled = record {
          front = s.front;
          back = s.back;
          first = w.begun;
          second = record {
            front = t.front;
            back = t.back;
            first = subst (λ (in_end : Bool). IsEach (item_in in_end) (alone (wide_all rs)) t.front) (sym w.flag)
                (each_alone head.flag_in_end (wide_all rs) t.front (each_wide head.flag_in_end rs t.front t.first));
            second = subst (λ (in_end : Bool). end_in in_end (record { validation = Unvalidated }) t.back) (sym w.flag) (widen head.flag_in_end record_of.End t.back t.second.spelled);
            joined = t.joined;
          };
          joined = s.joined;
        };
      };
      is_unit = w.is_unit;
    }

module _ {limits : Limits} {b : List ℕ} (a : Accepted limits b) where
  abbrev wide : FileWide a.head a.records b
  wide = file_wide a.head a.records b a.file

  formed : (dropping : Dropping) → Formed limits dropping b
  formed dropping = record {
    start = wide.start;
    records = wide_all a.records;
    end = record { validation = Unvalidated };
    unit = a.head.unit;
    file = wide.file;
    is_unit = wide.is_unit;
    prepared = subst (ArePrepared limits dropping) (wide-reverse a.records) (prepared limits dropping (reverse a.records) a.allowed);
    whole = ap (end_refusal limits) (narrowed-wide a.records) ∙ a.whole;
  }

  -- its meaning as a file of the standard
  means_wide : WideMeans b (records_mean a.head.unit a.records)
  means_wide = record {
    start = wide.start;
    records = wide_all a.records;
    end = record { validation = Unvalidated };
    unit = a.head.unit;
    file = wide.file;
    is_unit = wide.is_unit;
    is = ap (records_mean a.head.unit) (narrowed-wide a.records);
  }

  means : Means b (records_mean a.head.unit a.records)
  means = record { head = a.head; records = a.records; file = a.file; is = refl }

  same_records : (start : WideStart) (ws : List WideRecord) (end : WideEnd) → WideFileOf start ws end b → ws ≡ wide_all a.records
  same_records start ws end f =
      same_all f wide.file (ap (λ (w : WideParts). w.1.0) (PrefixFree-file.one (start, (f.items, end)) (wide.start, (wide.file.items, record { validation = Unvalidated })) b b [] [] f.spelled wide.file.spelled refl).1)

pub profile_is_prepared : ProfileIsPrepared
unfolding formed
profile_is_prepared limits dropping b a = record { formed = formed a dropping; valid = tt }

pub profile_as_canonical : ProfileAsCanonical
profile_as_canonical limits profile dropping b c r a p =
    let m : Meaning = records_mean a.head.unit a.records in
    let source : p.source ≡ m = one_wide_meaning b p.source m p.means (means_wide a) in (
      record { form = p.form; source = m; target = p.target; means = means a; becomes = p.becomes; same = subst (λ (x : Meaning). SameLayout profile x p.target) source p.same },
      p.left_out ∙ ap report_of (same_records a p.formed.start p.formed.records p.formed.end p.formed.file) ∙ none_left_out a.records,
    )

pub prepared_again : PreparedAgain
prepared_again limits profile dropping c d r form p =
    let a = form_is_accepted limits profile c form in
    let m : Meaning = records_mean a.head.unit a.records in
    let source : p.source ≡ m = one_wide_meaning c p.source m p.means (means_wide a) in
    one_canonical_form limits limits profile d c p.target m p.form form p.becomes (means a)
    (symmetric profile m p.target (subst (λ (x : Meaning). SameLayout profile x p.target) source p.same))

-- ---- a canonical file

module _ {limits : Limits} {profile : Profile} {c : List ℕ} (form : CanonicalForm limits profile c) where
  abbrev a : Accepted limits c
  a = form_is_accepted limits profile c form

  -- is prepared to itself
  pub own_prepared : (dropping : Dropping) → IsPreparedAs limits profile dropping c c nothing_left_out
  unfolding formed
  own_prepared dropping =
      let m : Meaning = records_mean a.head.unit a.records in
      record {
        formed = formed a dropping;
        form = form;
        source = m;
        target = m;
        means = means_wide a;
        becomes = means a;
        same = reflexive profile m;
        left_out = sym (none_left_out a.records);
      }

  -- it has no signature
  pub own_valid : (dropping : Dropping) → IsValid (own_prepared dropping).formed.end.validation c
  unfolding own_prepared formed
  own_valid dropping = tt

  pub own_taken : (dropping : Dropping) {old new : Script} → Consumed old c new → IsAtEnd new → IsTaken limits profile dropping old new c nothing_left_out
  own_taken dropping takes ended = record { bytes = c; takes = takes; ended = ended; is = own_prepared dropping; valid = own_valid dropping }
