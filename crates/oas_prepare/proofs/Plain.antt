-- One more record of the profile that is translated to itself.
use Rattle.std.proofs.Common.{◌≡◌, ℕ, Bool, true, false, [], ◌∷◌, ◌++◌, Option, None, Some, ◌⊎◌, inl, inr, refl, sym, ap, ◌∙◌}
use Rattle.std.specs.Option.{option_or}
use Rattle.std.specs.Prelude.{List, if◌then◌else◌, Ok}
use Rattle.oas_num.specs.declared.refusals.Refusal.{Refusal}
use Rattle.oas_num.specs.declared.refusals.Why.{Why}
use Rattle.oas_num.specs.declared.refusals.Why.TheVariants.{Memory, OutOfPlace}
use Rattle.oas_record.specs.declared.placements.Turn.TheVariants.{Quarters}
use Rattle.oas_record.specs.declared.records.Record.{Record}
use Rattle.oas_record.specs.declared.records.Record.TheVariants as record_of
use Rattle.oas_record.specs.Records.{id_of}
use Rattle.oas_peek.specs.declared.named.NamedOnce.{NamedOnce}
use Rattle.oas_peek.specs.declared.named.NamedOnce.TheVariants as once
use Rattle.oas_peek.specs.Named.{cell_given, string_given, named_record}
use Rattle.oas_narrow.proofs.LawLemmas.{tracked_plain, given_plain}
use Rattle.oas_narrow.specs.Kept.{repetition_given, given_mixed, given}
use Rattle.oas_narrow.specs.Narrowing.{narrowed}
use Rattle.oas_narrow.specs.Rejections.{refused}
use Rattle.oas_narrow.specs.Roles.{plain_role, opens, outside, obstacle_by, extra_of, counted_if}
use Rattle.oas_narrow.specs.Stands.{Represents, ReaderState, refusal as refusal_of}
use Rattle.oas_narrow.specs.Steps.{translated_by}
use Rattle.oas_narrow.specs.Stores.{Store}
use Rattle.oas_narrow.specs.Tracked.{Tracked, tracked}
use Rattle.oas_narrow.specs.WideRecord.{WideRecord}
use Rattle.oas_narrow.specs.WideRecord.TheVariants.{Profile}
use Rattle.oas_narrow.specs.WideWhy.TheVariants.{Profile as ByProfile}
use Rattle.oas_narrow.specs.declared.places.Rejection.{Rejection}
use Rattle.oas_narrow.specs.declared.roles.Role.{Role}
use Rattle.oas_narrow.specs.declared.roles.Role.TheVariants.{Element}
use Rattle.oas_prepare.specs.Places.{at_file}
use Rattle.oas_prepare.specs.Taking.{State, Stands, IsStop, obstacle_next}
use Rattle.oas_prepare.proofs.Consumed.{role_stops, resolved_stops, resolved_taken}

-- ---- which are

-- all, as long as there is neither a trapezoid nor geometry of an extension
pub unmixed : (k : Tracked) (r : Record) → k.is_mixed ≡ false → translated_by k (Profile r) ≡ Ok (r ∷ [])
unmixed k r h = given_plain (tracked k r) r (tracked_plain k r h)

-- and placements and texts that give no repetition, which set nothing
pub named_tracked : (k : Tracked) (n : NamedOnce) → tracked k (named_record n) ≡ k
named_tracked k (once.Placement c quarters flip x y) = refl
named_tracked k (once.Text s textlayer texttype x y) = refl

none_given : (k : Tracked) → repetition_given k.repetition None ≡ None
none_given k = elim k.repetition as (λ m. repetition_given m None ≡ None) [ None ↦ refl | Some m ↦ refl ]

named_mixed : (k : Tracked) (n : NamedOnce) → given_mixed k (named_record n) ≡ Ok (named_record n ∷ [])
named_mixed k (once.Placement c quarters flip x y) =
    λ i. Ok (record_of.Placement (record { cell = cell_given c; turn = Quarters quarters; flip = flip; spot = (record { x = x; y = y; repetition = none_given k i }) }) ∷ [])
named_mixed k (once.Text s textlayer texttype x y) =
    λ i. Ok (record_of.Text (record { string = string_given s; textlayer = textlayer; texttype = texttype; spot = (record { x = x; y = y; repetition = none_given k i }) }) ∷ [])

in_both : {X : Type 0} (b : Bool) {x y : X} → x ≡ y → (if b then x else y) ≡ y
in_both true e = e
in_both false e = refl

named_given : (k : Tracked) (n : NamedOnce) → given k (named_record n) ≡ Ok (named_record n ∷ [])
named_given k n = in_both k.is_mixed (named_mixed k n)

pub named_alone : (k : Tracked) (n : NamedOnce) → translated_by k (Profile (named_record n)) ≡ Ok (named_record n ∷ [])
named_alone k n = named_given (tracked k (named_record n)) n

-- ---- their roles

pub named_role : (n : NamedOnce) → Element (id_of (named_record n)) ≡ plain_role (named_record n)
named_role (once.Placement c quarters flip x y) = refl
named_role (once.Text s textlayer texttype x y) = refl

not_extra : (r : Record) → extra_of (plain_role r) ≡ None
not_extra record_of.Pad = refl
not_extra _ = refl

-- ---- what is taken

module _ {C : Type 0} {t : Store C} {p : State C} {ws : List WideRecord} (s : Stands t p ws) (r : Record) {q : Role} (of : q ≡ plain_role r) where
  uncounted : p.report ≡ counted_if p.report (extra_of q)
  uncounted = ap (counted_if p.report) (sym (ap extra_of of ∙ not_extra r))

  module _ (none : obstacle_by p.dropping p.in_cell q ≡ None) (alone : translated_by p.resolver (Profile r) ≡ Ok (r ∷ [])) where
    pub plain_stops : (at : ℕ) (refusal : Refusal) (rejection : Rejection) {M : Type 0} → rejection ≡ refused refusal →
        (refusal.at ≡ at) × (((refusal.why ≡ Memory) × M) ⊎ (refusal_of p.reader.limits (narrowed ws) r ≡ Some refusal.why)) → IsStop at p.reader.limits p.dropping ws (Profile r) rejection
    plain_stops at refusal rejection {M = M} is h = resolved_stops s (Profile r) of none alone at refusal rejection is (record { place = h.0; why = reason h.1 }) where
      reason : ((refusal.why ≡ Memory) × M) ⊎ (refusal_of p.reader.limits (narrowed ws) r ≡ Some refusal.why) → (refusal.why ≡ Memory) ⊎ (option_or (refusal_of p.reader.limits (narrowed ws) r) None ≡ Some refusal.why)
      reason (inl m) = inl m.0
      reason (inr some) = inr (ap (λ (o : Option Why). option_or o None) some)

    pub plain_taken : (after : ReaderState C) (kept : Tracked) (in_cell : Bool) → kept ≡ tracked p.resolver r → in_cell ≡ opens p.in_cell q → (refusal_of p.reader.limits (narrowed ws) r ≡ None) × Represents t after (narrowed ws ++ r ∷ []) →
        (obstacle_next p.reader.limits p.dropping ws (Profile r) ≡ None) × Stands t (record { reader = after; resolver = kept; in_cell = in_cell; dropping = p.dropping; report = p.report }) (ws ++ Profile r ∷ [])
    plain_taken after kept in_cell is opened h = resolved_taken s (Profile r) of none alone after kept in_cell p.report is opened uncounted (ap (λ (o : Option Why). option_or o None) h.0, h.1)

-- ---- an element, which requires an open cell

module _ {C : Type 0} {t : Store C} {p : State C} {ws : List WideRecord} (s : Stands t p ws) (r : Record) (of : Element (id_of r) ≡ plain_role r) where
  pub no_cell : (at : ℕ) (rejection : Rejection) → (p.in_cell ≡ false) × (rejection ≡ at_file at (ByProfile (OutOfPlace (id_of r)))) → IsStop at p.reader.limits p.dropping ws (Profile r) rejection
  no_cell at rejection h = role_stops s (Profile r) of at (ByProfile (OutOfPlace (id_of r))) rejection (ap (λ (b : Bool). outside b (id_of r)) h.0) h.1

  module _ (found : p.in_cell ≡ true) (alone : translated_by p.resolver (Profile r) ≡ Ok (r ∷ [])) where
    unbarred : obstacle_by p.dropping p.in_cell (Element (id_of r)) ≡ None
    unbarred = ap (λ (b : Bool). outside b (id_of r)) found

    pub element_stops : (at : ℕ) (refusal : Refusal) (rejection : Rejection) {M : Type 0} → rejection ≡ refused refusal →
        (refusal.at ≡ at) × (((refusal.why ≡ Memory) × M) ⊎ (refusal_of p.reader.limits (narrowed ws) r ≡ Some refusal.why)) → IsStop at p.reader.limits p.dropping ws (Profile r) rejection
    element_stops at refusal rejection is h = plain_stops s r of unbarred alone at refusal rejection is h

    pub element_taken : (after : ReaderState C) (kept : Tracked) → kept ≡ tracked p.resolver r → (refusal_of p.reader.limits (narrowed ws) r ≡ None) × Represents t after (narrowed ws ++ r ∷ []) →
        (obstacle_next p.reader.limits p.dropping ws (Profile r) ≡ None) × Stands t (record { reader = after; resolver = kept; in_cell = p.in_cell; dropping = p.dropping; report = p.report }) (ws ++ Profile r ∷ [])
    element_taken after kept is h = plain_taken s r of unbarred alone after kept p.in_cell is refl h
