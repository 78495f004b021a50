-- Records of the profile among those of the standard.
use Rattle.std.proofs.Common.{◌≡◌, ℕ, Bool, true, false, inl, inr, List, [], Option, Some, None, refl, sym, ap, subst, ◌∙◌, arith}
use Rattle.std.specs.Option.{option_map}
use Rattle.std.specs.Prelude.{◌==◌}
use Rattle.std.proofs.lemmas.List.{append-nil}
use Rattle.oas_num.specs.Combinators.{IsEither}
use Rattle.oas_num.specs.Grammar.{IsPair, IsImage}
use Rattle.oas_num.specs.Integers.{IsUnsigned}
use Rattle.oas_num.specs.Style.{Any}
use Rattle.oas_record.specs.declared.placements.Placement.{Placement}
use Rattle.oas_record.specs.declared.placements.Turn.{Turn}
use Rattle.oas_record.specs.declared.placements.Turn.TheVariants.{Quarters, Degrees}
use Rattle.oas_record.specs.declared.records.Record.{Record}
use Rattle.oas_record.specs.declared.records.Record.TheVariants as record_of
use Rattle.oas_record.specs.declared.references.CellRef.{CellRef}
use Rattle.oas_record.specs.declared.references.CellRef.TheVariants as cell
use Rattle.oas_record.specs.declared.spots.Spot.{Spot}
use Rattle.oas_record.specs.Ends.{end_in}
use Rattle.oas_record.specs.Info.{has}
use Rattle.oas_record.specs.Placements.{degrees_in}
use Rattle.oas_record.specs.Records.{id_of, after_id, record_in}
use Rattle.oas_record.specs.Refusals.{is_known}
use Rattle.oas_record.proofs.IdLemmas.{either_id, id_after}
use Rattle.oas_standard.specs.declared.ends.Validation.TheVariants.{Unvalidated}
use Rattle.oas_standard.specs.declared.placements.WidePlacement.{WidePlacement}
use Rattle.oas_standard.specs.declared.records.WideRecord.{WideRecord}
use Rattle.oas_num.specs.declared.padding.Padding.{Padding}
use Rattle.oas_num.specs.Texts.{SpellsPadding}
use Rattle.oas_standard.specs.Ends.{SpellsWideEnd, SpellsValidation}
use Rattle.oas_standard.specs.Long.{IsLong, long_padding, long_unsigned}
use Rattle.oas_standard.specs.Placements.{SpellsPlacement, as_wide}
use Rattle.oas_standard.specs.Reals.{wide_of}
use Rattle.oas_standard.specs.WideRecords.{profile, end, property_name, property_string, layers_named, textlayers_named, a_placement, a_trapezoid, a_named_trapezoid, a_property, last_property, extension_name, extension_element, a_geometry, a_block}
use Rattle.oas_long_integers.specs.AnyLength.{IsAnyLength, first_of}
use Rattle.oas_long_integers.specs.Places.{shortened}
use Rattle.oas_standard.proofs.AnyLengthLemmas.{short_spelled}
use Rattle.oas_standard.proofs.HeadLemmas.{offsets_widened}
use Rattle.oas_standard.proofs.RealLemmas.{real_if_widened}
use Rattle.oas_standard.proofs.WideLemmas.{either_split}
use Rattle.oas_standard.specs.WideRecords.{foreign, fields_in, is_profile_id, wide_record_in, inner_widened, widened, AnyLengthAfter}

-- ---- a record of the profile is one of the standard

-- scheme 0 has no signature
unvalidated : (n : ℕ) (bytes : List ℕ) → n ≡ 0 → IsUnsigned n bytes → SpellsValidation Unvalidated bytes
unvalidated n bytes is s = record {
  from = (0, None);
  is = refl;
  spelled = record {
    front = bytes;
    back = [];
    first = record { holds = omega arith; spelled = subst (λ (k : ℕ). IsLong k bytes) is (long_unsigned n bytes s) };
    second = refl;
    joined = sym (append-nil bytes);
  };
}

-- a skipped string, with its length in at most ten bytes
padded : (padding : Padding) (bytes : List ℕ) → SpellsPadding padding bytes → long_padding.any padding bytes
padded padding bytes p = record {
  from = (padding.length, padding);
  is = refl;
  spelled = record { front = p.front; back = p.back; first = long_unsigned padding.length p.front p.first; second = p.second; joined = p.joined };
}

end_widened : (in_end : Bool) (v : Unit {0}) (bytes : List ℕ) → end_in Any in_end v bytes → SpellsWideEnd in_end (record { validation = Unvalidated }) bytes
end_widened in_end v bytes p =
    let s = p.spelled in
    let t = s.second in
    record {
      from = (tt, (p.from.1.0, Unvalidated));
      is = refl;
      spelled = record {
        front = s.front;
        back = s.back;
        first = offsets_widened in_end p.from.0 s.front s.first;
        second = record { front = t.front; back = t.back; first = padded p.from.1.0 t.front t.first; second = unvalidated p.from.1.1 t.back t.second.holds t.second.spelled; joined = t.joined };
        joined = s.joined;
      };
    }

inner : (in_end : Bool) (r : Record) (bytes : List ℕ) → is_profile_id (id_of r) ≡ true → record_in Any in_end r bytes → wide_record_in in_end (profile r) bytes
inner in_end r bytes is p =
    let b = p.parts in
    record {
      id = id_of r;
      whole = λ e. let no : false ≡ true = ap is_profile_id (sym e) ∙ is in absurd cc;
      parts = record {
        front = b.front;
        back = b.back;
        first = long_unsigned _ b.front b.first;
        second = short_spelled in_end (id_of r) is r b.back b.second;
        joined = b.joined;
      };
    }

-- a placement as one by reals
as_turned : Placement → WidePlacement
as_turned p = elim p.turn [ Quarters turns ↦ as_wide p None None | Degrees magnification angle ↦ as_wide p magnification angle ]

degrees_widened : (p : Placement) (bytes : List ℕ) → degrees_in Any p bytes → SpellsPlacement (as_turned p) bytes
unfolding as_turned
degrees_widened p bytes d =
    let info : ℕ = d.from.0 in
    let s = d.spelled in
    let cell = s.second in
    let magnification = cell.second in
    let angle = magnification.second in
    record {
      from = (info, (d.from.1.0, (option_map wide_of d.from.1.1.0, (option_map wide_of d.from.1.1.1.0, d.from.1.1.1.1))));
      is = ap as_turned d.is;
      spelled = record {
        front = s.front;
        back = s.back;
        first = s.first.spelled;
        second = record {
          front = cell.front;
          back = cell.back;
          first = cell.first;
          second = record {
            front = magnification.front;
            back = magnification.back;
            first = real_if_widened (has info 4) d.from.1.1.0 magnification.front magnification.first;
            second = record {
              front = angle.front;
              back = angle.back;
              first = real_if_widened (has info 2) d.from.1.1.1.0 angle.front angle.first;
              second = angle.second;
              joined = angle.joined;
            };
            joined = magnification.joined;
          };
          joined = cell.joined;
        };
        joined = s.joined;
      };
    }

same_placement : (p q : Placement) → record_of.Placement p ≡ record_of.Placement q → p ≡ q
same_placement p q e = cc

placed : (in_end : Bool) (c : Option CellRef) (turn : Turn) (flip : Bool) (at : Spot) (bytes : List ℕ) →
    let p : Placement = record { cell = c; turn = turn; flip = flip; spot = at } in record_in Any in_end (record_of.Placement p) bytes → wide_record_in in_end (inner_widened (record_of.Placement p)) bytes
unfolding as_turned is_known
placed in_end c (Quarters turns) flip at bytes p = inner in_end _ bytes refl p
placed in_end c (Degrees magnification angle) flip at bytes p =
    let b = p.parts in
    let v : Placement = record { cell = c; turn = Degrees magnification angle; flip = flip; spot = at } in
    record {
      id = 18;
      whole = λ e. absurd cc;
      parts = record {
        front = b.front;
        back = b.back;
        first = long_unsigned _ b.front b.first;
        second = record {
          from = as_wide v magnification angle;
          is = refl;
          spelled = subst (λ (w : Placement). SpellsPlacement (as_turned w) b.back) (same_placement b.second.from v b.second.is) (degrees_widened b.second.from b.back b.second.spelled);
        };
        joined = b.joined;
      };
    }

pub widen : (in_end : Bool) (r : Record) (bytes : List ℕ) → record_in Any in_end r bytes → wide_record_in in_end (widened r) bytes
unfolding is_known
widen in_end record_of.End bytes p =
    let b = p.parts in
    record {
      id = 2;
      whole = λ e. p.whole refl;
      parts = record {
        front = b.front;
        back = b.back;
        first = long_unsigned _ b.front b.first;
        second = record { from = (record { validation = Unvalidated }); is = refl; spelled = end_widened in_end b.second.from b.back b.second.spelled };
        joined = b.joined;
      };
    }
widen in_end (record_of.Placement v) bytes p = placed in_end v.cell v.turn v.flip v.spot bytes p
widen in_end (record_of.CellName name None) bytes p = inner in_end (record_of.CellName name None) bytes refl p
widen in_end (record_of.CellName name (Some number)) bytes p = inner in_end (record_of.CellName name (Some number)) bytes refl p
widen in_end (record_of.TextString label None) bytes p = inner in_end (record_of.TextString label None) bytes refl p
widen in_end (record_of.TextString label (Some number)) bytes p = inner in_end (record_of.TextString label (Some number)) bytes refl p
widen in_end (record_of.Cell (cell.Number number)) bytes p = inner in_end (record_of.Cell (cell.Number number)) bytes refl p
widen in_end (record_of.Cell (cell.Name name)) bytes p = inner in_end (record_of.Cell (cell.Name name)) bytes refl p
widen in_end r bytes p = inner in_end r bytes refl p

-- ---- and nothing else spells it

by_kind : {C : Type 0} (id n : ℕ) (A B : WideRecord → List ℕ → Type 0) (v : WideRecord) (q : List ℕ) → (A v q → C) → (B v q → C) → IsEither (id == n) A B v q → C
by_kind id n A B v q here other h = elim (either_id id n A B v q h) [ inl p ↦ here p.1 | inr r ↦ other r ]

no_image : {U : Type 0} {A : U → List ℕ → Type 0} {v : WideRecord} {q : List ℕ} (f : U → WideRecord) → ((u : U) → f u ≡ v → ⊥) → IsImage f A v q → ⊥
no_image f other p = other p.from p.is

not_foreign : (in_end : Bool) (id : ℕ) (r : Record) (q : List ℕ) → (foreign in_end id).any (profile r) q → ⊥
not_foreign in_end id r q =
    by_kind id 2 _ _ (profile r) q (no_image end (λ u e. cc))
    (by_kind id 7 _ _ (profile r) q (no_image property_name (λ u e. cc))
    (by_kind id 8 _ _ (profile r) q (no_image property_name (λ u e. cc))
    (by_kind id 9 _ _ (profile r) q (no_image property_string (λ u e. cc))
    (by_kind id 10 _ _ (profile r) q (no_image property_string (λ u e. cc))
    (by_kind id 11 _ _ (profile r) q (no_image layers_named (λ u e. cc))
    (by_kind id 12 _ _ (profile r) q (no_image textlayers_named (λ u e. cc))
    (by_kind id 18 _ _ (profile r) q (no_image a_placement (λ u e. cc))
    (by_kind id 23 _ _ (profile r) q (no_image a_trapezoid (λ u e. cc))
    (by_kind id 24 _ _ (profile r) q (no_image a_trapezoid (λ u e. cc))
    (by_kind id 25 _ _ (profile r) q (no_image a_trapezoid (λ u e. cc))
    (by_kind id 26 _ _ (profile r) q (no_image a_named_trapezoid (λ u e. cc))
    (by_kind id 28 _ _ (profile r) q (no_image a_property (λ u e. cc))
    (by_kind id 29 _ _ (profile r) q (no_image last_property (λ u e. cc))
    (by_kind id 30 _ _ (profile r) q (no_image extension_name (λ u e. cc))
    (by_kind id 31 _ _ (profile r) q (no_image extension_name (λ u e. cc))
    (by_kind id 32 _ _ (profile r) q (no_image extension_element (λ u e. cc))
    (by_kind id 33 _ _ (profile r) q (no_image a_geometry (λ u e. cc))
    (by_kind id 34 _ _ (profile r) q (no_image a_block (λ u e. cc)) (λ h. h)))))))))))))))))))

-- it is what follows its own id
fields_narrowed : (in_end : Bool) (id : ℕ) (r : Record) (q : List ℕ) → fields_in in_end id (profile r) q → IsAnyLength (first_of id) (after_id Any in_end id) r q
fields_narrowed in_end id r q h = elim (either_split (is_profile_id id) _ _ (profile r) q h) [
  | inl p ↦ (let is : profile p.from ≡ profile r = p.is in let same : p.from ≡ r = cc in subst (λ (v : Record). IsAnyLength (first_of id) (after_id Any in_end id) v q) same p.spelled)
  | inr p ↦ absurd (not_foreign in_end id r q p)
]

pub narrowed : (in_end : Bool) (r : Record) (bytes : List ℕ) → wide_record_in in_end (profile r) bytes → IsPair IsLong (AnyLengthAfter in_end) (id_of r, r) bytes
narrowed in_end r bytes p =
    let b = p.parts in
    let spelled = fields_narrowed in_end p.id r b.back b.second in
    let is : id_of r ≡ p.id = id_after in_end p.id r (shortened (first_of p.id) b.back) spelled.spelled in
    record {
      front = b.front;
      back = b.back;
      first = subst (λ (k : ℕ). IsLong k b.front) (sym is) b.first;
      second = subst (λ (k : ℕ). AnyLengthAfter in_end k r b.back) (sym is) spelled;
      joined = b.joined;
    }
