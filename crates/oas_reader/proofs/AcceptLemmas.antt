-- What END refuses of the cells that were drawn.
use Rattle.std.proofs.Common.{◌≡◌, ℕ, ◌<◌, ◌≤◌, ◌⊎◌, inl, inr, List, [], ◌∷◌, Bool, true, false, cond, Option, None, Some, reverse, refl, sym, ◌∙◌, ap, arith}
use Rattle.std.specs.Prelude.{nat_lt, ◌^◌, map}
use Rattle.std.specs.Map.{keys_of}
use Rattle.std.proofs.lemmas.Bool.Decides.{nat_tests}
use Rattle.oas_num.specs.declared.refusals.Refusal.{Refusal as OneRefusal}
use Rattle.oas_num.specs.declared.refusals.Why.{Why}
use Rattle.oas_num.specs.declared.refusals.Why.TheVariants.{Memory, UnknownReference, DuplicateCell, TooHeavy}
use Rattle.oas_record.specs.declared.records.Record.{Record}
use Rattle.oas_elements.specs.declared.limits.Limits.{Limits}
use Rattle.oas_elements.specs.Meaning.{cells_weight}
use Rattle.oas_drawing.specs.Drawing.{elements_at}
use Rattle.oas_reader.specs.declared.parts.Parts.{Parts}
use Rattle.oas_reader.specs.Names.{named, cell_names, text_strings}
use Rattle.oas_reader.specs.References.{cell_by}
use Rattle.oas_reader.specs.Meaning.{DrawnCell, elements_by_name, with_named, cells_by_name, lacks_name, with_name, names_meant, has_twice, end_reason, cells_drawn}
use Rattle.oas_reader.specs.Stores.{Store, HoldCells}
use Rattle.oas_reader.specs.Weights.{capped, all_weight}
use Rattle.oas_reader.specs.Counted.{Counted, counted_store}
use Rattle.oas_reader.specs.Parts.{cells}
use Rattle.oas_reader.specs.Stands.{ReaderState, Represents, end_refusal}
use Rattle.oas_reader.proofs.WeighLemmas.{all_known}
use Rattle.oas_reader.proofs.FinishLemmas.{end_same}
use Rattle.oas_reader.proofs.ReaderLemmas.{seen_as, KeptFor, kept_of}

-- ---- three tests in order

abbrev first_why : Bool → Bool → Bool → Option Why
first_why l t h = cond l (Some UnknownReference) (cond t (Some DuplicateCell) (cond h (Some TooHeavy) None))

why_lacks : (l t h : Bool) (w : ℕ) → ◌≡◌ {A = Option ℕ} None (cond l None (Some w)) → first_why l t h ≡ Some UnknownReference
why_lacks true t h w e = refl
why_lacks false t h w e = cc

why_known : (l : Bool) (v w : ℕ) → Some v ≡ cond l None (Some w) → (l ≡ false) × (v ≡ w)
why_known true v w e = cc
why_known false v w e = (refl, cc)

heavier : (m v w : ℕ) → m < v → v ≡ capped w → nat_lt m w ≡ true
heavier m v w h e = let more : m < w = omega (arith, h, e) in grind (arith, nat_tests)

lighter : (m v w : ℕ) → m ≤ 2 ^ 30 → v ≤ m → v ≡ capped w → nat_lt m w ≡ false
lighter m v w s h e = let few : w ≤ m = grind arith in grind (arith, nat_tests)

-- ---- cells by what was drawn

-- they have the names of those that they represent
names_held : {S : Type 0} (t : Store S) (names strings : List (ℕ × List ℕ)) (ss : List S) (ds : List DrawnCell) → HoldCells t ss ds → names_meant names (map t.cell ss) ≡ keys_of (cells_by_name names strings ds)
names_held t names strings [] [] h = refl
names_held t names strings [] (d ∷ ds) h = absurd h
names_held t names strings (s ∷ ss) [] h = absurd h
names_held t names strings (s ∷ ss) (d ∷ ds) h =
    ap (λ r. with_name (cell_by names r) (names_meant names (map t.cell ss))) h.0 ∙ by (cell_by names d.0) (names_held t names strings ss ds h.2) where
      by : (o : Option (List ℕ)) → names_meant names (map t.cell ss) ≡ keys_of (cells_by_name names strings ds) →
          with_name o (names_meant names (map t.cell ss)) ≡ keys_of (with_named o (elements_by_name names strings d.1) (cells_by_name names strings ds))
      by None e = e
      by (Some name) e = ap (λ (ns : List (List ℕ)). name ∷ ns) e

module _ {S : Type 0} (t : Store S) (names strings : List (ℕ × List ℕ)) (limits : Limits) (ss : List S) (ds : List DrawnCell) (h : HoldCells t ss ds) where
  abbrev whole : ℕ
  whole = cells_weight (cells_by_name names strings ds)

  pub end_lacks : None ≡ all_weight names strings ds → end_reason names strings limits ds ≡ Some UnknownReference
  end_lacks e =
      why_lacks (lacks_name names strings ds) (has_twice (keys_of (cells_by_name names strings ds))) (nat_lt limits.weight whole) (capped whole) (e ∙ all_known names strings ds)

  pub end_twice : (v : ℕ) → Some v ≡ all_weight names strings ds → has_twice (names_meant names (map t.cell ss)) ≡ true → end_reason names strings limits ds ≡ Some DuplicateCell
  end_twice v e twice =
      let known = why_known (lacks_name names strings ds) v (capped whole) (e ∙ all_known names strings ds) in
      let twice : has_twice (keys_of (cells_by_name names strings ds)) ≡ true = sym (ap has_twice (names_held t names strings ss ds h)) ∙ twice in
      λ i. first_why (known.0 i) (twice i) (nat_lt limits.weight whole)

  pub end_heavy : (v : ℕ) → Some v ≡ all_weight names strings ds → has_twice (names_meant names (map t.cell ss)) ≡ false → limits.weight < v → end_reason names strings limits ds ≡ Some TooHeavy
  end_heavy v e once w =
      let known = why_known (lacks_name names strings ds) v (capped whole) (e ∙ all_known names strings ds) in
      let once : has_twice (keys_of (cells_by_name names strings ds)) ≡ false = sym (ap has_twice (names_held t names strings ss ds h)) ∙ once in
      let heavy = heavier limits.weight v whole w known.1 in
      λ i. first_why (known.0 i) (once i) (heavy i)

  pub end_none : (v : ℕ) → Some v ≡ all_weight names strings ds → has_twice (names_meant names (map t.cell ss)) ≡ false → limits.weight ≤ 2 ^ 30 → v ≤ limits.weight →
      end_reason names strings limits ds ≡ None
  end_none v e once small w =
      let known = why_known (lacks_name names strings ds) v (capped whole) (e ∙ all_known names strings ds) in
      let once : has_twice (keys_of (cells_by_name names strings ds)) ≡ false = sym (ap has_twice (names_held t names strings ss ds h)) ∙ once in
      let light = lighter limits.weight v whole small w known.1 in
      λ i. first_why (known.0 i) (once i) (light i)

-- ---- a reader that counts

module _ (failed : Option OneRefusal) (p : Parts Counted) (t : ReaderState Counted) (rs : List Record)
    (view : ◌≡◌ {A = ReaderState Counted} (seen_as failed p) t) (h : Represents counted_store t rs) where
  kept : KeptFor counted_store p (reverse rs)
  kept = kept_of counted_store failed p t rs view h

  ended_as : end_reason p.names.named p.strings.named p.limits (cells_drawn elements_at (reverse rs)) ≡ end_refusal t.limits rs
  ended_as =
      end_same p.names.named (named cell_names (reverse rs)) p.strings.named (named text_strings (reverse rs)) kept.named.agrees kept.strung.agrees p.limits (cells_drawn elements_at (reverse rs))
      ∙ ap (λ (v : ReaderState Counted). end_refusal v.limits rs) view

  pub counting_accepted : ((ds : List DrawnCell) → HoldCells counted_store (cells p) ds → end_reason p.names.named p.strings.named p.limits ds ≡ None) → end_refusal t.limits rs ≡ None
  counting_accepted none = sym ended_as ∙ none (cells_drawn elements_at (reverse rs)) kept.holds

  pub counting_refused : (why : Why) → ((ds : List DrawnCell) → HoldCells counted_store (cells p) ds → (why ≡ Memory)
      ⊎ (end_reason p.names.named p.strings.named p.limits ds ≡ Some why)) → (why ≡ Memory) ⊎ (end_refusal t.limits rs ≡ Some why)
  counting_refused why some = by (some (cells_drawn elements_at (reverse rs)) kept.holds) where
    by : (why ≡ Memory) ⊎ (end_reason p.names.named p.strings.named p.limits (cells_drawn elements_at (reverse rs)) ≡ Some why) → (why ≡ Memory) ⊎ (end_refusal t.limits rs ≡ Some why)
    by (inl m) = inl m
    by (inr e) = inr (sym ended_as ∙ e)
