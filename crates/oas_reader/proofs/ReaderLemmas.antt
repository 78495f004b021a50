-- a reader that has taken one more record
use Rattle.std.proofs.Common.{◌≡◌, ℕ, List, [], ◌∷◌, ◌++◌, reverse, refl, sym, ap, ◌∙◌, subst, ◌⊎◌}
use Rattle.std.proofs.lemmas.List.{reverse-append}
use Rattle.std.specs.Prelude.{Option, None, Some}
use Rattle.oas_num.specs.declared.refusals.Refusal.{Refusal as OneRefusal}
use Rattle.oas_num.specs.declared.refusals.Why.{Why}
use Rattle.oas_num.specs.declared.refusals.Why.TheVariants.{Memory}
use Rattle.oas_record.specs.declared.records.Record.{Record}
use Rattle.oas_record.specs.declared.records.Record.TheVariants as record_of
use Rattle.oas_elements.specs.declared.limits.Limits.{Limits}
use Rattle.oas_reader.specs.declared.parts.Parts.{Parts}
use Rattle.oas_drawing.specs.Modal.{modal_of}
use Rattle.oas_drawing.specs.Drawing.{elements_at}
use Rattle.oas_reader.specs.Names.{Table, TableRepresents, cell_names, text_strings, same_string, table_reason, name_reason}
use Rattle.oas_reader.specs.Meaning.{DrawnCell, cells_drawn}
use Rattle.oas_reader.specs.Standing.{Standing, took, reason, MayRunOut, drawn_after}
use Rattle.oas_reader.specs.Stores.{Store, HoldCells}
use Rattle.oas_reader.specs.Stands.{seen, refused_after, refusal, ReaderState, Represents}
use Rattle.oas_reader.specs.Parts.{standing, cells, reason_of, Took}
use Rattle.oas_reader.proofs.NameTables.{same_reason, one_more}
use Rattle.oas_reader.proofs.StandingSteps.{seen_step}

-- ---- what is drawn

drawn_more : (before : List Record) (r : Record) → drawn_after (cells_drawn elements_at before) (modal_of (r ∷ before)) r ≡ cells_drawn elements_at (r ∷ before)
drawn_more before (record_of.Cell c) = refl
drawn_more before _ = refl

-- ---- names

cells_allowed : (limits : Limits) (N S : Record → Option Why) (s : Standing) (before : List Record) (r : Record) → ((x : Record) → N x ≡ name_reason same_string cell_names before x)
    → reason limits N S s r ≡ None → name_reason same_string cell_names before r ≡ None
cells_allowed limits N S s before (record_of.CellName name number) n h = sym (n (record_of.CellName name number)) ∙ h
cells_allowed limits N S s before _ n h = refl

strings_allowed : (limits : Limits) (N S : Record → Option Why) (s : Standing) (before : List Record) (r : Record) → ((x : Record) → S x ≡ name_reason same_string text_strings before x)
    → reason limits N S s r ≡ None → name_reason same_string text_strings before r ≡ None
strings_allowed limits N S s before (record_of.TextString label number) n h = sym (n (record_of.TextString label number)) ∙ h
strings_allowed limits N S s before _ n h = refl

-- ---- a reader

-- what contracts see of a reader
abbrev pub seen_as : {S : Type 0} → Option OneRefusal → Parts S → ReaderState S
seen_as failed p = record { failed = failed; unit = p.unit; limits = p.limits; profile = p.profile; standing = standing p; names = p.names; strings = p.strings; cells = cells p }

-- what is kept is that of these records
pub record KeptFor {S : Type 0} (t : Store S) (p : Parts S) (before : List Record) : Type 0 where
  pub at : standing p ≡ seen before
  pub named : TableRepresents cell_names p.names before
  pub strung : TableRepresents text_strings p.strings before
  pub holds : HoldCells t (cells p) (cells_drawn elements_at before)

module _ {S : Type 0} (t : Store S) where
  pub judged_as : (p : Parts S) (before : List Record) (r : Record) → KeptFor t p before → reason_of p r ≡ refused_after p.limits before r
  judged_as p before r k =
      (λ i. reason p.limits (λ x. same_reason same_string cell_names p.names before x k.named i) (λ x. same_reason same_string text_strings p.strings before x k.strung i) (k.at i) r)

  pub kept_more : (p q : Parts S) (before : List Record) (r : Record) → KeptFor t p before → reason_of p r ≡ None → Took t p r q → KeptFor t q (r ∷ before)
  kept_more p q before r k none took_one =
      let there : standing q ≡ seen (r ∷ before) = took_one.standing ∙ (ap (λ (s : Standing). took s r) k.at ∙ sym (seen_step before r)) in
      let drawn : drawn_after (cells_drawn elements_at before) q.modal r ≡ cells_drawn elements_at (r ∷ before) =
      ap (λ (s : Standing). drawn_after (cells_drawn elements_at before) s.modal r) there ∙ drawn_more before r in
      record {
        at = there;
        named =
            subst (λ (n : Table (List ℕ)). TableRepresents cell_names n (r ∷ before)) (sym took_one.names)
            (one_more same_string cell_names p.names before r k.named
            (cells_allowed p.limits (λ x. table_reason same_string p.names (cell_names x)) (λ x. table_reason same_string p.strings (text_strings x)) (standing p) before r
            (λ x. same_reason same_string cell_names p.names before x k.named) none));
        strung =
            subst (λ (n : Table (List ℕ)). TableRepresents text_strings n (r ∷ before)) (sym took_one.strings)
            (one_more same_string text_strings p.strings before r k.strung
            (strings_allowed p.limits (λ x. table_reason same_string p.names (cell_names x)) (λ x. table_reason same_string p.strings (text_strings x)) (standing p) before r
            (λ x. same_reason same_string text_strings p.strings before x k.strung) none));
        holds = subst (λ (ds : List DrawnCell). HoldCells t (cells q) ds) drawn (took_one.cells (cells_drawn elements_at before) k.holds);
      }

  pub kept_of : (failed : Option OneRefusal) (p : Parts S) (s : ReaderState S) (rs : List Record) → ◌≡◌ {A = ReaderState S} (seen_as failed p) s → Represents t s rs → KeptFor t p (reverse rs)
  kept_of failed p s rs view h =
      let g : Represents t (seen_as failed p) rs = subst (λ (v : ReaderState S). Represents t v rs) (sym view) h in
      record { at = g.standing; named = g.names; strung = g.strings; holds = g.cells }

  pub take_ok : (failed : Option OneRefusal) (p q : Parts S) (s : ReaderState S) (rs : List Record) (r : Record) → ◌≡◌ {A = ReaderState S} (seen_as failed p) s → Represents t s rs → reason_of p r
      ≡ None → Took t p r q → (refusal s.limits rs r ≡ None) × Represents t (seen_as failed q) (rs ++ r ∷ [])
  take_ok failed p q s rs r view h none took_one =
      let k : KeptFor t p (reverse rs) = kept_of failed p s rs view h in
      let back : r ∷ reverse rs ≡ reverse (rs ++ r ∷ []) = sym (reverse-append rs (r ∷ [])) in
      let more : KeptFor t q (reverse (rs ++ r ∷ [])) = subst (KeptFor t q) back (kept_more p q (reverse rs) r k none took_one) in (
        ap (λ (v : ReaderState S). refusal v.limits rs r) (sym view) ∙ (sym (judged_as p (reverse rs) r k) ∙ none),
        record { sound = ap (λ (v : ReaderState S). v.failed) view ∙ h.sound; standing = more.at; names = more.named; strings = more.strung; cells = more.holds },
      )

  pub take_err : (failed : Option OneRefusal) (p : Parts S) (s : ReaderState S) (rs : List Record) (r : Record) (why : Why) → ◌≡◌ {A = ReaderState S} (seen_as failed p) s → Represents t s rs
      → ((why ≡ Memory) × MayRunOut (reason_of p r)) ⊎ (reason_of p r ≡ Some why) → ((why ≡ Memory) × MayRunOut (refusal s.limits rs r)) ⊎ (refusal s.limits rs r ≡ Some why)
  take_err failed p s rs r why view h refused =
      let judged : reason_of p r ≡ refusal s.limits rs r = judged_as p (reverse rs) r (kept_of failed p s rs view h) ∙ ap (λ (v : ReaderState S). refusal v.limits rs r) view in
      subst (λ (o : Option Why). ((why ≡ Memory) × MayRunOut o) ⊎ (o ≡ Some why)) judged refused
