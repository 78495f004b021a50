-- PADs, which change nothing.
use Rattle.std.proofs.Common.{◌≡◌, ℕ, zero, suc, ◌+◌, Bool, true, false, List, [], ◌∷◌, ◌++◌, reverse, None, refl, sym, ap, subst, ◌∙◌, append_assoc, arith}
use Rattle.std.specs.Prelude.{if◌then◌else◌, Result, Ok}
use Rattle.std.proofs.lemmas.List.{append-nil, reverse-append}
use Rattle.oas_record.specs.declared.records.Record.{Record}
use Rattle.oas_record.specs.declared.records.Record.TheVariants.{Pad}
use Rattle.oas_record.specs.Records.{record_in}
use Rattle.oas_num.specs.Laws.IntegerLaws.{zero_spelled}
use Rattle.oas_num.specs.Style.{Any}
use Rattle.oas_elements.specs.declared.limits.Limits.{Limits}
use Rattle.oas_narrow.specs.Drawing.{elements_at}
use Rattle.oas_narrow.specs.Modal.{modal_of}
use Rattle.oas_narrow.specs.Meaning.{cells_drawn}
use Rattle.oas_narrow.specs.Names.{Table, TableRepresents, cell_names, text_strings}
use Rattle.oas_narrow.specs.Stands.{Represents, ReaderState, seen, is_in_cell, number_drawn, weight_so_far_of}
use Rattle.oas_narrow.specs.Stores.{Store, HoldCells}
use Rattle.oas_narrow.proofs.StoreLemmas.{hold_none}
use Rattle.oas_narrow.specs.WideWhy.{WideWhy}
use Rattle.oas_narrow.specs.WideRecord.{WideRecord}
use Rattle.oas_narrow.specs.WideRecord.TheVariants.{Profile}
use Rattle.oas_narrow.proofs.WidenedLemmas.{widen}
use Rattle.oas_narrow.specs.declared.dropping.Dropping.{Dropping}
use Rattle.oas_narrow.specs.Narrowing.{kept_of, translated_after, listed, narrowed, translated_obstacle}
use Rattle.oas_narrow.specs.Preparable.{AllPrepared}
use Rattle.oas_narrow.specs.WideFiles.{inner_in}
use Rattle.oas_prepare.specs.Places.{pads}
use Rattle.oas_prepare.specs.Taking.{State, Stands, obstacle_next}
use Rattle.oas_prepare.proofs.Fronts.{allowed_more}
use Rattle.oas_prepare.proofs.Narrowed.{narrowed-more, kept-more, open-more, report-more}

abbrev pub pad : WideRecord
pad = Profile Pad

-- ---- its spelling

pad_spelled : (in_end : Bool) → record_in Any in_end Pad (0 ∷ [])
pad_spelled in_end = record {
  whole = λ e. absurd cc;
  parts = record { front = 0 ∷ []; back = []; first = zero_spelled; second = record { from = tt; is = refl; spelled = refl }; joined = refl };
}

pub pad_in : (in_end : Bool) → inner_in in_end pad (0 ∷ [])
pad_in in_end = record { holds = record { no_end = λ end e. cc; no_block = λ head e. cc }; spelled = widen in_end Pad (0 ∷ []) (pad_spelled in_end) }

-- ---- the reader

none_more : (n : ℕ) → n + 0 ≡ n
none_more n = omega arith

seen_pad : (rs : List Record) → seen (Pad ∷ rs) ≡ seen rs
seen_pad rs = λ i. record { modal = modal_of rs; in_cell = is_in_cell rs; count = none_more (number_drawn rs) i; weight = none_more (weight_so_far_of rs) i }

cells_pad : (t : Table (List ℕ)) (rs : List Record) → TableRepresents cell_names t rs → TableRepresents cell_names t (Pad ∷ rs)
cells_pad t rs n = record { numbering = n.numbering; agrees = n.agrees; next = n.next; free = n.free }

strings_pad : (t : Table (List ℕ)) (rs : List Record) → TableRepresents text_strings t rs → TableRepresents text_strings t (Pad ∷ rs)
strings_pad t rs n = record { numbering = n.numbering; agrees = n.agrees; next = n.next; free = n.free }

reader_pad : {C : Type 0} (t : Store C) (r : ReaderState C) (rs : List Record) → Represents t r rs → Represents t r (rs ++ Pad ∷ [])
reader_pad t r rs s = record {
  sound = s.sound;
  standing = s.standing ∙ sym (seen_pad (reverse rs)) ∙ ap seen back;
  names = subst (TableRepresents cell_names r.names) back (cells_pad r.names (reverse rs) s.names);
  strings = subst (TableRepresents text_strings r.strings) back (strings_pad r.strings (reverse rs) s.strings);
  cells = subst (λ (b : List Record). HoldCells t r.cells (cells_drawn elements_at b)) back (hold_none t r.cells (cells_drawn elements_at (reverse rs)) s.cells);
} where
  back : Pad ∷ reverse rs ≡ reverse (rs ++ Pad ∷ [])
  back = sym (reverse-append rs (Pad ∷ []))

-- ---- the result of the records

same_if : {X : Type 0} (b : Bool) (x : X) → (if b then x else x) ≡ x
same_if true x = refl
same_if false x = refl

-- it is translated to itself, whatever the modal variables are
handed_pad : (before : List WideRecord) → translated_after before pad ≡ Ok (Pad ∷ [])
handed_pad before = same_if (kept_of before).is_mixed (Ok (Pad ∷ []))

-- nothing stops it
no_obstacle : (limits : Limits) (dropping : Dropping) (ws : List WideRecord) → obstacle_next limits dropping ws pad ≡ None
no_obstacle limits dropping ws = ap (translated_obstacle limits (narrowed ws)) (handed_pad (reverse ws))

stands_pad : {C : Type 0} {t : Store C} {p : State C} {ws : List WideRecord} → Stands t p ws → Stands t p (ws ++ pad ∷ [])
stands_pad {t = t} {p = p} {ws = ws} s = record {
  reader = subst (Represents t p.reader) (sym (narrowed-more ws pad ∙ ap (λ (h : Result (List Record) WideWhy). narrowed ws ++ listed h) (handed_pad (reverse ws)))) (reader_pad t p.reader (narrowed ws) s.reader);
  resolver = s.resolver ∙ sym (kept-more ws pad);
  in_cell = s.in_cell ∙ sym (open-more ws pad);
  report = s.report ∙ sym (report-more ws pad);
}

-- ---- this many of them

pub stands_pads : {C : Type 0} {t : Store C} (count : ℕ) {p : State C} {ws : List WideRecord} → Stands t p ws → Stands t p (ws ++ pads count)
stands_pads {t = t} zero {p = p} {ws = ws} s = subst (Stands t p) (sym (append-nil ws)) s
stands_pads {t = t} (suc count) {p = p} {ws = ws} s = subst (Stands t p) (append_assoc ws (pad ∷ []) (pads count)) (stands_pads count (stands_pad s))

pub prepared_pads : (count : ℕ) (limits : Limits) (dropping : Dropping) (ws : List WideRecord) → AllPrepared limits dropping ws → AllPrepared limits dropping (ws ++ pads count)
prepared_pads zero limits dropping ws a = subst (AllPrepared limits dropping) (sym (append-nil ws)) a
prepared_pads (suc count) limits dropping ws a =
    subst (AllPrepared limits dropping) (append_assoc ws (pad ∷ []) (pads count))
    (prepared_pads count limits dropping (ws ++ pad ∷ []) (allowed_more limits dropping ws pad a (no_obstacle limits dropping ws)))
