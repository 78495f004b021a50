-- Several elements that are drawn at once: what a store, and a reader, then represent.
use Rattle.std.proofs.Common.{◌≡◌, ℕ, ◌+◌, true, false, List, [], ◌∷◌, ◌++◌, map, reverse, refl, sym, ap, ◌∙◌, subst, append_assoc, arith, is_some}
use Rattle.std.proofs.lemmas.List.{reverse-append, length-map}
use Rattle.std.proofs.lemmas.List.Sums.{sum_by-cons, sum_by-append}
use Rattle.std.specs.Prelude.{sum_by, Option, None, Some}
use Rattle.std.specs.Option.{option_to_list}
use Rattle.std.specs.List.{AllByRecursion}
use Rattle.oas_num.specs.declared.refusals.Refusal.{Refusal as OneRefusal}
use Rattle.oas_record.specs.declared.records.Record.{Record}
use Rattle.oas_elements.specs.declared.element.Element.{Element}
use Rattle.oas_elements.specs.Weight.{weight_of}
use Rattle.oas_drawing.specs.declared.drawn.Drawn.{Drawn}
use Rattle.oas_drawing.specs.declared.drawn.Drawn.TheVariants.{Named}
use Rattle.oas_drawing.specs.Drawn.{weight_so_far}
use Rattle.oas_drawing.specs.Drawing.{elements_at, place_of}
use Rattle.oas_drawing.specs.Modal.{ModalState, stepped}
use Rattle.oas_drawing.specs.Positions.{IsNear}
use Rattle.oas_reader.specs.declared.parts.Parts.{Parts}
use Rattle.oas_reader.specs.Counted.{Counted, placed_by, written_by, counted_store}
use Rattle.oas_reader.specs.Meaning.{DrawnCell, cells_drawn}
use Rattle.oas_reader.specs.Names.{Table, TableRepresents, cell_names, text_strings, same_string, numbering_of, next_number, named, reason_given, with_name}
use Rattle.oas_reader.specs.Parts.{cells, Sound}
use Rattle.oas_reader.specs.Series.{AreCounted, DrawsSeries, after_series, IsSeries, LandsNear, HasRoom, HasRoomIn, TookSeries}
use Rattle.oas_reader.specs.Standing.{Standing}
use Rattle.oas_reader.specs.Stands.{ReaderState, Represents}
use Rattle.oas_reader.specs.Stores.{Store, Draws, total_count, HoldCells}
use Rattle.oas_reader.specs.Weights.{capped}
use Rattle.oas_reader.proofs.DrawLemmas.{AllNear, near_after}
use Rattle.oas_reader.proofs.JudgedDraws.{all_front}
use Rattle.oas_reader.proofs.NameTables.{one_more}
use Rattle.oas_reader.proofs.ReaderLemmas.{seen_as, KeptFor, kept_of}
use Rattle.oas_reader.proofs.StoreLemmas.{total_append, hold_drawn}
use Rattle.oas_reader.proofs.TakeLemmas.{standing_of, all_append}
use Rattle.oas_reader.proofs.WeightLemmas.{capped_before}

-- ---- what is counted

-- elements use no number
none_placed : (f : ℕ → ℕ) (es : List Element) → sum_by (placed_by f) (map Named es) ≡ 0
none_placed f [] = refl
none_placed f (e ∷ es) = omega (arith, sum_by-cons (placed_by f) (Named e) (map Named es), none_placed f es)

none_written : (f : ℕ → ℕ) (es : List Element) → sum_by (written_by f) (map Named es) ≡ 0
none_written f [] = refl
none_written f (e ∷ es) = omega (arith, sum_by-cons (written_by f) (Named e) (map Named es), none_written f es)

-- and weigh what they weigh
weight_named : (es : List Element) → sum_by weight_so_far (map Named es) ≡ sum_by weight_of es
weight_named [] = refl
weight_named (e ∷ es) = omega (arith, sum_by-cons weight_so_far (Named e) (map Named es), sum_by-cons weight_of e es, weight_named es)

-- so the sums stay
sum_stays : (g : Drawn → ℕ) (before ds : List Drawn) → sum_by g ds ≡ 0 → sum_by g before ≡ sum_by g (before ++ ds)
sum_stays g before ds none = omega (arith, sum_by-append g before ds, none)

pub counted_series : (old new : Counted) (count weight : ℕ) → new ≡ record old { count = old.count + count; weight = capped (old.weight + weight) } → DrawsSeries counted_store old count weight new
counted_series old new count weight is =
    subst (DrawsSeries counted_store old count weight) (sym is) (record {
      cell_is = refl;
      count_is = refl;
      sound = λ h. h;
      holds = λ before es are b. record {
        weight = ap (λ (w : ℕ). capped (w + weight)) b.weight ∙ capped_before (sum_by weight_so_far before) weight
            ∙ ap capped (ap (λ (w : ℕ). sum_by weight_so_far before + w) (sym (weight_named es ∙ are.weighs)) ∙ sym (sum_by-append weight_so_far before (map Named es)));
        placed = λ f. b.placed f ∙ sum_stays (placed_by f) before (map Named es) (none_placed f es);
        written = λ f. b.written f ∙ sum_stays (written_by f) before (map Named es) (none_written f es);
      };
    })

-- ---- what is kept

module _ {S : Type 0} (t : Store S) where
  -- elements of a series are drawn
  draws_these : (old new : S) (count weight : ℕ) (es : List Element) → DrawsSeries t old count weight new → AreCounted count weight es → Draws t old (map Named es) new
  draws_these old new count weight es d are = record {
    cell = d.cell_is;
    count = d.count_is ∙ ap (λ (n : ℕ). t.count old + n) (sym (length-map es Named ∙ are.number));
    sound = d.sound;
    holds = λ before h. d.holds before es are h;
  }

  module _ (p : Parts S) (held held' : S) (last : Record) (m : ModalState) (count weight : ℕ) (held_is : p.cell ≡ Some held) (modal_is : m ≡ stepped p.modal last)
      (drawn : DrawsSeries t held count weight held') where
    abbrev pub ran : Parts S
    ran = record p { modal = m; cell = Some held'; count = p.count + count; weight = p.weight + weight }

    pub took_series : TookSeries t p last count weight ran
    took_series =
        let inside : true ≡ is_some p.cell = sym (ap (λ (o : Option S). is_some o) held_is) in
        record {
          file = record { unit = refl; limits = refl; profile = refl };
          standing = (λ i. standing_of (modal_is i) (inside i) (p.count + count) (p.weight + weight));
          names = refl;
          strings = refl;
          cells = λ ds es are h.
              hold_drawn t held held' (map Named es) (draws_these held held' count weight es drawn are) p.done.items ds
              (subst (λ (o : Option S). HoldCells t (p.done.items ++ option_to_list o) ds) held_is h);
        }

    pub sound_series : Sound t p → HasRoomIn p count weight → LandsNear p.modal last → Sound t ran
    sound_series s room lands =
        let place : IsNear (place_of m lands.kind) = subst (λ (v : ModalState). IsNear (place_of v lands.kind)) (sym modal_is) lands.near in
        let near : AllNear m = near_after p.modal m last lands.kind lands.is modal_is (s.placement, s.text, s.geometry) place in
        let before = all_front t.IsSound p.done.items (held ∷ []) (subst (λ (o : Option S). AllByRecursion t.IsSound (p.done.items ++ option_to_list o)) held_is s.sound) in
        record {
          placement = near.0;
          text = near.1;
          geometry = near.2;
          few = room.few;
          light = room.light;
          sound = all_append t.IsSound p.done.items (held' ∷ []) before.0 (drawn.sound before.1.0, tt);
          total = omega (
            arith,
            s.total,
            total_append t p.done.items (held' ∷ []),
            total_append t p.done.items (held ∷ []),
            ap (λ (o : Option S). total_count t (p.done.items ++ option_to_list o)) held_is,
            drawn.count_is,
          );
        }

-- ---- names

-- a record that names nothing
unnamed_stays : (given : Record → Option (List ℕ × Option ℕ)) (n : Table (List ℕ)) (before : List Record) (r : Record) → given r ≡ None → TableRepresents given n before → TableRepresents given n (r ∷ before)
unnamed_stays given n before r none h =
    subst (λ (o : Option (List ℕ × Option ℕ)). TableRepresents given (with_name n o) (r ∷ before)) none
    (one_more same_string given n before r h (ap (λ (o : Option (List ℕ × Option ℕ)). reason_given same_string (numbering_of given before) (next_number given before) (named given before) o) none))

-- newest first: one record, and then those after it
reverse_front : (r : Record) (rs before : List Record) → reverse (r ∷ rs) ++ before ≡ reverse rs ++ (r ∷ before)
reverse_front r rs before = ap (λ (ss : List Record). ss ++ before) (reverse-append (r ∷ []) rs) ∙ append_assoc (reverse rs) (r ∷ []) before

unnamed_series : (given : Record → Option (List ℕ × Option ℕ)) (n : Table (List ℕ)) (series before : List Record) → AllByRecursion (λ r. given r ≡ None) series → TableRepresents given n before
    → TableRepresents given n (reverse series ++ before)
unnamed_series given n [] before none h = h
unnamed_series given n (r ∷ rs) before none h =
    subst (TableRepresents given n) (sym (reverse_front r rs before)) (unnamed_series given n rs (r ∷ before) none.1 (unnamed_stays given n before r none.0 h))

no_cells : (series : List Record) → AllByRecursion (λ r. (cell_names r ≡ None) × (text_strings r ≡ None)) series → AllByRecursion (λ r. cell_names r ≡ None) series
no_cells [] h = tt
no_cells (r ∷ rs) h = (h.0.0, no_cells rs h.1)

no_strings : (series : List Record) → AllByRecursion (λ r. (cell_names r ≡ None) × (text_strings r ≡ None)) series → AllByRecursion (λ r. text_strings r ≡ None) series
no_strings [] h = tt
no_strings (r ∷ rs) h = (h.0.1, no_strings rs h.1)

-- ---- a reader

-- it has no refusal
pub not_failed : (failed : Option OneRefusal) → is_some failed ≡ false → failed ≡ None
not_failed None h = refl
not_failed (Some e) h = absurd cc

module _ {S : Type 0} (t : Store S) where
  -- the room of what is kept is that of the reader
  pub room_seen : (failed : Option OneRefusal) (p : Parts S) (s : ReaderState S) (count weight : ℕ) → ◌≡◌ {A = ReaderState S} (seen_as failed p) s → failed ≡ None → HasRoomIn p count weight → HasRoom s count weight
  room_seen failed p s count weight view going h =
      subst (λ (v : ReaderState S). HasRoom v count weight) view (record { going = going; inside = h.inside; absolute = h.absolute; few = h.few; light = h.light })

  pub room_kept : (failed : Option OneRefusal) (p : Parts S) (s : ReaderState S) (count weight : ℕ) → ◌≡◌ {A = ReaderState S} (seen_as failed p) s → HasRoom s count weight → HasRoomIn p count weight
  room_kept failed p s count weight view h =
      let g : HasRoom (seen_as failed p) count weight = subst (λ (v : ReaderState S). HasRoom v count weight) (sym view) h in
      record { inside = g.inside; absolute = g.absolute; few = g.few; light = g.light }

  pub lands_kept : (failed : Option OneRefusal) (p : Parts S) (s : ReaderState S) (last : Record) → ◌≡◌ {A = ReaderState S} (seen_as failed p) s → LandsNear s.standing.modal last → LandsNear p.modal last
  lands_kept failed p s last view h = subst (λ (v : ReaderState S). LandsNear v.standing.modal last) (sym view) h

  -- it represents the series too
  pub series_ok : (failed : Option OneRefusal) (p q : Parts S) (s : ReaderState S) (rs series : List Record) (last : Record) (count weight : ℕ) → ◌≡◌ {A = ReaderState S} (seen_as failed p) s → Represents t s rs
      → IsSeries rs series last count weight → TookSeries t p last count weight q → Represents t (seen_as failed q) (rs ++ series)
  series_ok failed p q s rs series last count weight view h is took =
      let k : KeptFor t p (reverse rs) = kept_of t failed p s rs view h in
      let back : reverse series ++ reverse rs ≡ reverse (rs ++ series) = sym (reverse-append rs series) in
      record {
        sound = ap (λ (v : ReaderState S). v.failed) view ∙ h.sound;
        standing = took.standing ∙ (ap (λ (v : Standing). after_series v last count weight) k.at ∙ sym is.standing);
        names = subst (λ (n : Table (List ℕ)). TableRepresents cell_names n (reverse (rs ++ series))) (sym took.names)
            (subst (TableRepresents cell_names p.names) back (unnamed_series cell_names p.names series (reverse rs) (no_cells series is.unnaming) k.named));
        strings = subst (λ (n : Table (List ℕ)). TableRepresents text_strings n (reverse (rs ++ series))) (sym took.strings)
            (subst (TableRepresents text_strings p.strings) back (unnamed_series text_strings p.strings series (reverse rs) (no_strings series is.unnaming) k.strung));
        cells = subst (λ (ds : List DrawnCell). HoldCells t (cells q) ds) (sym is.cells) (took.cells (cells_drawn elements_at (reverse rs)) is.elements is.counted k.holds);
      }
