-- what stores hold after more was drawn
use Rattle.std.proofs.Common.{◌≡◌, ℕ, ◌+◌, List, [], ◌∷◌, ◌++◌, length, refl, sym, ap, ◌∙◌, subst, arith, append_assoc, length-append}
use Rattle.std.proofs.lemmas.List.{append-nil}
use Rattle.std.proofs.lemmas.List.Sums.{sum_by-cons, sum_by-append}
use Rattle.std.specs.Prelude.{sum_by}
use Rattle.oas_record.specs.declared.references.CellRef.{CellRef}
use Rattle.oas_drawing.specs.declared.drawn.Drawn.{Drawn}
use Rattle.oas_reader.specs.Meaning.{DrawnCell, in_last}
use Rattle.oas_reader.specs.Alike.{SameDrawn}
use Rattle.oas_reader.specs.Stores.{Store, Draws, IsBegun, total_count, HoldCells}

-- how many there are, where each counts for one
length_sum : (ds : List Drawn) → length ds ≡ sum_by (λ _. 1) ds
length_sum [] = refl
length_sum (d ∷ ds) = omega (arith, length_sum ds, sum_by-cons (λ _. 1) d ds)

module _ {S : Type 0} (t : Store S) where
  -- nothing more is drawn
  pub draws_none : (s : S) → Draws t s [] s
  draws_none s = record { cell = refl; count = omega arith; sound = λ h. h; holds = λ before h. subst (t.Holds s) (sym (append-nil before)) h }

  -- first these, and then those
  pub draws_then : (a b c : S) (ds es : List Drawn) → Draws t a ds b → Draws t b es c → Draws t a (ds ++ es) c
  draws_then a b c ds es f g = record {
    cell = g.cell ∙ f.cell;
    count = omega (arith, g.count, f.count, length-append ds es);
    sound = λ h. g.sound (f.sound h);
    holds = λ before h. subst (t.Holds c) (append_assoc before ds es) (g.holds (before ++ ds) (f.holds before h));
  }

  -- drawn in another order
  pub draws_same : ((s : S) (ds es : List Drawn) → t.Holds s ds → SameDrawn ds es → t.Holds s es) → (a b : S) (ds es : List Drawn) → SameDrawn ds es → Draws t a ds b → Draws t a es b
  draws_same alike a b ds es same f = record {
    cell = f.cell;
    count = omega (arith, f.count, length_sum ds, length_sum es, same.sums (λ _. 1));
    sound = f.sound;
    holds = λ before h.
        alike b (before ++ ds) (before ++ es) (f.holds before h)
        (record { sums = λ g. sum_by-append g before ds ∙ ap (λ (k : ℕ). sum_by g before + k) (same.sums g) ∙ sym (sum_by-append g before es) });
  }

  pub total_append : (ss gs : List S) → total_count t (ss ++ gs) ≡ total_count t ss + total_count t gs
  total_append [] gs = omega arith
  total_append (s ∷ ss) gs = omega (arith, total_append ss gs)

  -- one more cell
  pub hold_begun : (c : CellRef) (s : S) → IsBegun t c s → (ss : List S) (ds : List DrawnCell) → HoldCells t ss ds → HoldCells t (ss ++ s ∷ []) (ds ++ (c, []) ∷ [])
  hold_begun c s b [] [] h = (b.cell, b.holds, tt)
  hold_begun c s b (g ∷ gs) (d ∷ ds) h = (h.0, h.1, hold_begun c s b gs ds h.2)
  hold_begun c s b [] (d ∷ ds) h = absurd h
  hold_begun c s b (g ∷ gs) [] h = absurd h

  -- more in the last cell
  pub hold_drawn : (old new : S) (xs : List Drawn) → Draws t old xs new → (ss : List S) (ds : List DrawnCell) → HoldCells t (ss ++ old ∷ []) ds → HoldCells t (ss ++ new ∷ []) (in_last xs ds)
  hold_drawn old new xs g [] [] h = absurd h
  hold_drawn old new xs g [] (d ∷ []) h = (g.cell ∙ h.0, g.holds d.1 h.1, tt)
  hold_drawn old new xs g [] (d ∷ e ∷ es) h = absurd h.2
  hold_drawn old new xs g (s ∷ ss) [] h = absurd h
  hold_drawn old new xs g (s ∷ []) (d ∷ []) h = absurd h.2
  hold_drawn old new xs g (s ∷ r ∷ rs) (d ∷ []) h = absurd h.2
  hold_drawn old new xs g (s ∷ ss) (d ∷ e ∷ es) h = (h.0, h.1, hold_drawn old new xs g ss (e ∷ es) h.2)

  -- nothing more in it
  pub hold_none : (ss : List S) (ds : List DrawnCell) → HoldCells t ss ds → HoldCells t ss (in_last [] ds)
  hold_none [] [] h = tt
  hold_none [] (d ∷ ds) h = absurd h
  hold_none (s ∷ ss) [] h = absurd h
  hold_none (s ∷ ss) (d ∷ []) h = (h.0, subst (t.Holds s) (sym (append-nil d.1)) h.1, h.2)
  hold_none (s ∷ ss) (d ∷ e ∷ es) h = (h.0, h.1, hold_none ss (e ∷ es) h.2)
