-- what is kept after one more record
use Rattle.std.proofs.Common.{◌≡◌, ℕ, ◌+◌, ◌≤◌, List, [], ◌∷◌, ◌++◌, refl, sym, ap, ◌∙◌, subst, arith, Bool, true, false}
use Rattle.std.proofs.lemmas.Int.{ints}
use Rattle.std.specs.Prelude.{Option, None, Some, is_some, pos, cond}
use Rattle.std.specs.Option.{option_to_list}
use Rattle.std.specs.List.{AllByRecursion}
use Rattle.oas_record.specs.declared.references.CellRef.{CellRef}
use Rattle.oas_record.specs.declared.records.Record.{Record}
use Rattle.oas_record.specs.declared.records.Record.TheVariants as record_of
use Rattle.oas_reader.specs.declared.parts.Parts.{Parts}
use Rattle.oas_drawing.specs.Positions.{IsWithin, IsNear}
use Rattle.oas_drawing.specs.Modal.{ModalState, stepped, origin}
use Rattle.oas_reader.specs.Names.{Table, with_name}
use Rattle.oas_reader.specs.Meaning.{DrawnCell, in_last}
use Rattle.oas_reader.specs.Standing.{Standing, cell_weight}
use Rattle.oas_reader.specs.Stores.{Store, IsBegun, total_count, HoldCells}
use Rattle.oas_reader.specs.Parts.{standing, cells, Sound, Took}
use Rattle.oas_reader.proofs.StoreLemmas.{total_append, hold_begun, hold_none}

abbrev pub standing_of : ModalState → Bool → ℕ → ℕ → Standing
standing_of m b c w = record { modal = m; in_cell = b; count = c; weight = w }

-- nothing is drawn, and nothing weighs
none_more : (n : ℕ) → n ≡ n + 0
none_more n = omega arith

no_more : (m : ModalState) (b : Bool) (c w : ℕ) → standing_of m b c w ≡ standing_of m b (c + 0) (w + 0)
no_more m b c w i = standing_of m b (none_more c i) (none_more w i)

within_zero : IsWithin (pos 0)
within_zero = record { low = omega (arith, ints); high = omega (arith, ints) }

near_origin : IsNear origin
near_origin = record { x = within_zero; y = within_zero }

pub all_append : {A : Type 0} (P : A → Type 0) (xs ys : List A) → AllByRecursion P xs → AllByRecursion P ys → AllByRecursion P (xs ++ ys)
all_append P [] ys a b = b
all_append P (x ∷ xs) ys a b = (a.0, all_append P xs ys a.1 b)

append_none : {A : Type 0} (xs : List A) → xs ++ [] ≡ xs
append_none [] = refl
append_none {A} (x ∷ xs) = ap (λ (ys : List A). x ∷ ys) (append_none xs)

module _ {S : Type 0} (t : Store S) where
  -- the same stores, where nothing is drawn
  hold_same : (ss gs : List S) → gs ≡ ss → (ds : List DrawnCell) → HoldCells t ss ds → HoldCells t gs (in_last [] ds)
  hold_same ss gs e ds h = subst (λ (xs : List S). HoldCells t xs (in_last [] ds)) (sym e) (hold_none t ss ds h)

  -- a record that changes the variables alone
  pub took_pad : (p : Parts S) → Took t p record_of.Pad p
  took_pad p = record {
    file = record { unit = refl; limits = refl; profile = refl };
    standing = no_more p.modal (is_some p.cell) p.count p.weight;
    names = refl;
    strings = refl;
    cells = hold_none t (cells p);
  }

  pub took_absolute : (p : Parts S) (m : ModalState) → m ≡ stepped p.modal record_of.XyAbsolute → Took t p record_of.XyAbsolute (record p { modal = m })
  took_absolute p m e = record {
    file = record { unit = refl; limits = refl; profile = refl };
    standing = ap (λ (n : ModalState). standing_of n (is_some p.cell) p.count p.weight) e ∙ no_more (stepped p.modal record_of.XyAbsolute) (is_some p.cell) p.count p.weight;
    names = refl;
    strings = refl;
    cells = hold_none t (cells p);
  }

  pub took_relative : (p : Parts S) (m : ModalState) → m ≡ stepped p.modal record_of.XyRelative → Took t p record_of.XyRelative (record p { modal = m })
  took_relative p m e = record {
    file = record { unit = refl; limits = refl; profile = refl };
    standing = ap (λ (n : ModalState). standing_of n (is_some p.cell) p.count p.weight) e ∙ no_more (stepped p.modal record_of.XyRelative) (is_some p.cell) p.count p.weight;
    names = refl;
    strings = refl;
    cells = hold_none t (cells p);
  }

  -- likewise, by what the record is
  pub took_mode : (relative : Bool) (p : Parts S) (r : Record) (m : ModalState) → r ≡ cond relative record_of.XyRelative record_of.XyAbsolute → m
      ≡ stepped p.modal (cond relative record_of.XyRelative record_of.XyAbsolute) → Took t p r (record p { modal = m })
  took_mode true p r m e is = subst (λ (x : Record). Took t p x (record p { modal = m })) (sym e) (took_relative p m is)
  took_mode false p r m e is = subst (λ (x : Record). Took t p x (record p { modal = m })) (sym e) (took_absolute p m is)

  -- a cell that is ended
  ended_cells : (p q : Parts S) → q.cell ≡ None → q.done.items ≡ cells p → cells q ≡ cells p
  ended_cells p q none done = (λ i. done i ++ option_to_list (none i)) ∙ append_none (cells p)

  pub took_name : (p q : Parts S) (name : List ℕ) (number : Option ℕ) (n : Table (List ℕ)) → n ≡ with_name p.names (Some (name, number)) → q ≡ record p { names = n; done = q.done; cell = None }
      → q.done.items ≡ cells p → Took t p (record_of.CellName name number) q
  took_name p q name number n is e done = record {
    file = record { unit = ap (λ (a : Parts S). a.unit) e; limits = ap (λ (a : Parts S). a.limits) e; profile = ap (λ (a : Parts S). a.profile) e };
    standing = ap (λ (a : Parts S). standing a) e ∙ no_more p.modal false p.count p.weight;
    names = ap (λ (a : Parts S). a.names) e ∙ is;
    strings = ap (λ (a : Parts S). a.strings) e;
    cells = hold_same (cells p) (cells q) (ended_cells p q (ap (λ (a : Parts S). a.cell) e) done);
  }

  pub took_string : (p q : Parts S) (label : List ℕ) (number : Option ℕ) (n : Table (List ℕ)) → n ≡ with_name p.strings (Some (label, number)) → q
      ≡ record p { strings = n; done = q.done; cell = None } → q.done.items ≡ cells p → Took t p (record_of.TextString label number) q
  took_string p q label number n is e done = record {
    file = record { unit = ap (λ (a : Parts S). a.unit) e; limits = ap (λ (a : Parts S). a.limits) e; profile = ap (λ (a : Parts S). a.profile) e };
    standing = ap (λ (a : Parts S). standing a) e ∙ no_more p.modal false p.count p.weight;
    names = ap (λ (a : Parts S). a.names) e;
    strings = ap (λ (a : Parts S). a.strings) e ∙ is;
    cells = hold_same (cells p) (cells q) (ended_cells p q (ap (λ (a : Parts S). a.cell) e) done);
  }

  -- a cell that begins
  abbrev begun_with : Parts S → ModalState → S → ℕ → Parts S
  begun_with a m s w = record a { modal = m; cell = Some s; weight = a.weight + w }

  pub took_cell : (p a : Parts S) (c : CellRef) (m : ModalState) (s : S) (w : ℕ) → a ≡ record p { done = a.done; cell = None } → a.done.items ≡ cells p → m ≡ stepped a.modal (record_of.Cell c)
      → IsBegun t c s → w ≡ cell_weight c → Took t p (record_of.Cell c) (begun_with a m s w)
  took_cell p a c m s w e done is empty weighs = record {
    file = record { unit = ap (λ (b : Parts S). b.unit) e; limits = ap (λ (b : Parts S). b.limits) e; profile = ap (λ (b : Parts S). b.profile) e };
    standing = (λ i. standing_of (is i) true (((ap (λ (b : Parts S). b.count) e) ∙ none_more p.count) i) ((ap (λ (b : Parts S). b.weight) e) i + weighs i));
    names = ap (λ (b : Parts S). b.names) e;
    strings = ap (λ (b : Parts S). b.strings) e;
    cells = λ ds h. subst (λ (ss : List S). HoldCells t (ss ++ s ∷ []) (ds ++ (c, []) ∷ [])) (sym done) (hold_begun t c s empty (cells p) ds h);
  }

  pub sound_cell : (p a : Parts S) (c : CellRef) (m : ModalState) (s : S) (w : ℕ) → Sound t p → a ≡ record p { done = a.done; cell = None } → a.done.items ≡ cells p → m
      ≡ stepped a.modal (record_of.Cell c) → IsBegun t c s → p.weight + w ≤ p.limits.weight → Sound t (begun_with a m s w)
  sound_cell p a c m s w before e done is empty light =
      let there : cells (begun_with a m s w) ≡ cells p ++ s ∷ [] = (λ i. done i ++ s ∷ []) in
      record {
        placement = subst (λ (n : ModalState). IsNear n.placement) (sym is) near_origin;
        text = subst (λ (n : ModalState). IsNear n.text) (sym is) near_origin;
        geometry = subst (λ (n : ModalState). IsNear n.geometry) (sym is) near_origin;
        few = subst (λ (b : Parts S). b.count ≤ b.limits.elements) (sym e) before.few;
        light = subst (λ (b : Parts S). b.weight + w ≤ b.limits.weight) (sym e) light;
        sound = subst (λ (ss : List S). AllByRecursion t.IsSound ss) (sym there) (all_append t.IsSound (cells p) (s ∷ []) before.sound (empty.sound, tt));
        total = omega (arith, before.total, ap (λ (b : Parts S). b.count) e, ap (λ (ss : List S). total_count t ss) there, total_append t (cells p) (s ∷ []), empty.count);
      }
