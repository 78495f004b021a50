-- The runs of cells, from the last cell on, and then by name.
use Rattle.std.proofs.Common.{◌≡◌, ◌==◌, ℕ, false, List, [], ◌∷◌, ◌++◌, Option, None, Some, refl, sym, ap, ◌∙◌, subst, append_assoc}
use Rattle.std.proofs.lemmas.List.{append-nil}
use Rattle.std.proofs.lemmas.List.Elements.{All-from_recursion, recursion_from_All}
use Rattle.std.proofs.lemmas.List.Sorted.{IsPermutation-refl, IsPermutation-sym, IsPermutation-trans, IsPermutation-cons, IsPermutation-to_front, All-permutation}
use Rattle.std.proofs.lemmas.Map.Keys.{IsDistinct-head, IsDistinct-tail}
use Rattle.std.specs.List.{AllByRecursion}
use Rattle.std.specs.List.Sorted.{IsPermutation, IsStrictlySortedBy, IsSortedByKey}
use Rattle.std.specs.Map.{keys_of}
use Rattle.std.specs.Ordering.{nat_cmp}
use Rattle.std.specs.Cmp.Lexicographic.{slice_cmp, pointwise}
use Rattle.oas_num.specs.Texts.{IsName}
use Rattle.oas_elements.specs.declared.profile.Profile.{Profile}
use Rattle.oas_elements.specs.declared.element.Element.{Element}
use Rattle.oas_elements.specs.Sound.{IsSound}
use Rattle.oas_runs.specs.Entries.{Entry}
use Rattle.oas_runs.specs.Runs.{IsRun}
use Rattle.oas_form.specs.Drawn.{Drawn}
use Rattle.oas_form.specs.Meaning.{DrawnCell, elements_by_name, with_named, cells_by_name, has_twice}
use Rattle.oas_form.specs.References.{cell_by}
use Rattle.oas_form.specs.Stores.{HoldCells}
use Rattle.oas_cells.specs.Compact.{Compact, IsCompact, Keeps, compact_store}
use Rattle.oas_cells.specs.Placing.{MeansElements}
use Rattle.oas_layout.specs.Keyed.{keyed, keyed_cells}
use Rattle.oas_layout.specs.Counting.{counted, counted_cells, keyed_each, AreSound, with_run}
use Rattle.oas_layout.specs.Finishing.{AreNamed, PutsRun, AreRuns, AreRunsOf}
use Rattle.oas_layout.proofs.KeyedLemmas.{run_is}
use Rattle.oas_layout.proofs.PlaceLemmas.{keyed-insert, keys-keyed_cells}
use Rattle.oas_layout.proofs.OrderLemmas.{names_ascend}
use Rattle.oas_layout.proofs.SortLemmas.{AreApart, apart_from_once, others_apart, put_among, sorted_is}

module _ (profile : Profile) (names strings : List (ℕ × List ℕ)) where
  -- ---- one cell

  -- a cell without a name has no run
  pub nameless : (c : Compact) (old : List (List ℕ × List Entry)) → cell_by names c.cell ≡ None → PutsRun profile names strings c old old
  nameless c old none = record {
    named = λ a. a;
    sound = λ name called ds h. let both : ◌≡◌ {A = Option (List ℕ)} None (Some name) = sym none ∙ called in let no : ⊥ = cc in absurd no;
    run = λ ds h. ap (λ (o : Option (List ℕ)). with_run o (keyed (counted profile (elements_by_name names strings ds))) old) (sym none);
  }

  named_last : (rs : List (List ℕ × List Entry)) (name : List ℕ) (run : List Entry) → IsName name → AreNamed rs → AreNamed (rs ++ (name, run) ∷ [])
  named_last [] name run fits a = (fits, tt)
  named_last (r ∷ rs) name run fits a = (a.0, named_last rs name run fits a.1)

  -- the run of one that has a name
  pub named : (c : Compact) (old new : List (List ℕ × List Entry)) (name : List ℕ) (run : List Entry) → cell_by names c.cell ≡ Some name → IsName name → IsRun (slice_cmp nat_cmp) run
      → ((ds : List Drawn) → Keeps profile c ds → MeansElements profile run (elements_by_name names strings ds)) → ((ds : List Drawn) → Keeps profile c ds → AllByRecursion IsSound (elements_by_name names strings ds))
      → new ≡ old ++ (name, run) ∷ [] → PutsRun profile names strings c old new
  named c old new name run called fits ascends means sounds is = record {
    named = λ a. subst AreNamed (sym is) (named_last old name run fits a);
    sound = λ other e ds h. sounds ds h;
    run = λ ds h. is ∙ (λ i. with_run (sym called i) (run_is profile run (elements_by_name names strings ds) ascends (means ds h) (sounds ds h) i) old);
  }

  -- ---- cells

  -- some cells are left, and the runs of the others, after them, are there
  pub record Split (left : List Compact) (rs : List (List ℕ × List Entry)) (ds : List DrawnCell) : Type 0 where
    pub front : List DrawnCell
    pub back : List DrawnCell
    pub joined : ds ≡ front ++ back
    pub holds : HoldCells (compact_store profile) left front
    pub sound : AreSound (cells_by_name names strings back)
    pub are : IsPermutation (keyed_each profile (cells_by_name names strings back)) rs

  -- whatever is drawn in all of them
  abbrev pub Putting : List Compact → List Compact → List (List ℕ × List Entry) → Type 0
  Putting all left rs = (ds : List DrawnCell) → HoldCells (compact_store profile) all ds → Split left rs ds

  begins : (cs : List Compact) (rs : List (List ℕ × List Entry)) → rs ≡ [] → Putting cs cs rs
  begins cs rs none ds h = record { front = ds; back = []; joined = sym (append-nil ds); holds = h; sound = tt; are = subst (IsPermutation []) (sym none) (IsPermutation-refl []) }

  -- a last cell holds what is drawn last
  pub record HoldsLast (front : List Compact) (c : Compact) (ds : List DrawnCell) : Type 0 where
    pub before : List DrawnCell
    pub last : DrawnCell
    pub joined : ds ≡ before ++ last ∷ []
    pub holds : HoldCells (compact_store profile) front before
    pub cell : c.cell ≡ last.0
    pub keeps : Keeps profile c last.1

  last_held : (front : List Compact) (c : Compact) (ds : List DrawnCell) → HoldCells (compact_store profile) (front ++ c ∷ []) ds → HoldsLast front c ds
  last_held [] c [] h = absurd h
  last_held [] c (d ∷ []) h = record { before = []; last = d; joined = refl; holds = tt; cell = h.0; keeps = h.1 }
  last_held [] c (d ∷ e ∷ ds) h = absurd h.2
  last_held (f ∷ fs) c [] h = absurd h
  last_held (f ∷ fs) c (d ∷ ds) h =
      let l = last_held fs c ds h.2 in
      record { before = d ∷ l.before; last = l.last; joined = ap (λ (xs : List DrawnCell). d ∷ xs) l.joined; holds = (h.0, h.1, l.holds); cell = l.cell; keeps = l.keeps }

  -- a cell and those after it are sound
  one_sound : (o : Option (List ℕ)) (es : List Element) (cs : List (List ℕ × List Element)) → ((name : List ℕ) → o ≡ Some name → AllByRecursion IsSound es) → AreSound cs → AreSound (with_named o es cs)
  one_sound None es cs put sound = sound
  one_sound (Some name) es cs put sound = (put name refl, sound)

  -- one more run is that of one more cell
  one_more : (o : Option (List ℕ)) (es : List Element) (cs : List (List ℕ × List Element)) (old new : List (List ℕ × List Entry)) → IsPermutation (keyed_each profile cs) old
      → new ≡ with_run o (keyed (counted profile es)) old → IsPermutation (keyed_each profile (with_named o es cs)) new
  one_more None es cs old new was put = subst (IsPermutation (keyed_each profile cs)) (sym put) was
  one_more (Some name) es cs old new was put =
      let r : List ℕ × List Entry = (name, keyed (counted profile es)) in
      subst (IsPermutation (r ∷ keyed_each profile cs)) (sym put)
      (IsPermutation-trans _ _ _ (IsPermutation-cons r (keyed_each profile cs) old was) (IsPermutation-sym _ _ (IsPermutation-to_front old r)))

  -- one more cell
  goes_on : (all left rest : List Compact) (c : Compact) (old new : List (List ℕ × List Entry)) → left ≡ rest ++ c ∷ [] → Putting all left old
      → PutsRun profile names strings c old new → Putting all rest new
  goes_on all left rest c old new is h put ds holds =
      let s = h ds holds in
      let l = last_held rest c s.front (subst (λ (cs : List Compact). HoldCells (compact_store profile) cs s.front) is s.holds) in
      let called : cell_by names c.cell ≡ cell_by names l.last.0 = ap (cell_by names) l.cell in
      record {
        front = l.before;
        back = l.last ∷ s.back;
        joined = s.joined ∙ ap (λ (xs : List DrawnCell). xs ++ s.back) l.joined ∙ append_assoc l.before (l.last ∷ []) s.back;
        holds = l.holds;
        sound = one_sound (cell_by names l.last.0) (elements_by_name names strings l.last.1) (cells_by_name names strings s.back) (λ name e. put.sound name (called ∙ e) l.last.1 l.keeps) s.sound;
        are = one_more (cell_by names l.last.0) (elements_by_name names strings l.last.1) (cells_by_name names strings s.back) old new s.are
            (put.run l.last.1 l.keeps ∙ ap (λ (o : Option (List ℕ)). with_run o (keyed (counted profile (elements_by_name names strings l.last.1))) old) called);
      }

  -- ---- the loop over them

  pub record Looped (all left : List Compact) (rs : List (List ℕ × List Entry)) : Type 0 where
    pub put : Putting all left rs
    pub named : AreNamed rs
    pub sound : AllByRecursion (IsCompact profile) left

  pub last_sound : (left rest : List Compact) (c : Compact) → left ≡ rest ++ c ∷ [] → AllByRecursion (IsCompact profile) left → IsCompact profile c × AllByRecursion (IsCompact profile) rest
  last_sound left rest c is h = split rest (subst (λ (cs : List Compact). AllByRecursion (IsCompact profile) cs) is h) where
    split : (xs : List Compact) → AllByRecursion (IsCompact profile) (xs ++ c ∷ []) → IsCompact profile c × AllByRecursion (IsCompact profile) xs
    split [] a = (a.0, tt)
    split (x ∷ xs) a = let s = split xs a.1 in (s.0, (a.0, s.1))

  pub loop_begins : (cs : List Compact) (rs : List (List ℕ × List Entry)) → rs ≡ [] → AllByRecursion (IsCompact profile) cs → Looped cs cs rs
  loop_begins cs rs none sound = record { put = begins cs rs none; named = subst AreNamed (sym none) tt; sound = sound }

  pub loop_goes : (all left rest : List Compact) (c : Compact) (old new : List (List ℕ × List Entry)) → left ≡ rest ++ c ∷ [] → Looped all left old → PutsRun profile names strings c old new → Looped all rest new
  loop_goes all left rest c old new is l put = record {
    put = goes_on all left rest c old new is l.put put;
    named = put.named l.named;
    sound = (last_sound left rest c is l.sound).1;
  }

  -- no cell is left
  pub loop_ends : (all left : List Compact) (rs : List (List ℕ × List Entry)) → left ≡ [] → Looped all left rs → AreRuns profile names strings all rs
  loop_ends all left rs none l = record {
    named = l.named;
    sound = λ ds h. let s = l.put ds h in subst (λ (xs : List DrawnCell). AreSound (cells_by_name names strings xs)) (sym (whole ds s)) s.sound;
    runs = λ ds h. let s = l.put ds h in subst (λ (xs : List DrawnCell). IsPermutation (keyed_each profile (cells_by_name names strings xs)) rs) (sym (whole ds s)) s.are;
  }
    where
      none_held : (ds : List DrawnCell) → HoldCells (compact_store profile) [] ds → ds ≡ []
      none_held [] h = refl
      none_held (d ∷ ds) h = absurd h

      whole : (ds : List DrawnCell) (s : Split left rs ds) → ds ≡ s.back
      whole ds s = s.joined ∙ ap (λ (xs : List DrawnCell). xs ++ s.back) (none_held s.front (subst (λ (cs : List Compact). HoldCells (compact_store profile) cs s.front) none s.holds))

  -- ---- by name

  names_each : (cs : List (List ℕ × List Element)) → keys_of (keyed_each profile cs) ≡ keys_of cs
  names_each [] = refl
  names_each (c ∷ cs) = ap (λ (ns : List (List ℕ)). c.0 ∷ ns) (names_each cs)

  -- where no two names are equal, the cells in their places are the same cells
  each_placed : (cs : List (List ℕ × List Element)) → AreApart (keys_of cs) → IsPermutation (keyed_each profile cs) (keyed_cells (counted_cells profile cs))
  each_placed [] apart = IsPermutation-refl []
  each_placed (c ∷ cs) apart =
      let rs = keyed_cells (counted_cells profile cs) in
      let r : List ℕ × List Entry = (c.0, keyed (counted profile c.1)) in
      let rest : IsPermutation (keyed_each profile cs) rs = each_placed cs (IsDistinct-tail (pointwise ◌==◌) c.0 (keys_of cs) apart) in
      let new : AllByRecursion (λ m. pointwise ◌==◌ c.0 m ≡ false) (keys_of rs) = others_apart c.0 (keyed_each profile cs) rs rest
      (subst (λ (ns : List (List ℕ)). AllByRecursion (λ m. pointwise ◌==◌ c.0 m ≡ false) ns) (sym (names_each cs)) (IsDistinct-head (pointwise ◌==◌) c.0 (keys_of cs) apart)) in
      IsPermutation-trans _ _ _ (IsPermutation-cons r (keyed_each profile cs) rs rest)
      (subst (IsPermutation (r ∷ rs)) (keyed-insert (counted_cells profile cs) c.0 (counted profile c.1)) (put_among rs c.0 (keyed (counted profile c.1)) new))

  pub by_name : (cs : List Compact) (rs ts : List (List ℕ × List Entry)) → AreRuns profile names strings cs rs
      → ((ds : List DrawnCell) → HoldCells (compact_store profile) cs ds → has_twice (keys_of (cells_by_name names strings ds)) ≡ false)
      → IsPermutation rs ts → IsSortedByKey (λ r. r.0) (slice_cmp nat_cmp) ts → AreRunsOf profile names strings cs ts
  by_name cs rs ts are once same sorted = record {
    named = recursion_from_All (λ r. IsName r.0) ts (All-permutation (λ r. IsName r.0) rs ts same (All-from_recursion (λ r. IsName r.0) rs are.named));
    sound = are.sound;
    runs = λ ds h.
        let drawn = cells_by_name names strings ds in
        let placed = each_placed drawn (apart_from_once (keys_of drawn) (once ds h)) in
        sorted_is (keyed_cells (counted_cells profile drawn)) ts
        (subst (IsStrictlySortedBy (slice_cmp nat_cmp)) (sym (keys-keyed_cells (counted_cells profile drawn))) (names_ascend profile drawn))
        (IsPermutation-trans _ _ _ (IsPermutation-sym _ _ placed) (IsPermutation-trans _ _ _ (are.runs ds h) same)) sorted;
  }
