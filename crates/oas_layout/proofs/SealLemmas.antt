-- The cells of a draft, put by name.
use Rattle.std.proofs.Common.{◌≡◌, ℕ, ◌+◌, ◌<◌, List, [], ◌∷◌, ◌++◌, length, map, refl, sym, ap, subst, ◌∙◌, append_assoc, arith}
use Rattle.std.specs.Prelude.{sum_by, slice_set, slice_index_or}
use Rattle.std.specs.List.{AllByRecursion, swap}
use Rattle.std.specs.List.Sorted.{IsStrictlySortedBy, IsPermutation, IsSortedByKey}
use Rattle.std.specs.Map.{keys_of}
use Rattle.std.proofs.lemmas.List.{append-nil, map-set, get_or-map}
use Rattle.std.proofs.lemmas.List.Elements.{All-from_recursion, recursion_from_All}
use Rattle.std.proofs.lemmas.List.Sorted.{IsPermutation-refl, IsPermutation-trans, IsPermutation-swap, IsPermutation-keeps, All-permutation}
use Rattle.oas_elements.specs.declared.element.Element.{Element}
use Rattle.oas_elements.specs.Contents.{Cell, Contents, names, AllSound, IsCell, IsCounted, IsLayout, IsSealed}
use Rattle.oas_elements.specs.Sound.{IsUnit}
use Rattle.oas_elements.specs.Weight.{weight_of}
use Rattle.oas_elements.proofs.Sealed.{name_cmp, cells_sum-permutation}
use Rattle.oas_runs.specs.Entries.{Entry}
use Rattle.oas_layout.specs.Keyed.{keyed, keyed_cells}
use Rattle.oas_layout.specs.Held.{AreSoundCells, HeldCells, cells_held, contents_of}
use Rattle.oas_layout.specs.Laws.HeldLaws.{cells_are}
use Rattle.oas_layout.specs.Sealing.{AreInOrder, AreByName}
use Rattle.oas_layout.proofs.HeldLemmas.{length-keyed_cells}
use Rattle.oas_layout.proofs.PlaceLemmas.{keys-keyed_cells}
use Rattle.oas_layout.proofs.SortLemmas.{AreApart, still_apart, strictly}

-- ---- the loop over the cells

-- some are closed, and the rest are left
pub record Closing (all rest : List Cell) (rs : List (List ℕ × List Entry)) : Type 0 where
  pub apart : AreApart (names all)
  pub closed : List Cell
  pub joined : all ≡ closed ++ rest
  pub sound : AreSoundCells closed
  pub are : rs ≡ keyed_cells closed

pub begins : (all rest : List Cell) (rs : List (List ℕ × List Entry)) → AreApart (names all) → rest ≡ all → rs ≡ [] → Closing all rest rs
begins all rest rs apart e none = record { apart = apart; closed = []; joined = sym e; sound = tt; are = none }

sound_last : (cs : List Cell) (c : Cell) → AreSoundCells cs → AllSound c.1 → AreSoundCells (cs ++ c ∷ [])
sound_last [] c all sound = (sound, tt)
sound_last (d ∷ ds) c all sound = (all.0, sound_last ds c all.1 sound)

keyed_last : (cs : List Cell) (c : Cell) → keyed_cells cs ++ (c.0, keyed c.1) ∷ [] ≡ keyed_cells (cs ++ c ∷ [])
keyed_last [] c = refl
keyed_last (d ∷ ds) c = ap (λ (rs : List (List ℕ × List Entry)). (d.0, keyed d.1) ∷ rs) (keyed_last ds c)

pub goes_on : (all rest later : List Cell) (name : List ℕ) (es : List (Element × ℕ)) (run : List Entry) (rs ts : List (List ℕ × List Entry))
    → rest ≡ (name, es) ∷ later → AllSound es → run ≡ keyed es → ts ≡ rs ++ (name, run) ∷ [] → Closing all rest rs → Closing all later ts
goes_on all rest later name es run rs ts is sound run_is ts_is p =
    let c : Cell = (name, es) in
    record {
      apart = p.apart;
      closed = p.closed ++ c ∷ [];
      joined = p.joined ∙ ap (λ (l : List Cell). p.closed ++ l) is ∙ sym (append_assoc p.closed (c ∷ []) later);
      sound = sound_last p.closed c p.sound sound;
      are = ts_is ∙ (λ i. p.are i ++ (name, run_is i) ∷ []) ∙ keyed_last p.closed c;
    }

pub all_closed : (all rest : List Cell) (rs : List (List ℕ × List Entry)) → rest ≡ [] → Closing all rest rs → AreInOrder all rs
all_closed all rest rs none p =
    let whole : p.closed ≡ all = sym (p.joined ∙ ap (λ (l : List Cell). p.closed ++ l) none ∙ append-nil p.closed) in
    record { apart = p.apart; sound = subst AreSoundCells whole p.sound; are = p.are ∙ ap keyed_cells whole }

-- ---- their runs in another order

swap-keyed : (cs : List Cell) (i j : ℕ) → i < length cs → j < length cs → swap (keyed_cells cs) i j ≡ keyed_cells (swap cs i j)
swap-keyed [] i j p q = refl
swap-keyed (c ∷ cs) i j p q =
    let f : Cell → List ℕ × List Entry = λ d. (d.0, keyed d.1) in
    let at_i = get_or-map f (c ∷ cs) i c (f c) p in
    let at_j = get_or-map f (c ∷ cs) j c (f c) q in
    (λ t. swap (keyed-map (c ∷ cs) t) i j)
    ∙ (λ t. slice_set (slice_set (map f (c ∷ cs)) i (at_j t)) j (at_i t))
    ∙ sym (map-set f (slice_set (c ∷ cs) i (slice_index_or (c ∷ cs) j c)) j (slice_index_or (c ∷ cs) i c) ∙ (λ t. slice_set (map-set f (c ∷ cs) i (slice_index_or (c ∷ cs) j c) t) j (f (slice_index_or (c ∷ cs) i c))))
    ∙ sym (keyed-map (swap (c ∷ cs) i j))
  where
    keyed-map : (ds : List Cell) → keyed_cells ds ≡ map (λ (d : Cell). (d.0, keyed d.1)) ds
    keyed-map [] = refl
    keyed-map (d ∷ ds) = ap (λ (rs : List (List ℕ × List Entry)). (d.0, keyed d.1) ∷ rs) (keyed-map ds)

-- they are the runs of the cells in that order
record Moved (cs : List Cell) (rs : List (List ℕ × List Entry)) : Type 0 where
  pub cells : List Cell
  pub same : IsPermutation cs cells
  pub are : rs ≡ keyed_cells cells

moved : (cs : List Cell) (rs : List (List ℕ × List Entry)) → IsPermutation (keyed_cells cs) rs → Moved cs rs
moved cs rs = IsPermutation-keeps (keyed_cells cs) (Moved cs) (record { cells = cs; same = IsPermutation-refl cs; are = refl }) step rs where
  step : (ts : List (List ℕ × List Entry)) (i j : ℕ) → i < length ts → j < length ts → Moved cs ts → Moved cs (swap ts i j)
  step ts i j p q m =
      let long : length ts ≡ length m.cells = ap length m.are ∙ length-keyed_cells m.cells in
      let inside : i < length m.cells = omega (arith, p, long) in
      let also : j < length m.cells = omega (arith, q, long) in
      record {
        cells = swap m.cells i j;
        same = IsPermutation-trans _ _ _ m.same (IsPermutation-swap m.cells (swap m.cells i j) i j inside also refl);
        are = ap (λ (us : List (List ℕ × List Entry)). swap us i j) m.are ∙ swap-keyed m.cells i j inside also;
      }

pub by_name : (cs : List Cell) (rs ts : List (List ℕ × List Entry)) → AreInOrder cs rs → IsPermutation rs ts → IsSortedByKey (λ r. r.0) name_cmp ts → AreByName cs ts
by_name cs rs ts are same up =
    let m = moved cs ts (subst (λ (us : List (List ℕ × List Entry)). IsPermutation us ts) are.are same) in
    let apart : AreApart (keys_of ts) = still_apart rs ts same (subst AreApart (sym (ap (λ (us : List (List ℕ × List Entry)). keys_of us) are.are ∙ keys-keyed_cells cs)) are.apart) in
    record {
      sorted = m.cells;
      same = m.same;
      ascending = subst (IsStrictlySortedBy name_cmp) (ap (λ (us : List (List ℕ × List Entry)). keys_of us) m.are ∙ keys-keyed_cells m.cells) (strictly ts up apart);
      sound = recursion_from_All (λ (c : Cell). AllSound c.1) m.cells (All-permutation (λ (c : Cell). AllSound c.1) cs m.cells m.same (All-from_recursion (λ (c : Cell). AllSound c.1) cs are.sound));
      are = m.are;
    }

-- ---- the layout of these runs

module _ (d : Contents) (count : ℕ) (k : IsCounted d.limits d.profile d.cells count d.spelled) (u : IsUnit d.unit) (rs : List (List ℕ × List Entry)) (b : AreByName d.cells rs) where
  are_cells : AllByRecursion (IsCell d.profile) b.sorted
  are_cells = recursion_from_All (IsCell d.profile) b.sorted (All-permutation (IsCell d.profile) d.cells b.sorted b.same (All-from_recursion (IsCell d.profile) d.cells k.are_cells))

  layout : IsLayout (contents_of d.unit d.limits d.profile b.sorted)
  layout =
      let few = cells_sum-permutation (λ c. length c.1) d.cells b.sorted b.same in
      let light = cells_sum-permutation (λ c. (1 + length c.0) + sum_by weight_of c.1) d.cells b.sorted b.same in
      record {
        unit = u;
        limits = record { few = d.limits.few; light = d.limits.light; room = d.limits.room; short = d.limits.short };
        cells = are_cells;
        ascending = b.ascending;
        few = omega (arith, k.few, k.count_is, few);
        light = omega (arith, k.light, k.lighter, light);
      }

  -- the runs hold these cells alone
  pub runs_hold : HeldCells rs
  runs_hold = (b.sorted, b.sound, b.are)

  pub is_layout : (h : HeldCells rs) → IsLayout (contents_of d.unit d.limits d.profile (cells_held h))
  is_layout h = subst (λ (cs : List Cell). IsLayout (contents_of d.unit d.limits d.profile cs)) (sym (cells_are h b.sorted b.sound b.are)) layout

  -- so that it holds what the draft does
  pub is_sealed : (l : Contents) → ((cs : List Cell) → AreSoundCells cs → rs ≡ keyed_cells cs → l ≡ contents_of d.unit d.limits d.profile cs) → IsSealed d l
  is_sealed l made =
      subst (IsSealed d) (sym (made b.sorted b.sound b.are)) (record { unit = refl; limits = refl; profile = refl; spelled = refl; cells = b.same; ascending = b.ascending })
