-- What is taken of keys is taken of what they hold.
use Rattle.std.proofs.Common.{◌≡◌, ℕ, suc, ◌+◌, ◌≤◌, ◌^◌, List, [], ◌∷◌, length, Option, None, Some, refl, sym, ap, subst, ◌∙◌, arith}
use Rattle.std.specs.Prelude.{sum_by, MatchOption}
use Rattle.std.specs.Borrow.{Bor}
use Rattle.std.specs.List.{AllByRecursion}
use Rattle.std.specs.Map.Iter.{TakesFirst, deref}
use Rattle.oas_elements.specs.declared.element.Element.{Element}
use Rattle.oas_elements.specs.declared.profile.Profile.{Profile}
use Rattle.oas_elements.specs.Bag.{items}
use Rattle.oas_elements.specs.Contents.{Cell, AllSound, IsCell, expanded}
use Rattle.oas_elements.specs.Laws.BagLaws.{sum_by-items}
use Rattle.oas_elements.specs.Meaning.{cells_weight}
use Rattle.oas_elements.specs.Sound.{IsSound}
use Rattle.oas_elements.specs.Weight.{weight_of}
use Rattle.oas_cells.specs.Keys.{key_of}
use Rattle.oas_runs.specs.Entries.{Entry, key_and_count}
use Rattle.oas_layout.specs.Keyed.{keyed, keyed_cells}
use Rattle.oas_layout.specs.Held.{HeldElements, elements_held, AreLight, AreSoundCells, HeldCells, cells_held, AreLightCells}
use Rattle.oas_layout.specs.Laws.HeldLaws.{held_sound, held_keys, held_is, cells_sound, cells_keys, cells_are}

-- no keys are of no elements, and the other way round
pub none_there : {ks : List Entry} (h : HeldElements ks) → ks ≡ [] → elements_held h ≡ []
none_there h e = held_is h [] tt e

pub none_back : {ks : List Entry} (h : HeldElements ks) → elements_held h ≡ [] → ks ≡ []
none_back h e = held_keys h ∙ ap keyed e

-- the first of the elements has the first of the keys
pub record Split (p : Entry) (ks : List Entry) (es : List (Element × ℕ)) : Type 0 where
  pub first : Element × ℕ
  pub sound : IsSound first.0
  pub key : p.0 ≡ key_of first.0
  pub times : p.1 ≡ first.1
  pub rest : HeldElements ks
  pub all_is : (h : HeldElements ks) → es ≡ first ∷ elements_held h

split_of : (p : Entry) (ks : List Entry) (es : List (Element × ℕ)) → AllSound es → p ∷ ks ≡ keyed es → Split p ks es
split_of p ks [] s e = let no : ⊥ = cc in absurd no
split_of p ks (f ∷ fs) s e =
    let head : p ≡ (key_of f.0, f.1) = cc in
    let tail : ks ≡ keyed fs = cc in
    record {
      first = f;
      sound = s.0;
      key = ap (λ (u : Entry). u.0) head;
      times = ap (λ (u : Entry). u.1) head;
      rest = (fs, s.1, tail);
      all_is = λ h. ap (λ (es : List (Element × ℕ)). f ∷ es) (sym (held_is h fs s.1 tail));
    }

pub split : (p : Entry) (ks : List Entry) {all : List Entry} (h : HeldElements all) → all ≡ p ∷ ks → Split p ks (elements_held h)
split p ks h was = split_of p ks (elements_held h) (held_sound h) (sym was ∙ held_keys h)

-- an element that is the first, before those whose keys are left
pub first_taken : {p : Entry} {ks : List Entry} {es : List (Element × ℕ)} (s : Split p ks es) (now : List (Element × ℕ)) (u : Element × ℕ) → es ≡ now → u ≡ s.first
    → (h : HeldElements ks) → now ≡ u ∷ elements_held h
first_taken s now u e f h = sym e ∙ s.all_is h ∙ ap (λ (t : Element × ℕ). t ∷ elements_held h) (sym f)

-- none is taken where there is no key
pub none_taken : {A : Type 0} (shows : A → Element × ℕ) (r : Option A) (now : List (Element × ℕ)) {ks ls : List Entry} (h : HeldElements ks) → r ≡ None → elements_held h ≡ now → ks ≡ [] → ls ≡ []
    → (g : HeldElements ls) → TakesFirst shows now r (elements_held g)
none_taken shows r now h e f k l g = subst (λ (o : Option _). TakesFirst shows now o (elements_held g)) (sym e) (sym f ∙ none_there h k, none_there g l)

-- those that are left, whatever was taken
pub left_entries : (r : Option (Bor (List ℕ) × ℕ)) (ks ls : List Entry) → TakesFirst key_and_count ks r ls → HeldElements ks → HeldElements ls
left_entries None ks ls t h = ([], tt, t.1)
left_entries (Some x) ks ls t h = let s = split (key_and_count x) ls h t in s.rest

-- they weigh no more than all
light_rest : (p : Element × ℕ) (es : List (Element × ℕ)) → AreLight (p ∷ es) → AreLight es
light_rest p es h = omega (arith, sum_by-items weight_of (p ∷ es), sum_by-items weight_of es, h)

pub light_left : (r : Option (Bor (List ℕ) × ℕ)) (ks ls : List Entry) → TakesFirst key_and_count ks r ls → (h : HeldElements ks) (g : HeldElements ls) → AreLight (elements_held h) → AreLight (elements_held g)
light_left None ks ls t h g light = let none : AreLight [] = omega arith in subst AreLight (sym (none_there g t.1)) none
light_left (Some x) ks ls t h g light = let s = split (key_and_count x) ls h t in light_rest s.first (elements_held g) (subst AreLight (s.all_is g) light)

-- ---- the same of cells

pub no_cells : {rs : List (List ℕ × List Entry)} (h : HeldCells rs) → rs ≡ [] → cells_held h ≡ []
no_cells h e = cells_are h [] tt e

-- the first of the cells has the first of the runs
pub record SplitCells (p : List ℕ × List Entry) (rs : List (List ℕ × List Entry)) (cs : List Cell) : Type 0 where
  pub first : Cell
  pub name : p.0 ≡ first.0
  pub held : AllSound first.1
  pub keys : p.1 ≡ keyed first.1
  pub rest : HeldCells rs
  pub all_is : (h : HeldCells rs) → cs ≡ first ∷ cells_held h

split_cells_of : (p : List ℕ × List Entry) (rs : List (List ℕ × List Entry)) (cs : List Cell) → AreSoundCells cs → p ∷ rs ≡ keyed_cells cs → SplitCells p rs cs
split_cells_of p rs [] s e = let no : ⊥ = cc in absurd no
split_cells_of p rs (c ∷ cs) s e =
    let head : p ≡ (c.0, keyed c.1) = cc in
    let tail : rs ≡ keyed_cells cs = cc in
    record {
      first = c;
      name = ap (λ (u : List ℕ × List Entry). u.0) head;
      held = s.0;
      keys = ap (λ (u : List ℕ × List Entry). u.1) head;
      rest = (cs, s.1, tail);
      all_is = λ h. ap (λ (ds : List Cell). c ∷ ds) (sym (cells_are h cs s.1 tail));
    }

pub split_cells : (p : List ℕ × List Entry) (rs : List (List ℕ × List Entry)) {all : List (List ℕ × List Entry)} (h : HeldCells all) → all ≡ p ∷ rs → SplitCells p rs (cells_held h)
split_cells p rs h was = split_cells_of p rs (cells_held h) (cells_sound h) (sym was ∙ cells_keys h)

-- a cell that is the first, before those whose runs are left
pub first_cell_taken : {p : List ℕ × List Entry} {rs : List (List ℕ × List Entry)} {cs : List Cell} (s : SplitCells p rs cs) (now : List Cell) (u : Cell) → cs ≡ now → u ≡ s.first
    → (h : HeldCells rs) → now ≡ u ∷ cells_held h
first_cell_taken s now u e f h = sym e ∙ s.all_is h ∙ ap (λ (t : Cell). t ∷ cells_held h) (sym f)

-- none is taken where there is no run
pub no_cell_taken : {A : Type 0} (shows : A → Cell) (r : Option A) (now : List Cell) {rs ts : List (List ℕ × List Entry)} (h : HeldCells rs) → r ≡ None → cells_held h ≡ now → rs ≡ [] → ts ≡ []
    → (g : HeldCells ts) → TakesFirst shows now r (cells_held g)
no_cell_taken shows r now h e f k l g = subst (λ (o : Option _). TakesFirst shows now o (cells_held g)) (sym e) (sym f ∙ no_cells h k, no_cells g l)

-- what an iterator takes is the first
no_length : {A : Type 0} (xs : List A) → length xs ≡ 0 → xs ≡ []
no_length [] e = refl
no_length (x ∷ xs) e = absurd (omega (arith, e))

module _ {S A : Type 0} (rest : S → List A) (s t : S) where
  pub none_left : (length (rest s) ≡ 0) × (t ≡ s) → (rest s ≡ []) × (rest t ≡ [])
  none_left h = let none = no_length (rest s) h.0 in (none, ap rest h.1 ∙ none)

  pub first_left : (r : Option (Bor A)) → MatchOption r ((length (rest s) ≡ 0) × (t ≡ s)) (λ x. rest s ≡ x.now ∷ rest t) → TakesFirst deref (rest s) r (rest t)
  first_left None h = none_left h
  first_left (Some x) h = h

-- those that are left, whatever was taken
pub left_cells : (r : Option (Bor (List ℕ × List Entry))) (rs ts : List (List ℕ × List Entry)) → TakesFirst deref rs r ts → HeldCells rs → HeldCells ts
left_cells None rs ts t h = ([], tt, t.1)
left_cells (Some x) rs ts t h = let s = split_cells x.now ts h t in s.rest

-- they weigh no more than all, and neither do the elements of the first
light_parts : (c : Cell) (cs : List Cell) → AreLightCells (c ∷ cs) → AreLight c.1 × AreLightCells cs
light_parts c cs h = let all : ((1 + length c.0) + sum_by weight_of (items c.1)) + cells_weight (expanded cs) ≤ 2 ^ 30 = h in (omega (arith, all), omega (arith, all))

pub light_cells_left : (r : Option (Bor (List ℕ × List Entry))) (rs ts : List (List ℕ × List Entry)) → TakesFirst deref rs r ts → (h : HeldCells rs) (g : HeldCells ts) → AreLightCells (cells_held h)
    → AreLightCells (cells_held g)
light_cells_left None rs ts t h g light = let none : AreLightCells [] = omega arith in subst AreLightCells (sym (no_cells g t.1)) none
light_cells_left (Some x) rs ts t h g light = let s = split_cells x.now ts h t in (light_parts s.first (cells_held g) (subst AreLightCells (s.all_is g) light)).1

pub first_light : {p : List ℕ × List Entry} {rs : List (List ℕ × List Entry)} {cs : List Cell} (s : SplitCells p rs cs) → AreLightCells cs → {ks : List Entry} → ks ≡ keyed s.first.1 → (h : HeldElements ks)
    → AreLight (elements_held h)
first_light s light is h = subst AreLight (sym (held_is h s.first.1 s.held is)) (light_parts s.first (cells_held s.rest) (subst AreLightCells (s.all_is s.rest) light)).0

-- the elements of a layout's cells are sound
pub sound_cells : (profile : Profile) (cs : List Cell) → AllByRecursion (IsCell profile) cs → AreSoundCells cs
sound_cells profile [] h = tt
sound_cells profile (c ∷ cs) h = (h.0.sound, sound_cells profile cs h.1)

-- there are as many runs as cells
pub length-keyed_cells : (cs : List Cell) → length (keyed_cells cs) ≡ length cs
length-keyed_cells [] = refl
length-keyed_cells (c ∷ cs) = ap suc (length-keyed_cells cs)
