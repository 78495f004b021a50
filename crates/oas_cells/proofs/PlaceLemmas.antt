-- What waits, placed by the names of the whole file.
use Rattle.std.proofs.Common.{◌≡◌, ℕ, ◌+◌, ◌*◌, ◌<◌, ◌≤◌, ◌^◌, List, [], ◌∷◌, ◌++◌, Option, None, Some, Result, Ok, Err, OnOk, refl, sym, ◌∙◌, ap, subst, arith}
use Rattle.std.specs.Prelude.{sum_by, IfSome}
use Rattle.std.proofs.lemmas.List.Sums.{sum_by-cons}
use Rattle.std.specs.Ordering.{nat_cmp}
use Rattle.std.specs.Cmp.Lexicographic.{slice_cmp}
use Rattle.std.specs.List.{AllByRecursion}
use Rattle.oas_elements.specs.declared.profile.Profile.{Profile}
use Rattle.oas_elements.specs.declared.element.Element.{Element}
use Rattle.oas_elements.specs.Bag.{put_more}
use Rattle.oas_elements.specs.Laws.BagLaws.{total}
use Rattle.oas_elements.specs.Laws.SameLaws.{normal-normal}
use Rattle.oas_elements.specs.Same.{normal}
use Rattle.oas_elements.specs.Sound.{IsSound}
use Rattle.oas_keys.specs.Keys.{key_of}
use Rattle.oas_runs.specs.Entries.{Entry}
use Rattle.oas_reader.specs.Drawn.{Drawn}
use Rattle.oas_reader.specs.Drawn.TheVariants.{Named, PlacementBy, TextBy}
use Rattle.oas_reader.specs.Meaning.{element_by, with_element, elements_by_name}
use Rattle.oas_reader.proofs.Alike.{weighed, sum-meant}
use Rattle.oas_reader.proofs.TakeLemmas.{all_append}
use Rattle.oas_reader.proofs.WeighLemmas.{sum_two}
use Rattle.oas_cells.specs.Compact.{Compact, by_key, by_number, Keeps, IsKey, AreKeys, IsSoundNamed, SameWaiting, Waits}
use Rattle.oas_cells.specs.Placing.{with_placed, placed, MeansElements, IsSoundBy, AreSoundBy, Places}
use Rattle.oas_cells.specs.Laws.CompactLaws.{waits_for}
use Rattle.oas_cells.proofs.KeptLemmas.{normal_sound}
use Rattle.oas_cells.proofs.DrawLemmas.{all-put_more, few_is, keys_more}
use Rattle.oas_cells.proofs.WaitLemmas.{total-append, all_front, all_back, all_both}
use Rattle.oas_cells.proofs.SortLemmas.{sound_again}

-- ---- a key that is added

-- its key is one more
pub keys_with : (profile : Profile) (ks ls : List Entry) (e : Element) (n : ℕ) → IsSound e → AreKeys profile ks → ls ≡ put_more (slice_cmp nat_cmp) ks (key_of (normal profile e)) n → AreKeys profile ls
keys_with profile ks ls e n sound a is =
    subst (AreKeys profile) (sym is)
    (all-put_more (λ p. IsKey profile p.0) (slice_cmp nat_cmp) ks (key_of (normal profile e)) n (λ p h. h)
    (record { element = normal profile e; sound = normal_sound profile e sound; normal = normal-normal profile e; is = refl }) a)

-- so it is where memory allows
pub keys_added : {U E : Type 0} (profile : Profile) (r : Result U E) (ks ls : List Entry) (e : Element) (n : ℕ) → OnOk r (IsSound e) → AreKeys profile ks
    → OnOk r (ls ≡ put_more (slice_cmp nat_cmp) ks (key_of (normal profile e)) n) → OnOk r (AreKeys profile ls)
keys_added profile (Ok u) ks ls e n sound a is = keys_with profile ks ls e n sound a is
keys_added profile (Err x) ks ls e n sound a is = tt

-- ---- sums

module _ (profile : Profile) (names strings : List (ℕ × List ℕ)) where
  -- what the key of an element's kept form counts for
  abbrev kept_key : (List ℕ → ℕ) → Element → ℕ
  kept_key g e = g (key_of (normal profile e))

  abbrev meant_key : (List ℕ → ℕ) → Drawn → ℕ
  meant_key g d = weighed (kept_key g) (element_by names strings d)

  one_placed : (g : List ℕ → ℕ) (o : Option Element) (n : ℕ) (ks : List Entry) → total g (with_placed profile o n ks) ≡ total g ks + n * weighed (kept_key g) o
  one_placed g None n ks = omega arith
  one_placed g (Some e) n ks = keys_more g ks (key_of (normal profile e)) n

  all_placed : (g : List ℕ → ℕ) (ps : List (Drawn × ℕ)) (ks : List Entry) → total g (placed profile names strings ps ks) ≡ total g ks + total (meant_key g) ps
  all_placed g [] ks = omega arith
  all_placed g (p ∷ ps) ks =
      omega (arith, all_placed g ps (with_placed profile (element_by names strings p.0) p.1 ks), one_placed g (element_by names strings p.0) p.1 ks)

  -- room for all is room for one and the others
  pub few_placed : (o : Option Element) (n : ℕ) (ks : List Entry) → total (λ _. 1) (with_placed profile o n ks) ≤ total (λ _. 1) ks + n
  few_placed None n ks = omega arith
  few_placed (Some e) n ks = omega (arith, few_is (slice_cmp nat_cmp) ks (key_of (normal profile e)) n)

  pub few_all : (ps : List (Drawn × ℕ)) (ks : List Entry) → total (λ _. 1) (placed profile names strings ps ks) ≤ total (λ _. 1) ks + total (λ _. 1) ps
  few_all [] ks = omega arith
  few_all (p ∷ ps) ks =
      omega (arith, few_all ps (with_placed profile (element_by names strings p.0) p.1 ks), few_placed (element_by names strings p.0) p.1 ks)

  -- one list, and then another
  pub in_turn : (ps qs : List (Drawn × ℕ)) (ks : List Entry) → placed profile names strings (ps ++ qs) ks ≡ placed profile names strings qs (placed profile names strings ps ks)
  in_turn [] qs ks = refl
  in_turn (p ∷ ps) qs ks = in_turn ps qs (with_placed profile (element_by names strings p.0) p.1 ks)

  by_both : (g : List ℕ → ℕ) (d : Drawn) → by_key profile g d + by_number (meant_key g) d ≡ meant_key g d
  by_both g (Named e) = omega arith
  by_both g (PlacementBy number x y turns flip) = omega arith
  by_both g (TextBy number textlayer texttype x y) = omega arith

  -- all that is meant
  pub means : (c : Compact) (ds : List Drawn) (ks : List Entry) → Keeps profile c ds → Places profile names strings c.waiting c.keys ks → MeansElements profile ks (elements_by_name names strings ds)
  means c ds ks h is = record { sums = all }
    where
      all : (g : List ℕ → ℕ) → total g ks ≡ sum_by (kept_key g) (elements_by_name names strings ds)
      all g =
          let split = sum_two (by_key profile g) (by_number (meant_key g)) ds in
          let same : sum_by (λ d. by_key profile g d + by_number (meant_key g) d) ds ≡ sum_by (meant_key g) ds = λ i. sum_by (λ d. by_both g d i) ds in
          let whole = ap (total g) is.is ∙ all_placed g is.order c.keys in
          let order = is.same (meant_key g) in
          let keys = h.keys g in
          let waiting = h.waiting (meant_key g) in
          let meant = sum-meant names strings (kept_key g) ds in
          omega (arith, whole, order, keys, waiting, split, same, meant)

-- ---- soundness

module _ (names strings : List (ℕ × List ℕ)) where
  -- what is drawn is sound, by its name or as it waits
  one_sound : (d : Drawn) (ws : List (Drawn × ℕ)) → IsSoundNamed d → AreSoundBy names strings ws → ((g : Drawn → ℕ) → by_number g d ≤ total g ws) → IsSoundBy names strings d
  one_sound (Named e) ws s a few = s
  one_sound (PlacementBy number x y turns flip) ws s a few = waits_for (IsSoundBy names strings) (PlacementBy number x y turns flip) ws a few
  one_sound (TextBy number textlayer texttype x y) ws s a few = waits_for (IsSoundBy names strings) (TextBy number textlayer texttype x y) ws a few

  with_sound : (o : Option Element) (es : List Element) → IfSome o IsSound → AllByRecursion IsSound es → AllByRecursion IsSound (with_element o es)
  with_sound None es s a = a
  with_sound (Some e) es s a = (s, a)

  all_sound : (ds : List Drawn) (ws : List (Drawn × ℕ)) → AllByRecursion IsSoundNamed ds → AreSoundBy names strings ws → ((g : Drawn → ℕ) → sum_by (by_number g) ds ≤ total g ws)
      → AllByRecursion IsSound (elements_by_name names strings ds)
  all_sound [] ws s a few = tt
  all_sound (d ∷ ds) ws s a few =
      with_sound (element_by names strings d) (elements_by_name names strings ds)
      (one_sound d ws s.0 a (λ g. omega (arith, sum_by-cons (by_number g) d ds, few g)))
      (all_sound ds ws s.1 a (λ g. omega (arith, sum_by-cons (by_number g) d ds, few g)))

  pub sound_meant : (profile : Profile) (c : Compact) (ds : List Drawn) → Keeps profile c ds → AreSoundBy names strings c.waiting → AllByRecursion IsSound (elements_by_name names strings ds)
  sound_meant profile c ds h a = all_sound ds c.waiting h.sound a (λ g. omega (arith, h.waiting g))

-- what holds for both lists holds for one after the other
pub both_sound : (names strings : List (ℕ × List ℕ)) (ps qs : List (Drawn × ℕ)) → AreSoundBy names strings ps → AreSoundBy names strings qs → AreSoundBy names strings (ps ++ qs)
both_sound names strings ps qs a b = all_append (λ (p : Drawn × ℕ). IsSoundBy names strings p.0) ps qs a b

-- ---- the loop

-- what is placed so far, and what is left
pub record Placing (profile : Profile) (names strings : List (ℕ × List ℕ)) (first now : List Entry) (all rest : List (Drawn × ℕ)) : Type 0 where
  pub same : placed profile names strings all first ≡ placed profile names strings rest now
  pub keys : AreKeys profile now
  pub sound : AreSoundBy names strings rest → AreSoundBy names strings all
  pub waits : AllByRecursion Waits rest
  pub room : total (λ _. 1) now + total (λ _. 1) rest < 2 ^ 64

pub placing_more : (profile : Profile) (names strings : List (ℕ × List ℕ)) (first now new : List Entry) (all rest : List (Drawn × ℕ)) (p : Drawn × ℕ)
    → Placing profile names strings first now all (p ∷ rest) → new ≡ with_placed profile (element_by names strings p.0) p.1 now → AreKeys profile new → IsSoundBy names strings p.0
    → Placing profile names strings first new all rest
placing_more profile names strings first now new all rest p h is keys sound =
    let few : total (λ _. 1) new ≤ total (λ _. 1) now + p.1 = subst (λ (ks : List Entry). total (λ _. 1) ks ≤ total (λ _. 1) now + p.1) (sym is) (few_placed profile names strings (element_by names strings p.0) p.1 now) in
    let room = h.room in
    record {
      same = h.same ∙ ap (placed profile names strings rest) (sym is);
      keys = keys;
      sound = λ r. h.sound (sound, r);
      waits = h.waits.1;
      room = omega arith;
    }

-- a whole chunk
pub placing_chunk : (profile : Profile) (names strings : List (ℕ × List ℕ)) (first now new : List Entry) (all ps rest : List (Drawn × ℕ))
    → Placing profile names strings first now all (ps ++ rest) → new ≡ placed profile names strings ps now → AreKeys profile new → AreSoundBy names strings ps
    → Placing profile names strings first new all rest
placing_chunk profile names strings first now new all ps rest h is keys sound =
    let few : total (λ _. 1) new ≤ total (λ _. 1) now + total (λ _. 1) ps = subst (λ (ks : List Entry). total (λ _. 1) ks ≤ total (λ _. 1) now + total (λ _. 1) ps) (sym is) (few_all profile names strings ps now) in
    let room = h.room in
    let both = total-append (λ _. 1) ps rest in
    record {
      same = h.same ∙ (in_turn profile names strings ps rest now ∙ ap (placed profile names strings rest) (sym is));
      keys = keys;
      sound = λ r. h.sound (both_sound names strings ps rest sound r);
      waits = all_back ps rest h.waits;
      room = omega arith;
    }

-- there is room for it
pub room_next : (now : List Entry) (ps rest : List (Drawn × ℕ)) → total (λ _. 1) now + total (λ _. 1) (ps ++ rest) < 2 ^ 64 → total (λ _. 1) now + total (λ _. 1) ps < 2 ^ 64
room_next now ps rest h = omega (arith, total-append (λ _. 1) ps rest, h)

-- all that waits, in two parts
module _ (ws ps qs : List (Drawn × ℕ)) (parts : ps ++ qs ≡ ws) where
  pub first_waits : AllByRecursion Waits ws → AllByRecursion Waits ps
  first_waits a = all_front ps qs (subst (AllByRecursion Waits) (sym parts) a)

  pub then_waits : AllByRecursion Waits ws → AllByRecursion Waits qs
  then_waits a = all_back ps qs (subst (AllByRecursion Waits) (sym parts) a)

  pub first_room : (ks : List Entry) → total (λ _. 1) ks + total (λ _. 1) ws < 2 ^ 64 → total (λ _. 1) ks + total (λ _. 1) ps < 2 ^ 64
  first_room ks h = room_next ks ps qs (subst (λ (xs : List (Drawn × ℕ)). total (λ _. 1) ks + total (λ _. 1) xs < 2 ^ 64) (sym parts) h)

  module _ (profile : Profile) (names strings : List (ℕ × List ℕ)) (ks ls : List Entry) (is : ls ≡ placed profile names strings ps ks) where
    pub then_room : total (λ _. 1) ks + total (λ _. 1) ws < 2 ^ 64 → total (λ _. 1) ls + total (λ _. 1) qs < 2 ^ 64
    then_room h =
        let whole : total (λ _. 1) ks + total (λ _. 1) (ps ++ qs) < 2 ^ 64 = subst (λ (xs : List (Drawn × ℕ)). total (λ _. 1) ks + total (λ _. 1) xs < 2 ^ 64) (sym parts) h in
        let few : total (λ _. 1) ls ≤ total (λ _. 1) ks + total (λ _. 1) ps = subst (λ (xs : List Entry). total (λ _. 1) xs ≤ total (λ _. 1) ks + total (λ _. 1) ps) (sym is) (few_all profile names strings ps ks) in
        let both = total-append (λ _. 1) ps qs in
        omega arith

    pub both_sound_by : AreSoundBy names strings ps → AreSoundBy names strings qs → AreSoundBy names strings ws
    both_sound_by a b = subst (AreSoundBy names strings) parts (both_sound names strings ps qs a b)

    pub both_placed : (ms : List Entry) → ms ≡ placed profile names strings qs ls → ms ≡ placed profile names strings ws ks
    both_placed ms e =
        e ∙ (ap (placed profile names strings qs) is ∙ (sym (in_turn profile names strings ps qs ks) ∙ ap (λ (xs : List (Drawn × ℕ)). placed profile names strings xs ks) parts))

-- what waits in chunks in another order, and the rest
module _ (ws ps qs others : List (Drawn × ℕ)) (parts : ps ++ others ≡ ws) (same : SameWaiting qs ps) where
  reordered : SameWaiting (qs ++ others) ws
  reordered g = omega (arith, total-append g qs others, same g, total-append g ps others, ap (total g) parts)

  pub waits_in_order : AllByRecursion Waits ws → (AllByRecursion Waits ps → AllByRecursion Waits qs) → AllByRecursion Waits (qs ++ others)
  waits_in_order a again = all_both qs others (again (first_waits ws ps others parts a)) (then_waits ws ps others parts a)

  pub room_in_order : (ks : List Entry) → total (λ _. 1) ks + total (λ _. 1) ws < 2 ^ 64 → total (λ _. 1) ks + total (λ _. 1) (qs ++ others) < 2 ^ 64
  room_in_order ks h = omega (arith, reordered (λ _. 1), h)

  pub places_in_order : (profile : Profile) (names strings : List (ℕ × List ℕ)) (ks ms : List Entry) → ms ≡ placed profile names strings (qs ++ others) ks → Places profile names strings ws ks ms
  places_in_order profile names strings ks ms is = record { order = qs ++ others; same = reordered; is = is }

  pub sound_in_order : (names strings : List (ℕ × List ℕ)) → AllByRecursion Waits ws → AreSoundBy names strings (qs ++ others) → AreSoundBy names strings ws
  sound_in_order names strings a sound = sound_again (IsSoundBy names strings) (qs ++ others) ws reordered a sound

-- nothing waits
pub places_none : (profile : Profile) (names strings : List (ℕ × List ℕ)) (ks : List Entry) → Places profile names strings [] ks ks
places_none profile names strings ks = record { order = []; same = λ g. refl; is = refl }
