-- Elements that are judged one after another are in order, and the other way round.
use Rattle.std.proofs.Common.{◌≡◌, ℕ, false, List, [], ◌∷◌, map, reverse, Option, None, Some, refl, sym, ap, subst, ◌∙◌}
use Rattle.std.proofs.lemmas.Cmp.{upto}
use Rattle.std.proofs.lemmas.Map.Keys.{sorted_head, sorted_tail}
use Rattle.std.specs.List.{AllByRecursion}
use Rattle.std.specs.List.Sorted.{IsStrictlySortedBy}
use Rattle.std.specs.Map.{keys_of}
use Rattle.std.specs.Ordering.{is_gt}
use Rattle.std.specs.declared.cmp.Ordering.TheVariants.{Less}
use Rattle.std.specs.Cmp.Lexicographic.{nat_list_cmp_total}
use Rattle.oas_record.specs.declared.records.Record.{Record}
use Rattle.oas_record.specs.declared.records.Record.TheVariants as record_of
use Rattle.oas_record.specs.declared.references.CellRef.TheVariants as cell
use Rattle.oas_elements.specs.declared.element.Element.{Element}
use Rattle.oas_elements.specs.declared.element.Element.TheVariants.{Placement}
use Rattle.oas_elements.specs.declared.profile.Profile.{Profile}
use Rattle.oas_elements.specs.Ascending.{Ascends}
use Rattle.oas_elements.specs.Element.{element_cmp}
use Rattle.oas_elements.specs.Laws.ElementLaws.{element_total}
use Rattle.oas_elements.specs.Same.{IsNormal}
use Rattle.oas_elements.specs.Weight.{lacks_points}
use Rattle.oas_elements.proofs.Sealed.{name_cmp}
use Rattle.oas_file.specs.Drawn.{Drawn}
use Rattle.oas_file.specs.Drawing.{elements_at}
use Rattle.oas_form.specs.Canonical.{IsOrdered}
use Rattle.oas_form.specs.Records.{Cells, element_record, records_of}
use Rattle.oas_form.specs.RecordMeaning.{HavePoints}
use Rattle.oas_form.specs.Judging.{Judge, IsAbove, IsNotBelow, IsDrawnInOrder, IsInOrder, judge_drawn, judge_after, judge_of, AreInOrder}
use Rattle.oas_form.proofs.MeantLemmas.{onto, onto-append, reverse-is, IsAbsolute, draws, absolute_element}

-- ---- elements, one after another

module _ (profile : Profile) where
  -- each is in its kept form, and not below the one before it
  abbrev ElementsFollow : Option Element → List Element → Type 0
  ElementsFollow before [] = Unit {0}
  ElementsFollow before (e ∷ es) = (IsNormal profile e × IsNotBelow before e) × ElementsFollow (Some e) es

  all_normal : (before : Option Element) (es : List Element) → ElementsFollow before es → AllByRecursion (IsNormal profile) es
  all_normal before [] h = tt
  all_normal before (e ∷ es) h = (h.0.0, all_normal (Some e) es h.1)

  -- what isn't below the first isn't below those after it
  none_below : (x e : Element) (es : List Element) → is_gt (element_cmp x e) ≡ false → ElementsFollow (Some e) es → AllByRecursion (λ y. is_gt (element_cmp x y) ≡ false) es
  none_below x e [] h f = tt
  none_below x e (y ∷ ys) h f = let more = upto element_total x e y h f.0.1 in (more, none_below x y ys more f.1)

  all_ascend : (before : Option Element) (es : List Element) → ElementsFollow before es → Ascends element_cmp es
  all_ascend before [] h = tt
  all_ascend before (e ∷ []) h = (tt, tt)
  all_ascend before (e ∷ f ∷ es) h = ((h.1.0.1, none_below e f es h.1.0.1 h.1.1), all_ascend (Some e) (f ∷ es) h.1)

  elements_follow : (before : Option Element) (es : List Element) → AllByRecursion (IsNormal profile) es → Ascends element_cmp es → AllByRecursion (IsNotBelow before) es → ElementsFollow before es
  elements_follow before [] n a h = tt
  elements_follow before (e ∷ es) n a h = ((n.0, h.0), elements_follow (Some e) es n.1 a.1 a.0)

  nothing_before : (es : List Element) → AllByRecursion (IsNotBelow None) es
  nothing_before [] = tt
  nothing_before (e ∷ es) = (tt, nothing_before es)

  -- ---- cells, one after another

  abbrev CellsFollow : Option (List ℕ) → Cells → Type 0
  CellsFollow before [] = Unit {0}
  CellsFollow before (c ∷ cs) = IsAbove before c.0 × ElementsFollow None c.1 × CellsFollow (Some c.0) cs

  cells_normal : (before : Option (List ℕ)) (cs : Cells) → CellsFollow before cs → AllByRecursion (λ c. AllByRecursion (IsNormal profile) c.1) cs
  cells_normal before [] h = tt
  cells_normal before (c ∷ cs) h = (all_normal None c.1 h.1, cells_normal (Some c.0) cs h.2)

  cells_ascend : (before : Option (List ℕ)) (cs : Cells) → CellsFollow before cs → AllByRecursion (λ c. Ascends element_cmp c.1) cs
  cells_ascend before [] h = tt
  cells_ascend before (c ∷ cs) h = (all_ascend None c.1 h.1, cells_ascend (Some c.0) cs h.2)

  names_above : (x k : List ℕ) (cs : Cells) → name_cmp x k ≡ Less → CellsFollow (Some k) cs → AllByRecursion (λ y. name_cmp x y ≡ Less) (keys_of cs)
  names_above x k [] l h = tt
  names_above x k (c ∷ cs) l h = let more = nat_list_cmp_total.trans x k c.0 l h.0 in (more, names_above x c.0 cs more h.2)

  first_above : (k : List ℕ) (cs : Cells) → CellsFollow (Some k) cs → AllByRecursion (λ y. name_cmp k y ≡ Less) (keys_of cs)
  first_above k [] h = tt
  first_above k (c ∷ cs) h = (h.0, names_above k c.0 cs h.0 h.2)

  names_sorted : (before : Option (List ℕ)) (cs : Cells) → CellsFollow before cs → IsStrictlySortedBy name_cmp (keys_of cs)
  unfolding IsStrictlySortedBy
  names_sorted before [] h = tt
  names_sorted before (c ∷ cs) h = (first_above c.0 cs h.2, names_sorted (Some c.0) cs h.2)

  cells_ordered : (cs : Cells) → CellsFollow None cs → IsOrdered profile cs
  cells_ordered cs h = record { names = names_sorted None cs h; ascending = cells_ascend None cs h; normal = cells_normal None cs h }

  cells_follow : (before : Option (List ℕ)) (cs : Cells) → AllByRecursion (IsAbove before) (keys_of cs) → IsStrictlySortedBy name_cmp (keys_of cs) →
      AllByRecursion (λ c. Ascends element_cmp c.1) cs → AllByRecursion (λ c. AllByRecursion (IsNormal profile) c.1) cs → CellsFollow before cs
  cells_follow before [] above names ascending normal = tt
  cells_follow before (c ∷ cs) above names ascending normal = (
    above.0,
    elements_follow None c.1 normal.0 ascending.0 (nothing_before c.1),
    cells_follow (Some c.0) cs (sorted_head name_cmp c.0 (keys_of cs) names)
        (sorted_tail name_cmp c.0 (keys_of cs) names) ascending.1 normal.1,
  )

  no_name_before : (names : List (List ℕ)) → AllByRecursion (IsAbove None) names
  no_name_before [] = tt
  no_name_before (n ∷ ns) = (tt, no_name_before ns)

  -- ---- the records of elements

  judge_element : (e : Element) (j : Judge) (ds : List Drawn) → judge_after j (element_record e) ds ≡ judge_drawn j ds
  judge_element (Placement name x y turns flip) j ds = refl
  judge_element e j ds = refl

  order_there : (e : Element) (j : Judge) (ds : List Drawn) → IsDrawnInOrder profile j ds → IsInOrder profile j (element_record e) ds
  order_there (Placement name x y turns flip) j ds h = h
  order_there e j ds h = h

  order_back : (e : Element) (j : Judge) (ds : List Drawn) → IsInOrder profile j (element_record e) ds → IsDrawnInOrder profile j ds
  order_back (Placement name x y turns flip) j ds h = h
  order_back e j ds h = h

  -- what the record of an element makes of the judge
  judge_is : (e : Element) (before : List Record) → IsAbsolute before → lacks_points e ≡ false → judge_of (element_record e ∷ before) ≡ record { name = (judge_of before).name; element = Some e }
  judge_is e before absolute points = judge_element e (judge_of before) (elements_at (element_record e) before) ∙ ap (judge_drawn (judge_of before)) (draws e before absolute points)

  element_in_order : (e : Element) (before : List Record) → IsAbsolute before → lacks_points e ≡ false → IsNormal profile e × IsNotBelow (judge_of before).element e →
      IsInOrder profile (judge_of before) (element_record e) (elements_at (element_record e) before)
  element_in_order e before absolute points h = order_there e (judge_of before) _ (subst (IsDrawnInOrder profile (judge_of before)) (sym (draws e before absolute points)) h)

  in_order_element : (e : Element) (before : List Record) → IsAbsolute before → lacks_points e ≡ false →
      IsInOrder profile (judge_of before) (element_record e) (elements_at (element_record e) before) → IsNormal profile e × IsNotBelow (judge_of before).element e
  in_order_element e before absolute points h = subst (IsDrawnInOrder profile (judge_of before)) (draws e before absolute points) (order_back e (judge_of before) _ h)

  -- in order so far, and the elements follow
  elements_judged : (es : List Element) (before : List Record) → IsAbsolute before → AllByRecursion (λ e. lacks_points e ≡ false) es → AreInOrder profile before →
      ElementsFollow (judge_of before).element es → AreInOrder profile (onto (map element_record es) before)
  elements_judged [] before absolute points h f = h
  elements_judged (e ∷ es) before absolute points h f =
      elements_judged es (element_record e ∷ before) (absolute_element e before ∙ absolute) points.1 (h, element_in_order e before absolute points.0 f.0)
      (subst (λ (j : Judge). ElementsFollow j.element es) (sym (judge_is e before absolute points.0)) f.1)

  -- what is in order is in order before the last
  order_front : (rs before : List Record) → AreInOrder profile (onto rs before) → AreInOrder profile before
  order_front [] before h = h
  order_front (r ∷ rs) before h = (order_front rs (r ∷ before) h).0

  elements_back : (es : List Element) (before : List Record) → IsAbsolute before → AllByRecursion (λ e. lacks_points e ≡ false) es →
      AreInOrder profile (onto (map element_record es) before) → ElementsFollow (judge_of before).element es
  elements_back [] before absolute points h = tt
  elements_back (e ∷ es) before absolute points h = (
    in_order_element e before absolute points.0 (order_front (map element_record es) (element_record e ∷ before) h).1,
    subst (λ (j : Judge). ElementsFollow j.element es) (judge_is e before absolute points.0) (elements_back es (element_record e ∷ before) (absolute_element e before ∙ absolute) points.1 h),
  )

  -- the open cell stays
  name_stays : (es : List Element) (before : List Record) → IsAbsolute before → AllByRecursion (λ e. lacks_points e ≡ false) es →
      (judge_of (onto (map element_record es) before)).name ≡ (judge_of before).name
  name_stays [] before absolute points = refl
  name_stays (e ∷ es) before absolute points = name_stays es (element_record e ∷ before) (absolute_element e before ∙ absolute) points.1
      ∙ ap (λ (j : Judge). j.name) (judge_is e before absolute points.0)

  -- ---- the records of cells

  cells_judged : (cs : Cells) (before : List Record) → HavePoints cs → AreInOrder profile before → CellsFollow (judge_of before).name cs → AreInOrder profile (onto (records_of cs) before)
  cells_judged [] before points h f = h
  cells_judged (c ∷ cs) before points h f =
      let opened : List Record = record_of.Cell (cell.Name c.0) ∷ before in
      subst (AreInOrder profile) (sym (onto-append (map element_record c.1) (records_of cs) opened))
      (cells_judged cs (onto (map element_record c.1) opened) points.1 (elements_judged c.1 opened refl points.0 (h, f.0) f.1)
      (subst (λ (o : Option (List ℕ)). CellsFollow o cs) (sym (name_stays c.1 opened refl points.0)) f.2))

  cells_back : (cs : Cells) (before : List Record) → HavePoints cs → AreInOrder profile (onto (records_of cs) before) → CellsFollow (judge_of before).name cs
  cells_back [] before points h = tt
  cells_back (c ∷ cs) before points h =
      let opened : List Record = record_of.Cell (cell.Name c.0) ∷ before in
      let all : AreInOrder profile (onto (records_of cs) (onto (map element_record c.1) opened)) = subst (AreInOrder profile) (onto-append (map element_record c.1) (records_of cs) opened) h in
      let first = order_front (records_of cs) (onto (map element_record c.1) opened) all in (
        (order_front (map element_record c.1) opened first).1,
        elements_back c.1 opened refl points.0 first,
        subst (λ (o : Option (List ℕ)). CellsFollow o cs) (name_stays c.1 opened refl points.0) (cells_back cs (onto (map element_record c.1) opened) points.1 all),
      )

  pub judged_if_ordered : (cs : Cells) → HavePoints cs → IsOrdered profile cs → AreInOrder profile (reverse (records_of cs))
  judged_if_ordered cs points h = subst (AreInOrder profile) (sym (reverse-is (records_of cs)))
      (cells_judged cs [] points tt (cells_follow None cs (no_name_before (keys_of cs)) h.names h.ascending h.normal))

  pub ordered_if_judged : (cs : Cells) → HavePoints cs → AreInOrder profile (reverse (records_of cs)) → IsOrdered profile cs
  ordered_if_judged cs points h = cells_ordered cs (cells_back cs [] points (subst (AreInOrder profile) (reverse-is (records_of cs)) h))
