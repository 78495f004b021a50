-- What is done to the keys of a cell is done to its elements.
use Rattle.std.proofs.Common.{◌≡◌, ℕ, ◌+◌, ◌*◌, true, false, List, [], ◌∷◌, refl, ap, ◌∙◌}
use Rattle.std.specs.Prelude.{Result, Ok, Err, OnOk, OnErr, IfOk}
use Rattle.std.specs.Ordering.{nat_cmp}
use Rattle.std.specs.Cmp.Lexicographic.{slice_cmp}
use Rattle.oas_elements.specs.declared.element.Element.{Element}
use Rattle.oas_elements.specs.Bag.{put_more, with_more}
use Rattle.oas_elements.specs.Laws.BagLaws.{total}
use Rattle.oas_elements.specs.declared.profile.Profile.{Profile}
use Rattle.oas_elements.specs.Grid.{fits_grid}
use Rattle.oas_elements.specs.Same.{normal}
use Rattle.oas_elements.specs.Sound.{Fits, IsSound}
use Rattle.oas_elements.specs.Weight.{lacks_points}
use Rattle.oas_elements.proofs.Order.{sound-put_more}
use Rattle.oas_cells.specs.Keys.{key_of}
use Rattle.oas_cells.proofs.KeptLemmas.{normal_sound}
use Rattle.oas_runs.specs.Entries.{Entry}
use Rattle.oas_layout.specs.Keyed.{keyed}
use Rattle.oas_layout.specs.Held.{HeldElements, elements_held}
use Rattle.oas_layout.specs.Laws.HeldLaws.{held_sound, held_keys, held_is, held_same}
use Rattle.oas_layout.proofs.KeyedLemmas.{keyed-put_more}

-- the form that is kept is sound
pub kept_sound : (profile : Profile) (e : Element) → lacks_points e ≡ false → fits_grid e ≡ true → Fits e → IsSound (normal profile e)
kept_sound profile e points inside fits = normal_sound profile e (record { points = points; inside = inside; fits = fits })

-- there are as many keys as elements
total-keyed : (es : List (Element × ℕ)) → total (λ _. 1) (keyed es) ≡ total (λ _. 1) es
total-keyed [] = refl
total-keyed (p ∷ ps) = ap (λ (n : ℕ). p.1 * 1 + n) (total-keyed ps)

pub count_is : {ks : List Entry} (h : HeldElements ks) (now : List (Element × ℕ)) → elements_held h ≡ now → total (λ _. 1) ks ≡ total (λ _. 1) now
count_is h now is = ap (λ (es : List Entry). total (λ _. 1) es) (held_keys h) ∙ total-keyed (elements_held h) ∙ ap (λ (es : List (Element × ℕ)). total (λ _. 1) es) is

module _ (e : Element) (n : ℕ) (sound : IsSound e) {ks ls : List Entry} (h : HeldElements ks) where
  -- with more of an element these are held
  more_held : ls ≡ put_more (slice_cmp nat_cmp) ks (key_of e) n → HeldElements ls
  more_held was = (
    with_more (elements_held h) e n,
    sound-put_more (elements_held h) e n sound (held_sound h),
    was ∙ ap (λ (l : List Entry). put_more (slice_cmp nat_cmp) l (key_of e) n) (held_keys h) ∙ keyed-put_more (elements_held h) e n sound (held_sound h),
  )

  -- what adding leaves, whether it was done or not
  pub added_held : {X E : Type 0} (r : Result X E) → OnOk r (ls ≡ put_more (slice_cmp nat_cmp) ks (key_of e) n) → OnErr r (ls ≡ ks) → HeldElements ls
  added_held (Ok x) o f = more_held o
  added_held (Err x) o f = (elements_held h, held_sound h, f ∙ held_keys h)

  pub added_ok : {X E : Type 0} (r : Result X E) (now : List (Element × ℕ)) → OnOk r (ls ≡ put_more (slice_cmp nat_cmp) ks (key_of e) n) → elements_held h ≡ now
      → (g : HeldElements ls) → OnOk r (elements_held g ≡ with_more now e n)
  added_ok (Ok x) now o is g =
      held_is g (with_more (elements_held h) e n) (sound-put_more (elements_held h) e n sound (held_sound h))
      (o ∙ ap (λ (l : List Entry). put_more (slice_cmp nat_cmp) l (key_of e) n) (held_keys h) ∙ keyed-put_more (elements_held h) e n sound (held_sound h))
      ∙ ap (λ (es : List (Element × ℕ)). with_more es e n) is
  added_ok (Err x) now o is g = tt

pub added_err : {X E : Type 0} {ks ls : List Entry} (h : HeldElements ks) (r : Result X E) (now : List (Element × ℕ)) → OnErr r (ls ≡ ks) → elements_held h ≡ now
    → (g : HeldElements ls) → OnErr r (elements_held g ≡ now)
added_err h (Ok x) now o is g = tt
added_err h (Err x) now o is g = held_same g h o ∙ is

-- the run has the keys of the elements
pub closed : {E : Type 0} {ks : List Entry} (h : HeldElements ks) (r : Result (List Entry) E) (now : List (Element × ℕ)) → IfOk r (λ run. run ≡ ks) → elements_held h ≡ now → IfOk r (λ run. run ≡ keyed now)
closed h (Ok run) now o is = o ∙ held_keys h ∙ ap keyed is
closed h (Err x) now o is = tt
