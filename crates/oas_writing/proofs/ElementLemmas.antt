-- Putting elements.
use Rattle.std.proofs.Common.{◌≡◌, ℕ, zero, suc, ◌+◌, ◌*◌, ◌-◌, ◌<◌, ◌≤◌, ◌^◌, false, List, [], ◌∷◌, ◌++◌, length, replicate, refl, sym, ap, subst, ◌∙◌, append_assoc, append-nil, arith}
use Rattle.std.specs.Prelude.{nat_lt, sum_by}
use Rattle.std.specs.List.{AllByRecursion, repeat}
use Rattle.std.proofs.lemmas.List.Sums.{sum_by-cons, sum_by-append}
use Rattle.oas_num.specs.Writing.{Puts, PutsPrefix}
use Rattle.oas_elements.specs.declared.profile.Profile.{Profile}
use Rattle.oas_elements.specs.declared.element.Element.{Element}
use Rattle.oas_elements.specs.declared.element.Element.TheVariants.{Placement, Text, Rectangle, Polygon, Path, Circle}
use Rattle.oas_elements.specs.Weight.{weight_of}
use Rattle.oas_elements.specs.Sound.{IsSound}
use Rattle.oas_elements.specs.Bag.{items}
use Rattle.oas_elements.specs.Contents.{Cell, expanded, AllSound, IsCell}
use Rattle.oas_listing.specs.Bytes.{element_bytes, elements_bytes}
use Rattle.oas_listing.specs.Spelling.{HasPoint}
use Rattle.oas_listing.specs.Putting.{PutsAll}
use Rattle.oas_listing.proofs.FileLengths.{length-elements}
use Rattle.oas_listing.proofs.PuttingLemmas.{PutSoFar, fails_at, part_fits, ◌▸◌}
use Rattle.oas_writing.proofs.RepeatLemmas.{length-repeat}

elements_bytes-append : (es fs : List Element) → elements_bytes (es ++ fs) ≡ elements_bytes es ++ elements_bytes fs
elements_bytes-append [] fs = refl
elements_bytes-append (e ∷ es) fs = ap (λ (b : List ℕ). element_bytes e ++ b) (elements_bytes-append es fs) ∙ sym (append_assoc (element_bytes e) (elements_bytes es) (elements_bytes fs))

-- ---- sound elements have points

sound_point : (e : Element) → IsSound e → HasPoint e
sound_point (Path layer datatype half_width start end points) h = some (length points) h.points where
  some : (n : ℕ) → nat_lt n 1 ≡ false → 0 < n
  some zero h = cc
  some (suc n) h = omega arith
sound_point e h = tt

copies_points : (n : ℕ) (e : Element) → HasPoint e → AllByRecursion HasPoint (replicate n e)
copies_points zero e h = tt
copies_points (suc n) e h = (h, copies_points n e h)

append_points : (es fs : List Element) → AllByRecursion HasPoint es → AllByRecursion HasPoint fs → AllByRecursion HasPoint (es ++ fs)
append_points [] fs h k = k
append_points (e ∷ es) fs h k = (h.0, append_points es fs h.1 k)

pub items_points : (es : List (Element × ℕ)) → AllSound es → AllByRecursion HasPoint (items es)
items_points [] h = tt
items_points (e ∷ es) h = append_points (replicate e.1 e.0) (items es) (copies_points e.1 e.0 (sound_point e.0 h.0)) (items_points es h.1)

pub cells_points : (profile : Profile) (cs : List Cell) → AllByRecursion (IsCell profile) cs → AllByRecursion (λ c. AllByRecursion HasPoint c.1) (expanded cs)
cells_points profile [] h = tt
cells_points profile (c ∷ cs) h = (items_points c.1 h.0.sound, cells_points profile cs h.1)

-- ---- copies of one element

-- its record has a byte
pub record_some : (e : Element) → 0 < length (element_bytes e)
record_some (Placement name x y turns flip) = omega arith
record_some (Text string textlayer texttype x y) = omega arith
record_some (Rectangle layer datatype width height x y) = omega arith
record_some (Polygon layer datatype points) = omega arith
record_some (Path layer datatype half_width start end points) = omega arith
record_some (Circle layer datatype radius x y) = omega arith

-- copies are its record many times in a row
copies_bytes : (times : ℕ) (e : Element) → elements_bytes (replicate times e) ≡ repeat times (element_bytes e)
copies_bytes zero e = refl
copies_bytes (suc n) e = ap (λ (b : List ℕ). element_bytes e ++ b) (copies_bytes n e)

pub copies_length : (times size : ℕ) (e : Element) → size ≡ length (element_bytes e) → times * size ≡ length (elements_bytes (replicate times e))
copies_length times size e is = rw is (sym (ap length (copies_bytes times e) ∙ length-repeat times (element_bytes e)))

-- what a batch holds, where some bytes were put into an empty one
pub batch_is : {failures : List ℕ → ℕ} {bytes old new : List ℕ} → old ≡ [] → Puts (λ b bytes c. c ≡ b ++ bytes) failures old bytes new → new ≡ bytes
batch_is {bytes = bytes} {old = old} none p = p.after old [] (sym (append-nil old)) ∙ ap (λ (b : List ℕ). b ++ bytes) none

module _ {K : Type 0} {given : K → List ℕ → K → Type 0} {failures : K → ℕ} {old new : K} (e : Element) (times : ℕ) {held : List ℕ} (is : held ≡ element_bytes e) where
  pub repeats_fail : PutsPrefix given failures old (repeat times held) new → PutsPrefix given failures old (elements_bytes (replicate times e)) new
  repeats_fail q = rw (copies_bytes times e, ← is) q

  pub repeats_put : {size : ℕ} → size ≡ length (element_bytes e) → Puts given failures old (repeat times held) new → PutsAll given failures old (elements_bytes (replicate times e)) (times * size) new
  repeats_put {size} same q = record {
    puts = rw (copies_bytes times e, ← is) q;
    count_is = copies_length times size e same;
  }

-- this many copies were put, and the others are left
pub record CopiesLeft {K : Type 0} (given : K → List ℕ → K → Type 0) (failures : K → ℕ) (e : Element) (times i : ℕ) (old now : K) (count : ℕ) : Type 0 where
  pub so_far : PutSoFar given failures (elements_bytes (replicate times e)) (elements_bytes (replicate (times - i) e)) old now count
  pub light : sum_by weight_of (replicate (times - i) e) ≤ 2 ^ 30

copies_next : (times i : ℕ) (e : Element) → i < times → replicate (times - i) e ≡ e ∷ replicate (times - (i + 1)) e
copies_next times i e lt =
    let one : times - i ≡ suc (times - (i + 1)) = omega (arith, lt) in
    ap (λ (n : ℕ). replicate n e) one

-- one of them is no heavier
pub one_light : (e : Element) (times : ℕ) → 0 < times → sum_by weight_of (replicate times e) ≤ 2 ^ 30 → weight_of e ≤ 2 ^ 30
one_light e zero some light = absurd (omega arith)
one_light e (suc n) some light = omega (arith, light, sum_by-cons weight_of e (replicate n e))

-- all of them together
pub copies_short : (e : Element) (times : ℕ) → IsSound e → sum_by weight_of (replicate times e) ≤ 2 ^ 30 → length (elements_bytes (replicate times e)) ≤ 64 * 2 ^ 30
copies_short e times sound light = omega (arith, light, length-elements (replicate times e) (copies_points times e (sound_point e sound)))

module _ {K : Type 0} {given : K → List ℕ → K → Type 0} {failures : K → ℕ} {old mid : K} {n : ℕ} (e : Element) (times i : ℕ) (lt : i < times)
    (left : CopiesLeft given failures e times i old mid n) where
  copy_left : PutSoFar given failures (elements_bytes (replicate times e)) (element_bytes e ++ elements_bytes (replicate (times - (i + 1)) e)) old mid n
  copy_left = subst (λ (es : List Element). PutSoFar given failures (elements_bytes (replicate times e)) (elements_bytes es) old mid n) (copies_next times i e lt) left.so_far

  copies_light : weight_of e + sum_by weight_of (replicate (times - (i + 1)) e) ≤ 2 ^ 30
  copies_light =
      let whole = subst (λ (es : List Element). sum_by weight_of es ≤ 2 ^ 30) (copies_next times i e lt) left.light in
      omega (arith, whole, sum_by-cons weight_of e (replicate (times - (i + 1)) e))

  pub copy_light : weight_of e ≤ 2 ^ 30
  copy_light = omega (arith, copies_light)

  pub copy_fails : {new : K} → PutsPrefix given failures mid (element_bytes e) new → PutsPrefix given failures old (elements_bytes (replicate times e)) new
  copy_fails q = fails_at _ copy_left q

  pub copy_put : {new : K} {m : ℕ} → PutsAll given failures mid (element_bytes e) m new → CopiesLeft given failures e times (i + 1) old new (n + m)
  copy_put q = record { so_far = copy_left ▸ q; light = omega (arith, copies_light) }

  pub copy_within : {m : ℕ} → m ≡ length (element_bytes e) → n + m ≤ length (elements_bytes (replicate times e))
  copy_within same = part_fits (element_bytes e) (elements_bytes (replicate (times - (i + 1)) e)) copy_left same

-- ---- elements with their counts

-- some were put, and these are left
pub record ElementsLeft {K : Type 0} (given : K → List ℕ → K → Type 0) (failures : K → ℕ) (all left : List (Element × ℕ)) (old now : K) (count : ℕ) : Type 0 where
  pub so_far : PutSoFar given failures (elements_bytes (items all)) (elements_bytes (items left)) old now count
  pub sound : AllSound left
  pub light : sum_by weight_of (items left) ≤ 2 ^ 30

-- all of them together
pub elements_short : (all : List (Element × ℕ)) → AllSound all → length (elements_bytes (items all)) ≤ 64 * sum_by weight_of (items all)
elements_short all sound = length-elements (items all) (items_points all sound)

module _ {K : Type 0} {given : K → List ℕ → K → Type 0} {failures : K → ℕ} {old mid : K} {n : ℕ} (all before after : List (Element × ℕ)) (e : Element) (times : ℕ)
    (is : before ≡ (e, times) ∷ after) (left : ElementsLeft given failures all before old mid n) where
  here : ElementsLeft given failures all ((e, times) ∷ after) old mid n
  here = subst (λ (es : List (Element × ℕ)). ElementsLeft given failures all es old mid n) is left

  pair_left : PutSoFar given failures (elements_bytes (items all)) (elements_bytes (replicate times e) ++ elements_bytes (items after)) old mid n
  pair_left = subst (λ (b : List ℕ). PutSoFar given failures (elements_bytes (items all)) b old mid n) (elements_bytes-append (replicate times e) (items after)) here.so_far

  pair_weight : sum_by weight_of (replicate times e) + sum_by weight_of (items after) ≤ 2 ^ 30
  pair_weight = omega (arith, here.light, sum_by-append weight_of (replicate times e) (items after))

  pub pair_sound : IsSound e
  pair_sound = here.sound.0

  pub pair_light : sum_by weight_of (replicate times e) ≤ 2 ^ 30
  pair_light = omega (arith, pair_weight)

  pub pair_fails : {new : K} → PutsPrefix given failures mid (elements_bytes (replicate times e)) new → PutsPrefix given failures old (elements_bytes (items all)) new
  pair_fails q = fails_at _ pair_left q

  pub pair_put : {new : K} {m : ℕ} → PutsAll given failures mid (elements_bytes (replicate times e)) m new → ElementsLeft given failures all after old new (n + m)
  pair_put q = record { so_far = pair_left ▸ q; sound = here.sound.1; light = omega (arith, pair_weight) }

  pub pair_within : {m : ℕ} → m ≡ length (elements_bytes (replicate times e)) → n + m ≤ length (elements_bytes (items all))
  pair_within same = part_fits (elements_bytes (replicate times e)) (elements_bytes (items after)) pair_left same
