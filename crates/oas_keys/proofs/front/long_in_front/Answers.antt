use Rattle.std.proofs.Common.{◌≡◌, ◌-◌, ◌+◌, ℕ, List, length, take, drop, refl, sym, ap, ◌∙◌, arith}
use Rattle.std.proofs.lemmas.List.{length-take-le, take_rest}
use Rattle.oas_keys.specs.Reading.{joined_digits}
use Rattle.oas_keys.proofs.ReadingLemmas.{reads}
use Rattle.oas_keys.proofs.FirstLemmas.{behind, headed, first_some}
use Rattle.oas_keys.proofs.front.long_in_front.Goals as goal

pub bounds-bytes-0 : goal.bounds-bytes-0
bounds-bytes-0 c = let r = c.requires.stands in (headed c.args.classes.now r.0 _ r.1 c.args.bytes.now r.3 refl).0

pub first_found-found-requires-clause-some : goal.first_found-found-requires-clause-some
first_found-found-requires-clause-some c =
    let r = c.requires.stands in
    first_some c.args.classes.now r.0 _ r.1 c.args.bytes.now c.requires.classes r.2 r.3 c.from.ensures

pub first_found-found-requires-clause-small : goal.first_found-found-requires-clause-small
first_found-found-requires-clause-small c =
    let r = c.requires.stands in
    let both = (headed c.args.classes.now r.0 c.from.result r.1 c.args.bytes.now r.3 c.from.ensures).1 in
    let h = reads c.args.classes.now r.0 c.from.result _ r.1 (drop 1 c.args.bytes.now) c.requires.classes r.2 both refl in
    omega (arith, h.low, r.2)

pub slice_bounds-behind-count : goal.slice_bounds-behind-count
slice_bounds-behind-count c = let r = c.requires.stands in (headed c.args.classes.now r.0 _ r.1 c.args.bytes.now r.3 refl).0

pub slice_bounds-behind-start : goal.slice_bounds-behind-start
slice_bounds-behind-start c = let r = c.requires.stands in (headed c.args.classes.now r.0 _ r.1 c.args.bytes.now r.3 refl).0

pub slice_bounds-joined_digits-end : goal.slice_bounds-joined_digits-end
slice_bounds-joined_digits-end c =
    let r = c.requires.stands in
    let f = c.first_found-found.ensures in
    let both = (headed c.args.classes.now r.0 c.from.result r.1 c.args.bytes.now r.3 c.from.ensures).1 in
    let h = behind c.args.classes.now r.0 c.from.result _ _ r.1 (drop 1 c.args.bytes.now) c.requires.classes r.2 both (record { least_is = sym f.least; more_is = sym f.more }) in
    let e : length (take (length c.args.bytes.now - 1) (drop 1 c.args.bytes.now)) ≡ length (drop 1 c.args.bytes.now) = ap length (take_rest c.args.bytes.now 1) in
    sym (length-take-le _ (take (length c.args.bytes.now - 1) (drop 1 c.args.bytes.now)) (omega (arith, h.some.1, e)))

pub overflow_add-number : goal.overflow_add-number
overflow_add-number c =
    let r = c.requires.stands in
    let f = c.first_found-found.ensures in
    let both = (headed c.args.classes.now r.0 c.from.result r.1 c.args.bytes.now r.3 c.from.ensures).1 in
    let h = behind c.args.classes.now r.0 c.from.result _ _ r.1 (drop 1 c.args.bytes.now) c.requires.classes r.2 both (record { least_is = sym f.least; more_is = sym f.more }) in
    let e = c.joined_digits.ensures ∙ ap (λ (t : List ℕ). joined_digits 0 (take c.first_found-found.result.more t)) (take_rest c.args.bytes.now 1) in
    omega (arith, h.some.2, e)

pub slice_bounds-result-count : goal.slice_bounds-result-count
slice_bounds-result-count c =
    let r = c.requires.stands in
    let f = c.first_found-found.ensures in
    let both = (headed c.args.classes.now r.0 c.from.result r.1 c.args.bytes.now r.3 c.from.ensures).1 in
    let h = behind c.args.classes.now r.0 c.from.result _ _ r.1 (drop 1 c.args.bytes.now) c.requires.classes r.2 both (record { least_is = sym f.least; more_is = sym f.more }) in
    let e : length (take (length c.args.bytes.now - 1) (drop 1 c.args.bytes.now)) ≡ length (drop 1 c.args.bytes.now) = ap length (take_rest c.args.bytes.now 1) in
    omega (arith, h.some.1, e)

pub slice_bounds-result-start : goal.slice_bounds-result-start
slice_bounds-result-start c =
    let r = c.requires.stands in
    let f = c.first_found-found.ensures in
    let both = (headed c.args.classes.now r.0 c.from.result r.1 c.args.bytes.now r.3 c.from.ensures).1 in
    let h = behind c.args.classes.now r.0 c.from.result _ _ r.1 (drop 1 c.args.bytes.now) c.requires.classes r.2 both (record { least_is = sym f.least; more_is = sym f.more }) in
    let e : length (take (length c.args.bytes.now - 1) (drop 1 c.args.bytes.now)) ≡ length (drop 1 c.args.bytes.now) = ap length (take_rest c.args.bytes.now 1) in
    omega (arith, h.some.1, e)

pub returns : goal.returns
returns c n rest small is =
    let f = c.first_found-found.ensures in
    let both = (headed c.args.classes.now n c.from.result rest c.args.bytes.now is c.from.ensures).1 in
    let h = behind c.args.classes.now n c.from.result _ _ rest (drop 1 c.args.bytes.now) c.requires.classes small both (record { least_is = sym f.least; more_is = sym f.more }) in
    let e = c.joined_digits.ensures ∙ ap (λ (t : List ℕ). joined_digits 0 (take c.first_found-found.result.more t)) (take_rest c.args.bytes.now 1) in (
      ap (λ (t : ℕ). c.first_found-found.result.least + t) e ∙ h.number,
      take_rest _ c.first_found-found.result.more ∙ ap (drop c.first_found-found.result.more) (take_rest c.args.bytes.now 1) ∙ h.rest_is,
    )
