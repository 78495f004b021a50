-- Where the records of a block's data end.
use Rattle.std.proofs.Common.{◌≡◌, ◌≢◌, ℕ, zero, suc, ◌+◌, ◌-◌, ◌%◌, ◌^◌, ◌<◌, Bool, List, [], ◌∷◌, ◌++◌, length, ◌⊎◌, inl, inr, refl, sym, ap, subst, ◌∙◌, append_assoc, arith}
use Rattle.std.specs.Prelude.{replicate}
use Rattle.std.proofs.lemmas.List.{length-append, length-replicate, replicate-append-replicate, append_cancel_right}
use Rattle.std.proofs.lemmas.Bool.{cases_lt}
use Rattle.oas_num.specs.Grammar.{IsEach}
use Rattle.oas_elements.specs.declared.limits.Limits.{Limits}
use Rattle.oas_narrow.specs.WideRecord.{WideRecord}
use Rattle.oas_narrow.specs.declared.dropping.Dropping.{Dropping}
use Rattle.oas_narrow.specs.WideFiles.{inner_in}
use Rattle.oas_prepare.specs.Laws.{OneLastRecord}
use Rattle.oas_prepare.specs.Places.{pads, IsRun, CountsAsOne, AsRun, AsOther, NoPadLast, EndsInData}
use Rattle.oas_prepare.proofs.Items.{inner_some}
use Rattle.oas_prepare.proofs.Pads.{pad, pad_in}
use Rattle.oas_prepare.proofs.Runs.{each_more, each_pads, last_same}
use Rattle.oas_prepare.proofs.WideLaws.{PrefixFree-inner}

-- as many bytes come before the same
as_long : (a b x y : List ℕ) → a ++ x ≡ b ++ y → x ≡ y → length a ≡ length b
as_long a b x y e same = omega (arith, ap length e, ap length same, length-append a x, length-append b y)

abbrev zeros : ℕ → List ℕ
zeros count = replicate count 0

pads_more : (count : ℕ) → zeros count ++ 0 ∷ [] ≡ zeros (suc count)
pads_more zero = refl
pads_more (suc count) = ap (λ (c : List ℕ). 0 ∷ c) (pads_more count)

-- the last of this many comes after the others
one_behind : (a : List ℕ) (count : ℕ) → (a ++ zeros count) ++ 0 ∷ [] ≡ a ++ zeros (suc count)
one_behind a count = append_assoc a (zeros count) (0 ∷ []) ∙ ap (λ (c : List ℕ). a ++ c) (pads_more count)

module _ (in_end : Bool) where
  -- the last of some records
  last_one : (vs ws : List WideRecord) (v w : WideRecord) (a b c d : List ℕ) → IsEach (inner_in in_end) vs a → IsEach (inner_in in_end) ws b → inner_in in_end v c → inner_in in_end w d → a ++ c ≡ b ++ d → c ≡ d
  last_one = last_same (inner_in in_end) (PrefixFree-inner in_end) (inner_some in_end)

  and_pads : (vs : List WideRecord) (a : List ℕ) (count : ℕ) → IsEach (inner_in in_end) vs a → IsEach (inner_in in_end) (vs ++ pads count) (a ++ zeros count)
  and_pads vs a count each = each_more (inner_in in_end) vs (pads count) a (zeros count) each (each_pads in_end count)

  -- a run isn't a record that is no PAD of one byte
  run_no_other : (vs ws : List WideRecord) (w : WideRecord) (a b d : List ℕ) (count : ℕ) → 0 < count → IsEach (inner_in in_end) vs a → IsEach (inner_in in_end) ws b → inner_in in_end w d → d ≢ 0 ∷ []
      → a ++ zeros count ≡ b ++ d → ⊥
  run_no_other vs ws w a b d zero some p q s not e = omega arith
  run_no_other vs ws w a b d (suc count) some p q s not e =
      not (sym (last_one (vs ++ pads count) ws pad w (a ++ zeros count) b (0 ∷ []) d (and_pads vs a count p) q (pad_in in_end) s (one_behind a count ∙ e)))

  -- no run begins within another
  not_within : (vs : List WideRecord) (a b : List ℕ) (more count : ℕ) → IsEach (inner_in in_end) vs a → IsRun in_end a (suc more + count) → IsRun in_end b count → b ≡ a ++ zeros (suc more) → ⊥
  not_within vs a b more count each r s e = by s.begins where
    long : length b ≡ length a + suc more
    long = ap length e ∙ length-append a (zeros (suc more)) ∙ ap (λ n. length a + n) (length-replicate {A = ℕ} (suc more) 0)

    by : (length b % 2 ^ 20 ≡ 0) ⊎ NoPadLast in_end b → ⊥
    by (inl multiple) = omega (arith, multiple, long, r.within, s.some)
    by (inr none) = none (vs ++ pads more) (a ++ zeros more) (and_pads vs a more each) (e ∙ sym (one_behind a more))

  -- so the longer of two with the same end isn't one
  not_longer : (vs : List WideRecord) (a b : List ℕ) (count less : ℕ) → IsEach (inner_in in_end) vs a → IsRun in_end a count → IsRun in_end b less → less < count → a ++ zeros count ≡ b ++ zeros less → ⊥
  not_longer vs a b count less each r s shorter e =
      let more : ℕ = count - suc less in
      let is : count ≡ suc more + less = omega arith in
      let joined : b ++ zeros less ≡ (a ++ zeros (suc more)) ++ zeros less =
      sym e ∙ ap (λ n. a ++ zeros n) is ∙ ap (λ (c : List ℕ). a ++ c) (sym (replicate-append-replicate {A = ℕ} (suc more) less 0)) ∙ sym (append_assoc a (zeros (suc more)) (zeros less)) in
      not_within vs a b more less each (subst (IsRun in_end a) is r) s (append_cancel_right b (a ++ zeros (suc more)) (zeros less) joined)

  as_many : (vs ws : List WideRecord) (a b : List ℕ) (count other : ℕ) → IsEach (inner_in in_end) vs a → IsEach (inner_in in_end) ws b → IsRun in_end a count → IsRun in_end b other
      → a ++ zeros count ≡ b ++ zeros other → count ≡ other
  as_many vs ws a b count other p q r s e = elim (cases_lt count other) [
    | inl less ↦ absurd (not_longer ws b a other count q s r less (sym e))
    | inr most ↦ elim (cases_lt other count) [ inl less ↦ absurd (not_longer vs a b count other p r s less e) | inr least ↦ omega arith ]
  ]

module _ {limits lenient : Limits} {dropping further : Dropping} {in_end : Bool} {records more : List WideRecord} {plain : List ℕ} {at other : ℕ} (one : EndsInData limits dropping in_end records plain at) (two : EndsInData lenient further in_end more plain other) where
  same_data : one.before ++ one.last ≡ two.before ++ two.last
  same_data = sym one.joined ∙ two.joined

  same_place : one.last ≡ two.last → at ≡ other
  same_place same = one.place ∙ as_long one.before two.before one.last two.last same_data same ∙ sym two.place

  same_end : at ≡ other
  same_end = by one.one two.one where
    by : CountsAsOne in_end one.before one.ws one.last → CountsAsOne in_end two.before two.ws two.last → at ≡ other
    by (AsOther v p no_pad is) (AsOther w q not also) = same_place (last_one in_end one.inner two.inner v w one.before two.before one.last two.last one.each two.each p q same_data)
    by (AsRun count r is nulls) (AsOther w q not also) =
        absurd (run_no_other in_end one.inner two.inner w one.before two.before two.last count r.some one.each two.each q not (ap (λ (c : List ℕ). one.before ++ c) nulls ∙ same_data))
    by (AsOther w q not also) (AsRun count r is nulls) =
        absurd (run_no_other in_end two.inner one.inner w two.before one.before one.last count r.some two.each one.each q not (ap (λ (c : List ℕ). two.before ++ c) nulls ∙ sym same_data))
    by (AsRun count r is nulls) (AsRun number s also others) =
        let same = as_many in_end one.inner two.inner one.before two.before count number one.each two.each r s
        (ap (λ (c : List ℕ). one.before ++ c) nulls ∙ same_data ∙ ap (λ (c : List ℕ). two.before ++ c) (sym others)) in
        same_place (sym nulls ∙ ap zeros same ∙ others)

pub one_last_record : OneLastRecord
one_last_record limits lenient dropping further in_end records more plain at other one two = same_end one two
