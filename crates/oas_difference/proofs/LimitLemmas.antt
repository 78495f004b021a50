-- The first lines of a text, and of one text after another.
use Rattle.std.proofs.Common.{◌≡◌, ◌≢◌, ℕ, zero, suc, ◌<◌, ◌≤◌, ◌^◌, List, [], ◌∷◌, ◌++◌, length, Bool, true, false, Option, None, Some, unwrap_or, inl, inr, refl, sym, ◌∙◌, ap}
use Rattle.std.proofs.Common.{subst, append_assoc, append-nil, length-append, arith, MutBor}
use Rattle.std.specs.Prelude.{◌-◌, ◌==◌, ◌||◌, if◌then◌else◌}
use Rattle.std.proofs.lemmas.Bool.{eqb-true, eq-eqb}
use Rattle.oas_num.specs.Writing.{Puts, PutsPrefix}
use Rattle.oas_num.proofs.WritingLemmas.{Puts-none, Puts-then}
use Rattle.oas_num.proofs.PuttingLemmas.{PutSoFar}
use Rattle.oas_diff_options.specs.declared.format.Syntax.{Syntax}
use Rattle.oas_diff_options.specs.declared.format.Syntax.TheVariants.{Lines, Json}
use Rattle.oas_difference.specs.declared.limiting.Limited.{Limited}
use Rattle.oas_difference.specs.Limited.{first_lines, is_longer, more_line, limited}
use Rattle.oas_difference.specs.Limiting.{lines_left, Passes}
use Rattle.oas_difference.specs.Laws.LimitingLaws.{Passes-none, none_first, none_left, none_longer, or_false}

-- ---- one text after another

first-append : (n : ℕ) (xs ys : List ℕ) → first_lines n (xs ++ ys) ≡ first_lines n xs ++ first_lines (lines_left n xs) ys
first-append zero xs ys = refl
first-append (suc n) [] ys = refl
first-append (suc n) (x ∷ xs) ys = ap (λ (bs : List ℕ). x ∷ bs) (first-append (if x == 10 then n else suc n) xs ys)

left-append : (n : ℕ) (xs ys : List ℕ) → lines_left n (xs ++ ys) ≡ lines_left (lines_left n xs) ys
left-append zero xs ys = refl
left-append (suc n) [] ys = refl
left-append (suc n) (x ∷ xs) ys = left-append (if x == 10 then n else suc n) xs ys

longer-append : (n : ℕ) (xs ys : List ℕ) → is_longer n (xs ++ ys) ≡ (is_longer n xs || is_longer (lines_left n xs) ys)
longer-append zero [] ys = refl
longer-append zero (x ∷ xs) ys = refl
longer-append (suc n) [] ys = refl
longer-append (suc n) (x ∷ xs) ys = longer-append (if x == 10 then n else suc n) xs ys

or-assoc : (a b c : Bool) → ((a || b) || c) ≡ (a || (b || c))
or-assoc true b c = refl
or-assoc false b c = refl

or_true : (b : Bool) → (b || true) ≡ true
or_true true = refl
or_true false = refl

-- ---- no more lines than bytes

first-length : (n : ℕ) (text : List ℕ) → length (first_lines n text) ≤ length text
first-length zero text = omega arith
first-length (suc n) [] = omega arith
first-length (suc n) (b ∷ bs) = omega (arith, first-length (if b == 10 then n else suc n) bs)

one_fewer : (b n : ℕ) → n ≤ (if b == 10 then n else suc n)
one_fewer b n = elim (b == 10) as (λ t. n ≤ (if t then n else suc n)) [ true ↦ omega arith | false ↦ omega arith ]

whole_first : (n : ℕ) (text : List ℕ) → length text ≤ n → first_lines n text ≡ text
whole_first zero [] h = refl
whole_first zero (b ∷ bs) h = absurd (omega (arith, h))
whole_first (suc n) [] h = refl
whole_first (suc n) (b ∷ bs) h = ap (λ (t : List ℕ). b ∷ t) (whole_first (if b == 10 then n else suc n) bs (omega (arith, h, one_fewer b n)))

whole_longer : (n : ℕ) (text : List ℕ) → length text ≤ n → is_longer n text ≡ false
whole_longer zero [] h = refl
whole_longer zero (b ∷ bs) h = absurd (omega (arith, h))
whole_longer (suc n) [] h = refl
whole_longer (suc n) (b ∷ bs) h = whole_longer (if b == 10 then n else suc n) bs (omega (arith, h, one_fewer b n))

limited_is : (s : Syntax) (o : Option ℕ) (text : List ℕ) → length text < 2 ^ 63 → limited s o text ≡ first_lines (unwrap_or o (2 ^ 64 - 1)) text ++ more_line s (is_longer (unwrap_or o (2 ^ 64 - 1)) text)
limited_is s None text h =
    let first : first_lines (2 ^ 64 - 1) text ≡ text = whole_first (2 ^ 64 - 1) text (omega (arith, h)) in
    let none : is_longer (2 ^ 64 - 1) text ≡ false = whole_longer (2 ^ 64 - 1) text (omega (arith, h)) in
    sym ((λ i. first i ++ more_line s (none i)) ∙ append-nil text)
limited_is s (Some n) text h = refl

-- and of this many lines, as the limit says
limited_by : (s : Syntax) (o : Option ℕ) (n : ℕ) (text : List ℕ) → n ≡ unwrap_or o (2 ^ 64 - 1) → length text < 2 ^ 63 → limited s o text ≡ first_lines n text ++ more_line s (is_longer n text)
limited_by s o n text is h = limited_is s o text h ∙ ap (λ (k : ℕ). first_lines k text ++ more_line s (is_longer k text)) (sym is)

length-more : (s : Syntax) (b : Bool) → length (more_line s b) ≤ 16
length-more s false = omega arith
length-more Lines true = omega arith
length-more Json true = omega arith

pub limited_short : (s : Syntax) (o : Option ℕ) (text : List ℕ) → length text < 2 ^ 63 → length (limited s o text) < 2 ^ 64
limited_short s None text h = omega (arith, h)
limited_short s (Some n) text h = omega (arith, h, length-append (first_lines n text) (more_line s (is_longer n text)), first-length n text, length-more s (is_longer n text))

-- ---- the sink

module _ {K : Type 0} (given : K → List ℕ → K → Type 0) (failures : K → ℕ) where
  -- how often it failed
  abbrev pub faults : Limited K → ℕ
  faults s = if s.failed then 1 else 0

  no_faults : (s : Limited K) → s.failed ≡ false → faults s ≡ 0
  no_faults s e = ap (λ b. if b then 1 else 0) e

  passes_then : (old mid new : Limited K) (a b : List ℕ) → mid.failed ≡ false → Passes given failures old a mid → Passes given failures mid b new → Passes given failures old (a ++ b) new
  passes_then old mid new a b works p q =
      let here : lines_left old.left a ≡ mid.left = sym (p.left works) in
      record {
        same_sink = q.same_sink ∙ p.same_sink;
        puts = subst (λ (bs : List ℕ). Puts given failures old.sink.now bs new.sink.now)
            (ap (λ (n : ℕ). first_lines old.left a ++ first_lines n b) (p.left works) ∙ sym (first-append old.left a b))
            (Puts-then given failures old.sink.now mid.sink.now new.sink.now (first_lines old.left a) (first_lines mid.left b) p.puts q.puts);
        left = λ e. q.left e ∙ ap (λ (n : ℕ). lines_left n b) (p.left works) ∙ sym (left-append old.left a b);
        cut = λ e. q.cut e ∙ (λ i. p.cut works i || is_longer (p.left works i) b)
            ∙ or-assoc old.is_cut (is_longer old.left a) (is_longer (lines_left old.left a) b) ∙ ap (λ (t : Bool). old.is_cut || t) (sym (longer-append old.left a b));
        fault = λ e. elim (q.fault e) [
          | inl was ↦ (let no : ⊥ = cc in absurd no)
          | inr some ↦ inr some
        ];
      }

  -- what a sink that works passes on is put
  pub passed : (old new : Limited K) (bytes : List ℕ) → old.failed ≡ false → Passes given failures old bytes new → Puts (Passes given failures) faults old bytes new
  passed old new bytes works p = record { after = λ start before h. passes_then start old new before bytes works h p; no_fewer = omega (arith, no_faults old works) }

  -- ---- a byte

  -- one that is dropped
  pub dropped : (old new : Limited K) (b : ℕ) → old.left ≡ 0 → new ≡ record old { is_cut = true } → Passes given failures old (b ∷ []) new
  dropped old new b none is = subst (Passes given failures old (b ∷ [])) (sym is) (record {
    same_sink = refl;
    puts = subst (λ (n : ℕ). Puts given failures old.sink.now (first_lines n (b ∷ [])) old.sink.now) (sym none) (Puts-none given failures old.sink.now);
    left = λ e. none ∙ sym (ap (λ (n : ℕ). lines_left n (b ∷ [])) none);
    cut = λ e. sym (ap (λ (n : ℕ). old.is_cut || is_longer n (b ∷ [])) none ∙ or_true old.is_cut);
    fault = λ e. inl e;
  })

  one_first : (n b : ℕ) → n ≢ 0 → first_lines n (b ∷ []) ≡ b ∷ []
  one_first zero b h = absurd (h refl)
  one_first (suc n) b h = ap (λ (t : List ℕ). b ∷ t) (none_first (if b == 10 then n else suc n))

  -- how many lines are left after a byte
  left_end : (n b : ℕ) → n ≢ 0 → b ≡ 10 → n - 1 ≡ lines_left n (b ∷ [])
  left_end zero b h e = absurd (h refl)
  left_end (suc n) b h e =
      let is : lines_left (if b == 10 then n else suc n) [] ≡ n = ap (λ (t : Bool). lines_left (if t then n else suc n) []) (eq-eqb b 10 e) ∙ none_left n in
      omega (arith, is)

  left_other : (n b : ℕ) → n ≢ 0 → b ≢ 10 → n ≡ lines_left n (b ∷ [])
  left_other zero b h e = absurd (h refl)
  left_other (suc n) b h e = by_test (b == 10) refl where
    by_test : (t : Bool) → (b == 10) ≡ t → suc n ≡ lines_left (if t then n else suc n) []
    by_test true q = absurd (e (eqb-true b 10 q))
    by_test false q = refl

  one_longer : (n b : ℕ) → n ≢ 0 → is_longer n (b ∷ []) ≡ false
  one_longer zero b h = absurd (h refl)
  one_longer (suc n) b h = none_longer (if b == 10 then n else suc n)

  -- one that is passed on
  handed : (old new : Limited K) (b : ℕ) → new.sink.ghost_name ≡ old.sink.ghost_name → old.left ≢ 0 → Puts given failures old.sink.now (b ∷ []) new.sink.now → new.left ≡ lines_left old.left (b ∷ []) → new.is_cut
      ≡ old.is_cut → new.failed ≡ old.failed → Passes given failures old (b ∷ []) new
  handed old new b stays some p left cut same = record {
    same_sink = stays;
    puts = subst (λ (bs : List ℕ). Puts given failures old.sink.now bs new.sink.now) (sym (one_first old.left b some)) p;
    left = λ e. left;
    cut = λ e. cut ∙ sym (ap (λ (t : Bool). old.is_cut || t) (one_longer old.left b some) ∙ or_false old.is_cut);
    fault = λ e. inl (sym same ∙ e);
  }

  pub handed_end : (old new : Limited K) (b : ℕ) → new.sink.ghost_name ≡ old.sink.ghost_name → old.left ≢ 0 → Puts given failures old.sink.now (b ∷ []) new.sink.now → b ≡ 10 → new.left ≡ old.left - 1 → new.is_cut
      ≡ old.is_cut → new.failed ≡ old.failed → Passes given failures old (b ∷ []) new
  handed_end old new b stays some p e left cut same = handed old new b stays some p (left ∙ left_end old.left b some e) cut same

  pub handed_other : (old new : Limited K) (b : ℕ) → new.sink.ghost_name ≡ old.sink.ghost_name → old.left ≢ 0 → Puts given failures old.sink.now (b ∷ []) new.sink.now → b ≢ 10 → new.left ≡ old.left → new.is_cut
      ≡ old.is_cut → new.failed ≡ old.failed → Passes given failures old (b ∷ []) new
  handed_other old new b stays some p e left cut same = handed old new b stays some p (left ∙ left_other old.left b some e) cut same

  front_first : (n b : ℕ) (front back : List ℕ) → n ≢ 0 → b ∷ [] ≡ front ++ back → first_lines n front ≡ front
  front_first n b [] back some e = none_first n
  front_first n b (x ∷ []) back some e = one_first n x some
  front_first n b (x ∷ y ∷ front) back some e = absurd (omega (arith, ap length e))

  -- one on which the sink below fails
  pub broke : (old new : Limited K) (b : ℕ) → new.sink.ghost_name ≡ old.sink.ghost_name → old.left ≢ 0 → old.failed ≡ false → PutsPrefix given failures old.sink.now (b ∷ []) new.sink.now → new.failed ≡ true →
      PutsPrefix (Passes given failures) faults old (b ∷ []) new
  broke old new b stays some works p fails =
      let step : Passes given failures old p.front new = record {
        same_sink = stays;
        puts = subst (λ (bs : List ℕ). Puts given failures old.sink.now bs new.sink.now) (sym (front_first old.left b p.front p.back some p.joined)) p.puts;
        left = λ e. let no : ⊥ = cc in absurd no;
        cut = λ e. let no : ⊥ = cc in absurd no;
        fault = λ e. inr p.failed;
      } in
      let one : faults new ≡ 1 = ap (λ t. if t then 1 else 0) fails in
      record { front = p.front; back = p.back; joined = p.joined; puts = passed old new p.front works step; failed = omega (arith, one) }

  -- ---- a text, of which the first lines are put into a sink

  -- a sink that passes on this many lines
  abbrev pub passing : MutBor K → ℕ → Limited K
  passing sink n = record { sink = sink; left = n; is_cut = false; failed = false }

  module _ (sink : MutBor K) (n : ℕ) (mid : Limited K) {last : K} (follows : sink.ghost_name ≡ mid.sink.ghost_name → last ≡ mid.sink.now) where
    has_passed : (bytes : List ℕ) → Puts (Passes given failures) faults (passing sink n) bytes mid → Passes given failures (passing sink n) bytes mid
    has_passed bytes p = p.after (passing sink n) [] (Passes-none given failures (passing sink n))

    -- their first lines are put
    firsts_put : (bytes : List ℕ) → Passes given failures (passing sink n) bytes mid → Puts given failures sink.now (first_lines n bytes) last
    firsts_put bytes p = rw (follows (sym p.same_sink)) p.puts

    has_failed : (bytes : List ℕ) → Passes given failures (passing sink n) bytes mid → mid.failed ≡ true → 0 < failures last
    has_failed bytes p fails = rw (follows (sym p.same_sink)) (elim (p.fault fails) [
      | inl was ↦ (let no : ⊥ = cc in absurd no)
      | inr some ↦ some
    ])

    module _ (s : Syntax) (limit : Option ℕ) (text : List ℕ) (is : n ≡ unwrap_or limit (2 ^ 64 - 1)) (short : length text < 2 ^ 63) where
      -- all of it was put, and the last line is left
      pub lines_so_far : Puts (Passes given failures) faults (passing sink n) text mid → mid.failed ≡ false
          → PutSoFar given failures (limited s limit text) (more_line s mid.is_cut) sink.now last
      lines_so_far p fine =
          let step = has_passed text p in
          record {
            front = first_lines n text;
            joined = limited_by s limit n text is short ∙ ap (λ (b : Bool). first_lines n text ++ more_line s b) (sym (step.cut fine));
            puts = firsts_put text step;
          }

      -- it was put, but the sink below had failed
      pub lines_lost : Puts (Passes given failures) faults (passing sink n) text mid → mid.failed ≡ true → PutsPrefix given failures sink.now (limited s limit text) last
      lines_lost p fails =
          let step = has_passed text p in
          record {
            front = first_lines n text;
            back = more_line s (is_longer n text);
            joined = limited_by s limit n text is short;
            puts = firsts_put text step;
            failed = has_failed text step fails;
          }

      -- a prefix of it was put
      pub lines_fail : PutsPrefix (Passes given failures) faults (passing sink n) text mid → PutsPrefix given failures sink.now (limited s limit text) last
      lines_fail p =
          let more = more_line s (is_longer n text) in
          let step = has_passed p.front p.puts in
          let fails : mid.failed ≡ true = by_test mid.failed refl p.failed in
          record {
            front = first_lines n p.front;
            back = first_lines (lines_left n p.front) p.back ++ more;
            joined = limited_by s limit n text is short
                ∙ ap (λ (t : List ℕ). t ++ more) (ap (first_lines n) p.joined ∙ first-append n p.front p.back)
                ∙ append_assoc (first_lines n p.front) (first_lines (lines_left n p.front) p.back) more;
            puts = firsts_put p.front step;
            failed = has_failed p.front step fails;
          }
        where
          by_test : (b : Bool) → mid.failed ≡ b → 0 < (if b then 1 else 0) → mid.failed ≡ true
          by_test true e h = e
          by_test false e h = absurd (omega (arith, h))
