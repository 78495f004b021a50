-- Putting phrases one after another, with a comma before each except the first.
use Rattle.std.proofs.Common.{◌≡◌, ℕ, ◌+◌, ◌<◌, ◌≤◌, Bool, true, false, List, [], ◌∷◌, ◌++◌, length, drop, get_or, drop-cons, refl, sym, ap, subst, ◌∙◌, add-one, append-nil, append_assoc, arith}
use Rattle.std.specs.Prelude.{codes, ◌==◌, ◌&&◌}
use Rattle.std.proofs.lemmas.Bool.{lt-ltb, le-ltb, ltb-false}
use Rattle.oas_num.specs.Writing.{Puts, PutsPrefix}
use Rattle.oas_num.proofs.PuttingLemmas.{PutSoFar, fails_at, ◌▸◌}
use Rattle.oas_prepare.specs.Extra.{Extra}
use Rattle.oas_prepare.specs.Extra.TheVariants.{PropertyName, Property, LayerName, ExtensionName, ExtensionElement}
use Rattle.oas_prepare.specs.Report.{Report}
use Rattle.oas_prepare.specs.Dropping.{nothing_left_out}
use Rattle.oas_preparing.specs.Kinds.{kinds, left_out, name_for}
use Rattle.oas_preparing.specs.Lines.{phrase, phrase_of, phrases, is_left_out, listed, line_of, report_line}

-- texts, with these bytes before the first and a comma before each of the others
abbrev pub behind : List ℕ → List (List ℕ) → List ℕ
behind lead [] = []
behind lead (one ∷ more) = lead ++ (one ++ behind (codes ", ") more)

pub listed-behind : (texts : List (List ℕ)) → listed texts ≡ behind [] texts
listed-behind [] = refl
listed-behind (one ∷ []) = sym (append-nil one)
listed-behind (one ∷ (next ∷ more)) = ap (λ (bs : List ℕ). one ++ (codes ", " ++ bs)) (listed-behind (next ∷ more))

-- a line of some texts
line_of_some : (name : List ℕ) (texts : List (List ℕ)) → (texts ≡ [] → ⊥) → line_of name texts ≡ name ++ (codes ": left out " ++ (listed texts ++ 10 ∷ []))
line_of_some name [] some = absurd (some refl)
line_of_some name (one ∷ more) some = refl

-- two reports compared number by number
abbrev pub same_numbers : Report → Report → Bool
same_numbers a b =
    (a.property_names == b.property_names) && ((a.properties == b.properties) && ((a.layer_names == b.layer_names) && ((a.extension_names == b.extension_names) && (a.extensions == b.extensions))))

-- where one differs, it is that of nothing
pub differs : (a b : Report) → false ≡ same_numbers a b → b ≡ nothing_left_out → a ≡ nothing_left_out → ⊥
differs a b unlike is same =
    let e : false ≡ true = unlike ∙ ap (λ (r : Report). same_numbers r b) same ∙ ap (λ (r : Report). same_numbers nothing_left_out r) is in
    cc

-- a report of these numbers
abbrev numbers : ℕ → ℕ → ℕ → ℕ → ℕ → Report
numbers a b c d e = record { property_names = a; properties = b; layer_names = c; extension_names = d; extensions = e }

module _ (report : Report) where
  -- a kind of which some were left out
  phrases-some : (kind : Extra) (more : List Extra) → is_left_out report kind ≡ true → phrases report (kind ∷ more) ≡ phrase_of report kind ∷ phrases report more
  phrases-some kind more is = rw is refl

  -- a kind of which nothing was left out
  phrases-none : (kind : Extra) (more : List Extra) → is_left_out report kind ≡ false → phrases report (kind ∷ more) ≡ phrases report more
  phrases-none kind more is = rw is refl

  -- where there is no phrase, nothing was left out of the first kind, and there is none of the others
  none_of_first : (kind : Extra) (more : List Extra) (b : Bool) → is_left_out report kind ≡ b → phrases report (kind ∷ more) ≡ [] → (left_out report kind ≡ 0) × (phrases report more ≡ [])
  none_of_first kind more true is none =
      let e : phrase_of report kind ∷ phrases report more ≡ [] = sym (phrases-some kind more is) ∙ none in
      absurd (omega (arith, ap length e))
  none_of_first kind more false is none =
      let le : left_out report kind ≤ 0 = ltb-false 0 (left_out report kind) is in
      (omega arith, sym (phrases-none kind more is) ∙ none)

  nothing_if_no_phrase : phrases report kinds ≡ [] → report ≡ nothing_left_out
  nothing_if_no_phrase none =
      let a = none_of_first Property (PropertyName ∷ LayerName ∷ ExtensionElement ∷ ExtensionName ∷ []) _ refl none in
      let b = none_of_first PropertyName (LayerName ∷ ExtensionElement ∷ ExtensionName ∷ []) _ refl a.1 in
      let c = none_of_first LayerName (ExtensionElement ∷ ExtensionName ∷ []) _ refl b.1 in
      let d = none_of_first ExtensionElement (ExtensionName ∷ []) _ refl c.1 in
      let e = none_of_first ExtensionName [] _ refl d.1 in
      ap (λ (n : ℕ). numbers n report.properties report.layer_names report.extension_names report.extensions) b.0
      ∙ ap (λ (n : ℕ). numbers 0 n report.layer_names report.extension_names report.extensions) a.0
      ∙ ap (λ (n : ℕ). numbers 0 0 n report.extension_names report.extensions) c.0
      ∙ ap (λ (n : ℕ). numbers 0 0 0 n report.extensions) e.0
      ∙ ap (λ (n : ℕ). numbers 0 0 0 0 n) d.0

  -- the line where something was left out
  pub report_line_of_some : (name bytes : List ℕ) → bytes ≡ name → (report ≡ nothing_left_out → ⊥) →
      report_line name report ≡ (bytes ++ codes ": left out ") ++ (listed (phrases report kinds) ++ 10 ∷ [])
  report_line_of_some name bytes same some =
      line_of_some name (phrases report kinds) (λ none. some (nothing_if_no_phrase none))
      ∙ ap (λ (front : List ℕ). front ++ (codes ": left out " ++ (listed (phrases report kinds) ++ 10 ∷ []))) (sym same)
      ∙ sym (append_assoc bytes (codes ": left out ") (listed (phrases report kinds) ++ 10 ∷ []))

  module _ {K : Type 0} {given : K → List ℕ → K → Type 0} {failures : K → ℕ} (xs : List Extra) (i : ℕ) {whole : List ℕ} {old mid : K} (lead : List ℕ) (d : Extra) (lt : i < length xs)
      (p : PutSoFar given failures whole (behind lead (phrases report (drop i xs))) old mid) where
    next_is : drop i xs ≡ get_or xs i d ∷ drop (i + 1) xs
    next_is = drop-cons xs i d lt ∙ ap (λ (k : ℕ). get_or xs i d ∷ drop k xs) (sym (add-one i))

    -- nothing of the next kind was left out
    pub kind_passed : (n : ℕ) → n ≡ left_out report (get_or xs i d) → n ≤ 0 → PutSoFar given failures whole (behind lead (phrases report (drop (i + 1) xs))) old mid
    kind_passed n is none =
        let no : is_left_out report (get_or xs i d) ≡ false = le-ltb 0 (left_out report (get_or xs i d)) (omega arith) in
        let same : phrases report (drop i xs) ≡ phrases report (drop (i + 1) xs) = ap (phrases report) next_is ∙ phrases-none (get_or xs i d) (drop (i + 1) xs) no in
        subst (λ (texts : List (List ℕ)). PutSoFar given failures whole (behind lead texts) old mid) same p

    module _ (n : ℕ) (name : List ℕ) (is : n ≡ left_out report (get_or xs i d)) (named : name ≡ name_for n (get_or xs i d)) (some : 0 < n) where
      next_left : PutSoFar given failures whole ((lead ++ phrase n name) ++ behind (codes ", ") (phrases report (drop (i + 1) xs))) old mid
      next_left =
          let yes : is_left_out report (get_or xs i d) ≡ true = lt-ltb 0 (left_out report (get_or xs i d)) (omega arith) in
          let same : phrases report (drop i xs) ≡ phrase_of report (get_or xs i d) ∷ phrases report (drop (i + 1) xs) =
          ap (phrases report) next_is ∙ phrases-some (get_or xs i d) (drop (i + 1) xs) yes in
          let words : phrase_of report (get_or xs i d) ≡ phrase n name = rw (named, is) refl in
          let whole_left : behind lead (phrases report (drop i xs)) ≡ (lead ++ phrase n name) ++ behind (codes ", ") (phrases report (drop (i + 1) xs)) =
          ap (behind lead) same ∙ ap (λ (t : List ℕ). lead ++ (t ++ behind (codes ", ") (phrases report (drop (i + 1) xs)))) words
          ∙ sym (append_assoc lead (phrase n name) (behind (codes ", ") (phrases report (drop (i + 1) xs)))) in
          subst (λ (b : List ℕ). PutSoFar given failures whole b old mid) whole_left p

      pub kind_put : {new : K} → Puts given failures mid (lead ++ phrase n name) new → PutSoFar given failures whole (behind (codes ", ") (phrases report (drop (i + 1) xs))) old new
      kind_put q = next_left ▸ q

      pub kind_fails : {new : K} → PutsPrefix given failures mid (lead ++ phrase n name) new → PutsPrefix given failures old whole new
      kind_fails q = fails_at _ next_left q
