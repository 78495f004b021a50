-- What one more record adds to the records of the profile and to what is left out.
use Rattle.std.proofs.Common.{◌≡◌, ℕ, ◌+◌, List, [], ◌∷◌, ◌++◌, Option, None, Some, reverse, refl, sym, ap, ◌∙◌, arith}
use Rattle.std.proofs.lemmas.List.{reverse-append}
use Rattle.oas_narrow.specs.Steps.{kept_after}
use Rattle.oas_narrow.specs.WideRecord.{WideRecord}
use Rattle.oas_narrow.specs.declared.dropping.Extra.{Extra}
use Rattle.oas_narrow.specs.declared.dropping.Extra.TheVariants as extra
use Rattle.oas_narrow.specs.declared.dropping.Report.{Report}
use Rattle.oas_narrow.specs.Dropping.{capped, counted}
use Rattle.oas_narrow.specs.Narrowing.{is_open, kept_of, translated_after, listed, stood_for, narrowed, one_if, tally, report_of}
use Rattle.oas_narrow.specs.Placements.{with_turns}
use Rattle.oas_narrow.specs.Roles.{role_of, opens, extra_of, counted_if}

-- ---- the records of the profile

pub narrowed-more : (ws : List WideRecord) (w : WideRecord) → narrowed (ws ++ w ∷ []) ≡ narrowed ws ++ listed (translated_after (reverse ws) w)
narrowed-more ws w = ap stood_for (reverse-append ws (w ∷ []))

pub kept-more : (ws : List WideRecord) (w : WideRecord) → kept_of (reverse (ws ++ w ∷ [])) ≡ kept_after (kept_of (reverse ws)) (with_turns w)
kept-more ws w = ap kept_of (reverse-append ws (w ∷ []))

-- ---- whether a cell is open

pub open-more : (ws : List WideRecord) (w : WideRecord) → is_open (reverse (ws ++ w ∷ [])) ≡ opens (is_open (reverse ws)) (role_of w)
open-more ws w = ap is_open (reverse-append ws (w ∷ []))

-- ---- what is left out

pub tally-more : (e : Extra) (ws : List WideRecord) (w : WideRecord) → tally e (ws ++ w ∷ []) ≡ tally e ws + one_if e (extra_of (role_of w))
tally-more e [] w = refl
tally-more e (v ∷ ws) w = omega (arith, tally-more e ws w)

capped_more : (n : ℕ) → capped (capped n + 1) ≡ capped (n + 1)
capped_more n = omega arith

capped_same : (n m : ℕ) → m ≡ n + 0 → capped m ≡ capped n
capped_same n m e = omega (arith, e)

tally_by : (e : Extra) (ws : List WideRecord) (w : WideRecord) (r : Option Extra) → extra_of (role_of w) ≡ r → tally e (ws ++ w ∷ []) ≡ tally e ws + one_if e r
tally_by e ws w r is = tally-more e ws w ∙ ap (λ (q : Option Extra). tally e ws + one_if e q) is

capped_by : (e : Extra) (ws : List WideRecord) (w : WideRecord) (r : Option Extra) → extra_of (role_of w) ≡ r → one_if e r ≡ 0 → capped (tally e (ws ++ w ∷ [])) ≡ capped (tally e ws)
capped_by e ws w r is none = capped_same (tally e ws) (tally e (ws ++ w ∷ [])) (tally_by e ws w r is ∙ ap (λ n. tally e ws + n) none)

capped_one : (e : Extra) (ws : List WideRecord) (w : WideRecord) (r : Option Extra) → extra_of (role_of w) ≡ r → one_if e r ≡ 1 → capped (tally e (ws ++ w ∷ [])) ≡ capped (capped (tally e ws) + 1)
capped_one e ws w r is one = ap capped (tally_by e ws w r is ∙ ap (λ n. tally e ws + n) one) ∙ sym (capped_more (tally e ws))

abbrev numbers : ℕ → ℕ → ℕ → ℕ → ℕ → Report
numbers a b c d e = record { property_names = a; properties = b; layer_names = c; extension_names = d; extensions = e }

same_report : {a b c d e v w x y z : ℕ} → a ≡ v → b ≡ w → c ≡ x → d ≡ y → e ≡ z → numbers a b c d e ≡ numbers v w x y z
same_report p q r s t = λ i. numbers (p i) (q i) (r i) (s i) (t i)

report-kept : (ws : List WideRecord) (w : WideRecord) → extra_of (role_of w) ≡ None → report_of (ws ++ w ∷ []) ≡ report_of ws
report-kept ws w is =
    same_report (capped_by extra.PropertyName ws w _ is refl) (capped_by extra.Property ws w _ is refl) (capped_by extra.LayerName ws w _ is refl)
    (capped_by extra.ExtensionName ws w _ is refl) (capped_by extra.ExtensionElement ws w _ is refl)

report-extra : (ws : List WideRecord) (w : WideRecord) (e : Extra) → extra_of (role_of w) ≡ Some e → report_of (ws ++ w ∷ []) ≡ counted (report_of ws) e
report-extra ws w extra.PropertyName is =
    same_report (capped_one extra.PropertyName ws w _ is refl) (capped_by extra.Property ws w _ is refl) (capped_by extra.LayerName ws w _ is refl)
    (capped_by extra.ExtensionName ws w _ is refl) (capped_by extra.ExtensionElement ws w _ is refl)
report-extra ws w extra.Property is =
    same_report (capped_by extra.PropertyName ws w _ is refl) (capped_one extra.Property ws w _ is refl) (capped_by extra.LayerName ws w _ is refl)
    (capped_by extra.ExtensionName ws w _ is refl) (capped_by extra.ExtensionElement ws w _ is refl)
report-extra ws w extra.LayerName is =
    same_report (capped_by extra.PropertyName ws w _ is refl) (capped_by extra.Property ws w _ is refl) (capped_one extra.LayerName ws w _ is refl)
    (capped_by extra.ExtensionName ws w _ is refl) (capped_by extra.ExtensionElement ws w _ is refl)
report-extra ws w extra.ExtensionName is =
    same_report (capped_by extra.PropertyName ws w _ is refl) (capped_by extra.Property ws w _ is refl) (capped_by extra.LayerName ws w _ is refl)
    (capped_one extra.ExtensionName ws w _ is refl) (capped_by extra.ExtensionElement ws w _ is refl)
report-extra ws w extra.ExtensionElement is =
    same_report (capped_by extra.PropertyName ws w _ is refl) (capped_by extra.Property ws w _ is refl) (capped_by extra.LayerName ws w _ is refl)
    (capped_by extra.ExtensionName ws w _ is refl) (capped_one extra.ExtensionElement ws w _ is refl)

report-by : (ws : List WideRecord) (w : WideRecord) (r : Option Extra) → extra_of (role_of w) ≡ r → report_of (ws ++ w ∷ []) ≡ counted_if (report_of ws) r
report-by ws w None is = report-kept ws w is
report-by ws w (Some e) is = report-extra ws w e is

pub report-more : (ws : List WideRecord) (w : WideRecord) → report_of (ws ++ w ∷ []) ≡ counted_if (report_of ws) (extra_of (role_of w))
report-more ws w = report-by ws w (extra_of (role_of w)) refl
