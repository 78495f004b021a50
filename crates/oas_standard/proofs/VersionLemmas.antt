-- Reading the version.
use Rattle.std.proofs.Common.{◌≡◌, ◌≢◌, ℕ, ◌<◌, List, [], ◌∷◌, length, inl, inr, refl, sym, ap, ◌∙◌, arith}
use Rattle.std.specs.Prelude.{◌⊎◌}
use Rattle.oas_num.specs.declared.refusals.Why.{Why}
use Rattle.oas_num.specs.declared.refusals.Why.TheVariants.{Version}
use Rattle.oas_num.specs.Laws.TextLaws.{PrefixFree-class}
use Rattle.oas_num.specs.Reading.{ReadsValue, FailsPiece}
use Rattle.oas_num.specs.Script.{Script}
use Rattle.oas_num.specs.Texts.{IsLabelByte}
use Rattle.oas_num.proofs.GrammarLemmas.{such_read, Listed, listed_all}
use Rattle.oas_num.proofs.HalfwayLemmas.{◌▸◌, at_image, fails_at, fails_last, is_read, such_took, such_refused, image_took}
use Rattle.oas_num.proofs.PieceLemmas.{fails_behind, item_fails}
use Rattle.oas_num.proofs.ReadLemmas.{Consumed-none}
use Rattle.oas_record.specs.Heads.{IsVersion, version}
use Rattle.oas_standard.specs.Long.{IsLong, LongMay, PrefixFree-long}
use Rattle.oas_standard.specs.Versions.{label_byte, label_text, passed_label, long_label, version_text, SpellsVersion, LongVersionTook}

abbrev VersionFails : Script → Why → Script → Type 0
VersionFails old why new = FailsPiece SpellsVersion LongVersionTook old why new

-- the a-string fails
label_fails : {old new : Script} {why : Why} → FailsPiece long_label.any long_label.took old why new → VersionFails old why new
label_fails f = image_took (such_took f)

-- its length fails
pub length_fails : {old new : Script} {why : Why} → FailsPiece IsLong LongMay old why new → VersionFails old why new
length_fails f = label_fails (fails_at (at_image {took = long_label.took} _) f)

module _ {old mid : Script} {n : ℕ} (read : ReadsValue IsLong old n mid) where
  -- its bytes fail
  text_fails : {new : Script} {why : Why} → FailsPiece (label_text n).any (label_text n).took mid why new → VersionFails old why new
  text_fails f = label_fails (fails_last (at_image {took = long_label.took} _ ▸ (PrefixFree-long, read)) f)

  -- the bytes of a text of another length fail
  pub pass_fails : {new : Script} {why : Why} → FailsPiece (passed_label n).any (passed_label n).took mid why new → VersionFails old why new
  pass_fails f =
      text_fails (fails_behind (label_text n).any (passed_label n).any [] (λ _ h. h) (Consumed-none mid)
      (record { wants = λ v p r rest s e. (tt, p, r, record { from = v; is = refl; spelled = s }, e) }) f)

  -- a byte of a text of three bytes fails
  pub byte_fails : {now new : Script} {why : Why} (text : List ℕ) → n ≡ 3 → Listed label_byte.any mid now text → length text < 3
      → FailsPiece label_byte.any label_byte.took now why new → VersionFails old why new
  byte_fails text three listed lt f = text_fails (item_fails (PrefixFree-class IsLabelByte) (λ _ h. h) (omega (arith, lt, three)) listed f)

  -- the text as an a-string
  label_read : {new : Script} (text : List ℕ) → ReadsValue (label_text n).any mid text new → ReadsValue long_label.any old text new
  label_read text bytes = is_read (at_image {took = long_label.took} _ ▸ (PrefixFree-long, read)) bytes

  -- another text was read
  wrong : {new : Script} (text : List ℕ) → text ≢ version → ReadsValue (label_text n).any mid text new → VersionFails old Version new
  wrong text isnt bytes = image_took (such_refused long_label.found.one refl isnt (refl, isnt) (label_read text bytes))

  pub passed : {new : Script} {v : Unit {0}} → n ≢ 3 → ReadsValue (passed_label n).any mid v new → VersionFails old Version new
  passed isnt p =
      let text = p.spelled.from in
      wrong text (λ e. isnt (sym p.spelled.spelled.len ∙ ap length e)) (record { bytes = p.bytes; spelled = p.spelled.spelled; takes = p.takes })

  -- three bytes were read
  pub other : {new : Script} {a b c : ℕ} → n ≡ 3
      → ((a ≡ 0x31) → ⊥) ⊎ (((a ≡ 0x31) × ((b ≡ 0x2E) → ⊥)) ⊎ ((a ≡ 0x31) × (b ≡ 0x2E) × ((c ≡ 0x30) → ⊥)))
      → Listed label_byte.any mid new (a ∷ b ∷ c ∷ []) → VersionFails old Version new
  other {new = new} {a = a} {b = b} {c = c} is isnt listed =
      wrong (a ∷ b ∷ c ∷ []) (λ e. let f : a ≡ 0x31 = cc in let g : b ≡ 0x2E = cc in let h : c ≡ 0x30 = cc in
      elim isnt [ inl m ↦ m f | inr m ↦ elim m [ inl k ↦ k.1 g | inr k ↦ k.2 h ] ])
      (listed_all label_byte.any n mid new (a ∷ b ∷ c ∷ []) (sym is) listed)

  pub done : {new : Script} {a b c : ℕ} → n ≡ 3 → (a ≡ 0x31) × ((b ≡ 0x2E) × (c ≡ 0x30)) → Listed label_byte.any mid new (a ∷ b ∷ c ∷ [])
      → ReadsValue SpellsVersion old tt new
  done {new = new} {a = a} {b = b} {c = c} is same listed =
      let f = same.0 in let g = same.1.0 in let h = same.1.1 in
      let text : a ∷ b ∷ c ∷ [] ≡ version = cc in
      is_read (at_image {took = version_text.took} _)
      (such_read IsVersion long_label.any old new (a ∷ b ∷ c ∷ []) text (label_read (a ∷ b ∷ c ∷ []) (listed_all label_byte.any n mid new (a ∷ b ∷ c ∷ []) (sym is) listed)))
