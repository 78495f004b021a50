-- Laws of the records of the standard: none is a prefix of another, and no read of one fails with a fault of writing.
use Rattle.std.proofs.Common.{◌≡◌, ◌≢◌, ℕ, Bool, true, false, List, inl, inr, refl, sym, ap, subst, ◌∙◌}
use Rattle.std.specs.Prelude.{◌==◌, if◌then◌else◌}
use Rattle.oas_num.specs.declared.refusals.Why.{Why}
use Rattle.oas_num.specs.declared.refusals.Why.TheVariants as why_of
use Rattle.oas_num.specs.Grammar.{PrefixFree, IsPair}
use Rattle.oas_num.specs.Laws.GrammarLaws.{PrefixFree-pair, PrefixFree-such, PrefixFree-image}
use Rattle.oas_num.specs.Laws.CombinatorLaws.{PrefixFree-exactly}
use Rattle.oas_record.specs.Heads.{magic, IsMagic}
use Rattle.oas_narrow.specs.WideEnd.{WideEnd}
use Rattle.oas_narrow.specs.WideWhy.{WideWhy}
use Rattle.oas_narrow.specs.WideRecord.{WideRecord}
use Rattle.oas_narrow.specs.WideRecord.TheVariants.{End}
use Rattle.oas_narrow.specs.Heads.{SpellsWideStart, wide_start}
use Rattle.oas_narrow.specs.Long.{IsLong, PrefixFree-long}
use Rattle.oas_narrow.specs.Reasons.{named, plain_of}
use Rattle.oas_narrow.specs.WideRecords.{fields, fields_in, wide_record_in, WideIdTook, WideRecordTook}
use Rattle.oas_narrow.specs.WideFiles.{wide_head, after_magic, IsInner, inner_in, end_in}

pub PrefixFree-wide : (in_end : Bool) → PrefixFree (wide_record_in in_end)
PrefixFree-wide in_end = record {
  one = λ v w a b x y p q e.
      let both = (PrefixFree-pair IsLong (fields_in in_end) PrefixFree-long (λ id. (fields in_end id).found.one)).one (p.id, v) (q.id, w) a b x y p.parts q.parts e in
      (both.0, ap (λ (s : ℕ × WideRecord). s.1) both.1);
}

pub PrefixFree-inner : (in_end : Bool) → PrefixFree (inner_in in_end)
PrefixFree-inner in_end = PrefixFree-such IsInner (wide_record_in in_end) (PrefixFree-wide in_end)

same_end : (e f : WideEnd) → End e ≡ End f → e ≡ f
same_end e f p = cc

pub PrefixFree-end : (in_end : Bool) → PrefixFree (end_in in_end)
PrefixFree-end in_end = record { one = λ e f a b x y p q j. let both = (PrefixFree-wide in_end).one (End e) (End f) a b x y p q j in (both.0, same_end e f both.1) }

pub PrefixFree-head : PrefixFree wide_head
PrefixFree-head = PrefixFree-image after_magic (IsPair IsMagic (λ _. SpellsWideStart)) (PrefixFree-pair IsMagic (λ _. SpellsWideStart) (PrefixFree-exactly magic) (λ _. wide_start.found.one))

-- ---- no fault of writing

by_test : (b : Bool) (x y : WideWhy) (w : Why) → plain_of x ≡ w → plain_of y ≡ w → plain_of (if b then x else y) ≡ w
by_test true x y w p q = p
by_test false x y w p q = q

plain_named : (id : ℕ) (w : Why) → plain_of (named id w) ≡ w
plain_named id why_of.InfoByte =
    by_test (id == 26) _ _ why_of.InfoByte refl (by_test (id == 11) _ _ why_of.InfoByte refl (by_test (id == 12) _ _ why_of.InfoByte refl refl))
plain_named id why_of.RealType = by_test (id == 28) _ _ why_of.RealType refl refl
plain_named id _ = refl

id_never : (bytes : List ℕ) → WideIdTook why_of.Write bytes → ⊥
id_never bytes (inl h) = h
id_never bytes (inr h) = h.2

pub wide_never : (in_end : Bool) (w : WideWhy) (bytes : List ℕ) → WideRecordTook in_end w bytes → plain_of w ≢ why_of.Write
wide_never in_end w bytes (inl h) is = id_never bytes (subst (λ (v : Why). WideIdTook v bytes) (sym (ap plain_of h.1) ∙ is) h.2)
wide_never in_end w bytes (inr (inl b)) is =
    let e : b.holds.0 ≡ why_of.Write = sym (plain_named b.value b.holds.0) ∙ sym (ap plain_of b.holds.2) ∙ is in
    (fields in_end b.value).never.none b.last (subst (λ (v : Why). (fields in_end b.value).took v b.last) e b.holds.1)
wide_never in_end w bytes (inr (inr h)) is = let e : why_of.EndLength ≡ why_of.Write = sym (ap plain_of h.0) ∙ is in cc
