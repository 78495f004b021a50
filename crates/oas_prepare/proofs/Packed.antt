-- The bytes of a block, and the records of its data.
use Rattle.std.proofs.Common.{◌≡◌, ℕ, ◌<◌, ◌≤◌, Bool, List, [], ◌∷◌, ◌++◌, length, drop, inl, inr, refl, sym, ap, subst, ◌∙◌, append_assoc, arith}
use Rattle.std.proofs.lemmas.List.{append-nil, length-append}
use Rattle.oas_num.specs.Grammar.{IsEach}
use Rattle.oas_num.specs.Laws.GrammarLaws.{after_same}
use Rattle.oas_narrow.specs.Blocks.{Represents}
use Rattle.oas_narrow.proofs.OneLemmas.{one_block}
use Rattle.oas_narrow.proofs.StandsLemmas.{RepresentsNothing, unfinished_stands, other_stands}
use Rattle.oas_elements.specs.declared.limits.Limits.{Limits}
use Rattle.oas_narrow.specs.BlockHead.{BlockHead}
use Rattle.oas_narrow.specs.WideRecord.{WideRecord}
use Rattle.oas_narrow.specs.declared.dropping.Dropping.{Dropping}
use Rattle.oas_narrow.specs.Preparable.{AllPrepared}
use Rattle.oas_narrow.specs.WideFiles.{inner_in, head_in, block_in}
use Rattle.oas_prepare.specs.Inside.{NoData}
use Rattle.oas_prepare.specs.Places.{StopsInData, IsVain}
use Rattle.oas_num.proofs.PrefixLemmas.{pair_then, Compared, Same, More, Less, compare}
use Rattle.oas_prepare.proofs.Fronts.{allowed_prefix}
use Rattle.oas_prepare.proofs.Items.{front_none, none_long, same_long, inner_some, PrefixFree-block_head}
use Rattle.oas_prepare.proofs.WideLaws.{PrefixFree-inner}

-- ---- bytes

-- the longer of two prefixes of the same bytes goes on after the shorter
front_of : (a b x y : List ℕ) → a ++ x ≡ b ++ y → length b ≤ length a → a ≡ b ++ drop (length b) a
front_of a [] x y e n = refl
front_of [] (d ∷ b) x y e n = absurd (omega (arith, n))
front_of (c ∷ a) (d ∷ b) x y e n =
    let head : c ≡ d = cc in
    let tail : a ++ x ≡ b ++ y = cc in
    let rest = front_of a b x y tail (omega (arith, n)) in
    λ i. head i ∷ rest i

-- ---- the bytes of a block

-- after a block's head come bytes for that data, and the rest
pub record Behind (block : BlockHead) (plain bytes rest : List ℕ) : Type 0 where
  pub packed : List ℕ
  pub is : Represents block packed plain
  pub joined : packed ++ rest ≡ bytes

pub behind : (in_end : Bool) (block : BlockHead) (begin bytes : List ℕ) (other : BlockHead × List ℕ) (front rest : List ℕ) → head_in in_end block begin → block_in in_end other front → begin ++ bytes ≡ front ++ rest →
    Behind block other.1 bytes rest
behind in_end block begin bytes other front rest head b e =
    let j : begin ++ bytes ≡ b.front ++ (b.back ++ rest) = e ∙ pair_then b rest in
    let one = (PrefixFree-block_head in_end).one block other.0 begin b.front bytes (b.back ++ rest) head b.first j in
    record {
      packed = b.back;
      is = subst (λ (h : BlockHead). Represents h b.back other.1) (sym one.1) b.second;
      joined = sym (after_same begin b.front bytes (b.back ++ rest) one.0 j);
    }

-- they are too few
pub few_bytes : {block : BlockHead} {plain bytes rest : List ℕ} → Behind block plain bytes rest → length bytes < block.deflated → ⊥
few_bytes {bytes = bytes} {rest = rest} b few = let n = ap length b.joined in omega (arith, n, b.is.deflated, length-append b.packed rest, few)

-- no block begins with them
pub no_data : {block : BlockHead} {plain rest : List ℕ} {bytes : List ℕ} (more : List ℕ) → NoData block bytes → Behind block plain (bytes ++ more) rest → ⊥
no_data {block = block} {plain = plain} {rest = rest} {bytes = bytes} more n b =
    let e = front_of b.packed bytes rest more b.joined (omega (arith, n.within, b.is.deflated)) in
    n.none (drop (length bytes) b.packed) plain (subst (λ (c : List ℕ). Represents block c plain) e b.is)

-- nor with those of a stream that doesn't end as it should
pub vain_no_data : {block : BlockHead} {plain bytes : List ℕ} → IsVain block plain bytes → NoData block bytes
vain_no_data {block = block} {plain = plain} {bytes = bytes} vain = record {
  within = omega (arith, vain.0);
  none = λ more other s.
      let none : more ≡ [] = none_long more (omega (arith, vain.0, s.deflated, length-append bytes more)) in
      stands.none other (subst (λ (c : List ℕ). Represents block c other) (ap (λ (c : List ℕ). bytes ++ c) none ∙ append-nil bytes) s);
} where
  stands : RepresentsNothing block bytes
  stands = elim vain.1 [ inl u ↦ unfinished_stands block plain bytes u | inr o ↦ other_stands block plain bytes o ]

-- they encode one data
pub one_plain : {block : BlockHead} {plain other rest bytes : List ℕ} (more : List ℕ) → Represents block bytes plain → Behind block other (bytes ++ more) rest → plain ≡ other
one_plain {block = block} {plain = plain} {other = other} {rest = rest} {bytes = bytes} more p b =
    let same : b.packed ≡ bytes = same_long b.packed bytes rest more (b.is.deflated ∙ sym p.deflated) b.joined in
    one_block block bytes plain other p (subst (λ (c : List ℕ). Represents block c other) same b.is)

-- ---- the records of a block

-- where it stops in the data, they aren't records that are prepared
pub not_inner : {limits : Limits} {dropping : Dropping} {in_end : Bool} {before : List WideRecord} {plain : List ℕ} {within : ℕ} → StopsInData limits dropping in_end before plain within →
    (inner : List WideRecord) → IsEach (inner_in in_end) inner plain → AllPrepared limits dropping (before ++ inner) → ⊥
not_inner {limits = limits} {dropping = dropping} {in_end = in_end} {before = before} {plain = plain} s inner each prepared =
    by (compare (inner_in in_end) (PrefixFree-inner in_end) s.inner inner s.before plain s.left [] s.each each (sym s.joined ∙ sym (append-nil plain))) where
      by : Compared (inner_in in_end) s.inner inner s.left [] → ⊥
      by (Same same lefts) = s.goes_on lefts
      by (More w tail front rest is one stands) = s.no_record.none w front rest (record { spelled = one; prepared = next }) stands where
        all : before ++ inner ≡ ((before ++ s.inner) ++ w ∷ []) ++ tail
        all =
            ap (λ (ws : List WideRecord). before ++ ws) is ∙ sym (append_assoc before (s.inner ++ w ∷ []) tail)
            ∙ ap (λ (ws : List WideRecord). ws ++ tail) (sym (append_assoc before s.inner (w ∷ [])))

        next : AllPrepared limits dropping ((before ++ s.inner) ++ w ∷ [])
        next = allowed_prefix limits dropping ((before ++ s.inner) ++ w ∷ []) tail (subst (AllPrepared limits dropping) all prepared)
      by (Less w tail front rest is one stands) = inner_some in_end w front one (front_none front rest (sym stands))
