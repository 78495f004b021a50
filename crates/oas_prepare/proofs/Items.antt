-- Laws of what comes in a file before END: a record, or a block of records.
use Rattle.std.proofs.Common.{◌≡◌, ◌≢◌, ℕ, ◌<◌, Bool, List, [], ◌∷◌, ◌++◌, length, refl, sym, ap, subst, ◌∙◌, append_assoc, arith}
use Rattle.std.proofs.lemmas.List.{append-nil, length-append}
use Rattle.oas_num.specs.Combinators.{IsApart}
use Rattle.oas_num.specs.Grammar.{PrefixFree, IsEach}
use Rattle.oas_num.specs.Script.{Script, Consumed}
use Rattle.oas_num.proofs.IntegerLemmas.{closed_long}
use Rattle.oas_num.proofs.PrefixLemmas.{pair_then}
use Rattle.oas_num.specs.Laws.GrammarLaws.{after_same, PrefixFree-pair}
use Rattle.oas_narrow.specs.Blocks.{Represents}
use Rattle.oas_narrow.proofs.OneLemmas.{one_block}
use Rattle.oas_narrow.specs.BlockHead.{BlockHead}
use Rattle.oas_narrow.specs.WideEnd.{WideEnd}
use Rattle.oas_narrow.specs.WideRecord.{WideRecord}
use Rattle.oas_narrow.specs.WideRecord.TheVariants.{End, Block}
use Rattle.oas_narrow.specs.WideRecords.{wide_record_in}
use Rattle.oas_narrow.specs.WideFiles.{inner_in, end_in, head_in, packed_by, block_in, is_block_of, item_in, AsRecord, AsBlock, records_of}
use Rattle.oas_prepare.proofs.WideLaws.{PrefixFree-wide, PrefixFree-inner}

-- ---- bytes

pub front_none : (a b : List ℕ) → a ++ b ≡ [] → a ≡ []
front_none [] b e = refl
front_none (x ∷ a) b e = absurd cc

pub none_long : (l : List ℕ) → length l ≡ 0 → l ≡ []
none_long [] e = refl
none_long (x ∷ l) e = absurd (omega (arith, e))

-- as many bytes at the start of the same
pub same_long : (a b x y : List ℕ) → length a ≡ length b → a ++ x ≡ b ++ y → a ≡ b
same_long [] [] x y n e = refl
same_long [] (c ∷ b) x y n e = absurd (omega (arith, n))
same_long (c ∷ a) [] x y n e = absurd (omega (arith, n))
same_long (c ∷ a) (d ∷ b) x y n e =
    let head : c ≡ d = cc in
    let tail : a ++ x ≡ b ++ y = cc in
    let rest = same_long a b x y (omega (arith, n)) tail in
    λ i. head i ∷ rest i

-- ---- records

-- a record has at least one byte
wide_long : (in_end : Bool) (w : WideRecord) (bytes : List ℕ) → wide_record_in in_end w bytes → 0 < length bytes
wide_long in_end w bytes r = let p = r.parts in omega (arith, ap length p.joined, length-append p.front p.back, closed_long p.front p.first.closed)

-- so a read of one goes on
pub wide_onward : (in_end : Bool) (w : WideRecord) {old new : Script} (bytes : List ℕ) → wide_record_in in_end w bytes → Consumed old bytes new → old.given < new.given
wide_onward in_end w bytes r takes = omega (arith, takes.given, wide_long in_end w bytes r)

pub inner_some : (in_end : Bool) (w : WideRecord) (bytes : List ℕ) → inner_in in_end w bytes → bytes ≢ []
inner_some in_end w bytes r none = omega (arith, wide_long in_end w bytes r.spelled, ap length none)

each_same : {V : Type 0} (A : V → List ℕ → Type 0) → PrefixFree A → ((v : V) (a : List ℕ) → A v a → a ≢ []) → (vs ws : List V) (a b : List ℕ) → IsEach A vs a → IsEach A ws b → a ≡ b → vs ≡ ws
each_same A law some [] [] a b p q e = refl
each_same A law some [] (w ∷ ws) a b p q e = absurd (some w q.0 q.2 (front_none q.0 q.1 (sym q.4 ∙ sym e ∙ p)))
each_same A law some (v ∷ vs) [] a b p q e = absurd (some v p.0 p.2 (front_none p.0 p.1 (sym p.4 ∙ e ∙ q)))
each_same A law some (v ∷ vs) (w ∷ ws) a b p q e =
    let j : p.0 ++ p.1 ≡ q.0 ++ q.1 = sym p.4 ∙ e ∙ q.4 in
    let one = law.one v w p.0 q.0 p.1 q.1 p.2 q.2 j in
    let rest = each_same A law some vs ws p.1 q.1 p.3 q.3 (after_same p.0 q.0 p.1 q.1 one.0 j) in
    λ i. one.1 i ∷ rest i

-- ---- blocks

same_head : (h g : BlockHead) → Block h ≡ Block g → h ≡ g
same_head h g p = cc

pub PrefixFree-block_head : (in_end : Bool) → PrefixFree (head_in in_end)
PrefixFree-block_head in_end = record { one = λ h g a b x y p q j. let both = (PrefixFree-wide in_end).one (Block h) (Block g) a b x y p q j in (both.0, same_head h g both.1) }

PrefixFree-packed : (head : BlockHead) → PrefixFree (packed_by head)
PrefixFree-packed head = record {
  one = λ v w a b x y p q e.
      let same = same_long a b x y (p.deflated ∙ sym q.deflated) e in
      (same, one_block head b v w (subst (λ (c : List ℕ). Represents head c v) same p) q);
}

pub PrefixFree-block : (in_end : Bool) → PrefixFree (block_in in_end)
PrefixFree-block in_end = PrefixFree-pair (head_in in_end) packed_by (PrefixFree-block_head in_end) PrefixFree-packed

-- a record is no block
pub record_no_block : (in_end : Bool) (w : WideRecord) (head : BlockHead) (a b x y : List ℕ) → inner_in in_end w a → head_in in_end head b → a ++ x ≡ b ++ y → ⊥
record_no_block in_end w head a b x y p q e = p.holds.no_block head ((PrefixFree-wide in_end).one w (Block head) a b x y p.spelled q e).1

-- nor is it END
pub record_no_end : (in_end : Bool) (w : WideRecord) (end : WideEnd) (a b x y : List ℕ) → inner_in in_end w a → end_in in_end end b → a ++ x ≡ b ++ y → ⊥
record_no_end in_end w end a b x y p q e = p.holds.no_end end ((PrefixFree-wide in_end).one w (End end) a b x y p.spelled q e).1

head_not_end : (head : BlockHead) (end : WideEnd) → Block head ≡ End end → ⊥
head_not_end head end e = cc

-- nor is a block END
pub block_no_end : (in_end : Bool) (head : BlockHead) (end : WideEnd) (a b x y : List ℕ) → head_in in_end head a → end_in in_end end b → a ++ x ≡ b ++ y → ⊥
block_no_end in_end head end a b x y p q e = head_not_end head end ((PrefixFree-wide in_end).one (Block head) (End end) a b x y p q e).1

-- ---- items

mixed : (in_end : Bool) (w : WideRecord) (vs : List WideRecord) (a b x y : List ℕ) → inner_in in_end w a → is_block_of in_end vs b → a ++ x ≡ b ++ y → ⊥
mixed in_end w vs a b x y p q e =
    let s = q.spelled in record_no_block in_end w q.block.0 a s.front x (s.back ++ y) p s.first (e ∙ pair_then s y)

item_one : (in_end : Bool) (v w : List WideRecord) (a b x y : List ℕ) → item_in in_end v a → item_in in_end w b → a ++ x ≡ b ++ y → (a ≡ b) × (v ≡ w)
item_one in_end v w a b x y (AsRecord r is p) (AsRecord s also q) e =
    let one = (PrefixFree-inner in_end).one r s a b x y p q e in
    (one.0, sym is ∙ ap (λ (k : WideRecord). k ∷ []) one.1 ∙ also)
item_one in_end v w a b x y (AsRecord r is p) (AsBlock q) e = absurd (mixed in_end r w a b x y p q e)
item_one in_end v w a b x y (AsBlock p) (AsRecord s also q) e = absurd (mixed in_end s v b a y x q p (sym e))
item_one in_end v w a b x y (AsBlock p) (AsBlock q) e =
    let one = (PrefixFree-block in_end).one p.block q.block a b x y p.spelled q.spelled e in
    (one.0, each_same (inner_in in_end) (PrefixFree-inner in_end) (inner_some in_end) v w p.block.1 q.block.1 p.each q.each (ap (λ (k : BlockHead × List ℕ). k.1) one.1))

pub PrefixFree-item : (in_end : Bool) → PrefixFree (item_in in_end)
PrefixFree-item in_end = record { one = item_one in_end }

-- an item begins with a record, or with the head of a block
pub record ItemBegins (in_end : Bool) (rest : List ℕ) (bytes : List ℕ) : Type 0 where
  pub value : WideRecord
  pub front : List ℕ
  pub more : List ℕ
  pub spelled : wide_record_in in_end value front
  pub no_end : (end : WideEnd) → value ≢ End end
  pub joined : bytes ++ rest ≡ front ++ more

pub item_begins : (in_end : Bool) (ws : List WideRecord) (bytes rest : List ℕ) → item_in in_end ws bytes → ItemBegins in_end rest bytes
item_begins in_end ws bytes rest (AsRecord w is p) = record { value = w; front = bytes; more = rest; spelled = p.spelled; no_end = p.holds.no_end; joined = refl }
item_begins in_end ws bytes rest (AsBlock p) =
    let s = p.spelled in
    record { value = Block p.block.0; front = s.front; more = s.back ++ rest; spelled = s.first; no_end = head_not_end p.block.0; joined = pair_then s rest }

pub IsApart-item : (in_end : Bool) → IsApart (item_in in_end) (end_in in_end)
IsApart-item in_end = record {
  apart = λ ws e a b x y p q j.
      let i = item_begins in_end ws a x p in
      i.no_end e ((PrefixFree-wide in_end).one i.value (End e) i.front b i.more y i.spelled q (sym i.joined ∙ j)).1;
}

-- ---- lists of items

pub records-append : (items tail : List (List WideRecord)) → records_of (items ++ tail) ≡ records_of items ++ records_of tail
records-append [] tail = refl
records-append (vs ∷ items) tail = ap (λ (rs : List WideRecord). vs ++ rs) (records-append items tail) ∙ sym (append_assoc vs (records_of items) (records_of tail))

pub records-push : (items : List (List WideRecord)) (ws : List WideRecord) → records_of (items ++ ws ∷ []) ≡ records_of items ++ ws
records-push items ws = records-append items (ws ∷ []) ∙ ap (λ (rs : List WideRecord). records_of items ++ rs) (append-nil ws)

-- each record by itself
abbrev pub alone : List WideRecord → List (List WideRecord)
alone [] = []
alone (w ∷ ws) = (w ∷ []) ∷ alone ws

pub records-alone : (ws : List WideRecord) → records_of (alone ws) ≡ ws
records-alone [] = refl
records-alone (w ∷ ws) = λ i. w ∷ records-alone ws i

pub each_alone : (in_end : Bool) (ws : List WideRecord) (bytes : List ℕ) → IsEach (inner_in in_end) ws bytes → IsEach (item_in in_end) (alone ws) bytes
each_alone in_end [] bytes h = h
each_alone in_end (w ∷ ws) bytes h = (h.0, h.1, AsRecord w refl h.2, each_alone in_end ws h.1 h.3, h.4)
