-- What was inflated from a source of a block's bytes is what the block encodes.
use Rattle.std.proofs.Common.{◌≡◌, ◌≢◌, ℕ, zero, suc, min, ◌-◌, ◌<◌, ◌≤◌, Bool, true, false, List, [], ◌∷◌, ◌++◌, length, Result, Ok, Err, inl, inr, refl, sym, ap, subst, ◌∙◌, append-nil, arith}
use Rattle.std.specs.Prelude.{◌⊎◌}
use Rattle.std.proofs.lemmas.List.{length-append}
use base.Fml.{GName}
use Rattle.oas_num.specs.declared.refusals.Why.{Why}
use Rattle.oas_num.specs.declared.refusals.Why.TheVariants as why
use Rattle.oas_num.specs.SourceFault.TheVariants.{Device, TooLong}
use Rattle.oas_num.specs.Script.{Script, Consumed, IsAtEnd, HasFailed, IsTooLong}
use Rattle.oas_inflate.specs.declared.faults.Fault.{Fault}
use Rattle.oas_inflate.specs.declared.faults.Fault.TheVariants as faults
use Rattle.oas_inflate.specs.Bits.{bits_of}
use Rattle.oas_inflate.specs.Grammar.{Chain}
use Rattle.oas_inflate.specs.Deflate.{IsBlock, IsDeflated}
use Rattle.oas_inflate.specs.Cut.{IsCutOff}
use Rattle.oas_inflate.specs.Reading.{Found, Nothing, Longer, Spot, Through, CutShort, FoundOn, FailsWithin}
use Rattle.oas_inflate.proofs.BitLemmas.{bits_of-whole}
use Rattle.oas_inflate.proofs.ThroughLemmas.{Consumed-none, Consumed-then}
use Rattle.oas_standard.specs.declared.blocks.BlockHead.{BlockHead}
use Rattle.oas_block.specs.declared.block.BlockEnd.{BlockEnd}
use Rattle.oas_block.specs.declared.block.BlockEnd.TheVariants as ends
use Rattle.oas_block.specs.declared.faults.BlockFault.{BlockFault}
use Rattle.oas_block.specs.declared.faults.BlockFault.TheVariants as blocks
use Rattle.oas_block.specs.Fronts.{prefix_script, IsFront}
use Rattle.oas_block.specs.Reading.{IsRead, Tells, ConsumesAll, Stops, IsUnfinished, IsOther, EndsBlock, FailsBlock, ReadsBlock}
use Rattle.oas_block.specs.Inflating.{Passed, PassesByte, Passes, Finishes, IsWhole, IsJudged, FaultOf, EndOf}
use Rattle.oas_block.proofs.FrontLemmas.{front_count, front_back, front_some, ended_back, failed_back, too_long_back}

no_more : (a b : List ℕ) (n : ℕ) → length a ≡ n → length (a ++ b) ≤ n → b ≡ []
no_more a [] n e le = refl
no_more a (x ∷ b) n e le = let l = length-append a (x ∷ b) in absurd (omega arith)

less_of : (n m : ℕ) → n ≤ m → n ≢ m → n < m
less_of zero zero le ne = absurd (ne refl)
less_of zero (suc m) le ne = omega arith
less_of (suc n) zero le ne = absurd (omega arith)
less_of (suc n) (suc m) le ne = let r = less_of n m (omega arith) (λ e. ne (ap suc e)) in omega arith

-- a source's bytes were inflated, and encode these
module _ (head : BlockHead) {start m now : Script} {name same same2 : GName} {unread left : ℕ} (old mid : Spot) (plain : List ℕ)
    (kind : head.kind ≡ 0) (before : old.script ≡ prefix_script start head.deflated) (none : old.pending ≡ []) (after : prefix_script m unread ≡ mid.script)
    (f : IsFront start name head.deflated same m unread) (g : IsFront start name head.deflated same2 now left) (t : FoundOn IsDeflated plain old mid) where
  first : Consumed (prefix_script start head.deflated) t.bytes (prefix_script m unread)
  first = subst (λ (s : Script). Consumed (prefix_script start head.deflated) t.bytes s) (sym after) (subst (λ (s : Script). Consumed s t.bytes mid.script) before t.takes)

  stands : (more : List ℕ) → Found IsDeflated plain (bits_of (t.bytes ++ more)) (mid.pending ++ bits_of more)
  stands more = subst (λ (p : List ℕ). Found IsDeflated plain (p ++ bits_of (t.bytes ++ more)) (mid.pending ++ bits_of more)) none (t.all more)

  module _ (p : Passed (prefix_script m unread) (prefix_script now left)) where
    both : Consumed (prefix_script start head.deflated) (t.bytes ++ p.bytes) (prefix_script now left)
    both = Consumed-then _ _ _ t.bytes p.bytes first p.takes

    whole_read : (limit idle : ℕ) → length plain ≤ limit → idle ≡ length mid.pending → IsWhole plain head.inflated unread idle → IsRead head limit start plain now
    whole_read limit idle le is w =
        let n = front_count f first in
        let l = front_count g both in
        let z = w.read in
        let full : length t.bytes ≡ head.deflated = omega arith in
        let e : p.bytes ≡ [] = no_more t.bytes p.bytes head.deflated full (omega arith) in
        let joined : t.bytes ++ p.bytes ≡ t.bytes = ap (λ (x : List ℕ). t.bytes ++ x) e ∙ append-nil t.bytes in
        let k : Found IsDeflated plain (bits_of t.bytes) (mid.pending ++ []) = subst (λ (x : List ℕ). Found IsDeflated plain (bits_of x) (mid.pending ++ [])) (append-nil t.bytes) (stands []) in
        let i = length-append mid.pending [] in
        let few = w.few in
        record {
          bytes = t.bytes;
          takes = subst (λ (x : List ℕ). Consumed start x now) joined (front_back g both);
          block = record {
            kind = kind;
            inflated = w.long;
            deflated = full;
            packed = record { idle = mid.pending ++ []; stands = k.is; few = omega arith };
          };
          within = le;
        }

    other_read : (idle : ℕ) → length plain ≤ head.inflated → idle ≡ length mid.pending → left ≡ 0 → ((length plain ≢ head.inflated) ⊎ ((0 < unread) ⊎ (8 ≤ idle)))
        → ConsumesAll head (λ bytes. IsOther head plain bytes) start now
    other_read idle le is z wrong =
        let n = front_count f first in
        let l = front_count g both in
        let a = length-append t.bytes p.bytes in
        let b = length-append mid.pending (bits_of p.bytes) in
        let c = bits_of-whole p.bytes in record {
          bytes = t.bytes ++ p.bytes;
          takes = front_back g both;
          kind = kind;
          whole = omega arith;
          is = record {
            left = mid.pending ++ bits_of p.bytes;
            found = stands p.bytes;
            other = elim wrong [
              | inl w ↦ inl (less_of (length plain) head.inflated le w)
              | inr v ↦ inr (elim v [
                | inl w ↦ omega arith
                | inr w ↦ omega arith
              ])
            ];
          };
        }

    ended : (limit idle : ℕ) (end : BlockEnd) → length plain ≤ limit → length plain ≤ head.inflated → idle ≡ length mid.pending → left ≡ 0
        → IsJudged plain end head.inflated unread idle → EndsBlock head limit start plain end now
    ended limit idle ends.Whole le few is z w = whole_read limit idle le is w
    ended limit idle ends.Other le few is z w = other_read idle few is z w
    ended limit idle ends.Unfinished le few is z w = absurd w

  pub finished : {X : Type 0} (given : X → List ℕ) (end : X → BlockEnd) (limit idle : ℕ) (result : Result X BlockFault) → length plain ≤ limit → length plain ≤ head.inflated
      → idle ≡ length mid.pending → Finishes given end plain head.inflated idle m unread result now left → ReadsBlock given end head limit start result now
  finished given end limit idle (Ok x) le few is h = subst (λ (y : List ℕ). EndsBlock head limit start y (end x) now) (sym h.2.0) (ended h.0 limit idle (end x) le few is h.1 h.2.1)
  finished given end limit idle (Err blocks.Length) le few is h = absurd h
  finished given end limit idle (Err blocks.Kind) le few is h = absurd h
  finished given end limit idle (Err blocks.Deflate) le few is h = absurd h
  finished given end limit idle (Err blocks.Full) le few is h = absurd h
  finished given end limit idle (Err (blocks.Why why.Truncated)) le few is h =
      let s = front_some g in let lt = h.0 in
      (record { bytes = s.0; takes = s.1; kind = kind; fewer = (let e = s.2 in omega arith) }, ended_back now left h.0 h.1)
  finished given end limit idle (Err (blocks.Why why.Read)) le few is h =
      let s = front_some g in let b = failed_back now left h in let lt = b.1 in
      (record { bytes = s.0; takes = s.1; kind = kind; fewer = (let e = s.2 in omega arith) }, b.0)
  finished given end limit idle (Err (blocks.Why why.InputTooLong)) le few is h =
      let s = front_some g in let b = too_long_back now left h in let lt = b.1 in
      (record { bytes = s.0; takes = s.1; kind = kind; fewer = (let e = s.2 in omega arith) }, b.0)
  finished given end limit idle (Err (blocks.Why _)) le few is h = absurd h

-- a source's bytes weren't inflated
module _ (head : BlockHead) {start m : Script} {name same : GName} {unread : ℕ} (old mid : Spot)
    (kind : head.kind ≡ 0) (before : old.script ≡ prefix_script start head.deflated) (none : old.pending ≡ []) (after : prefix_script m unread ≡ mid.script)
    (f : IsFront start name head.deflated same m unread) where
  fronts : {bytes : List ℕ} → Consumed old.script bytes mid.script → Consumed (prefix_script start head.deflated) bytes (prefix_script m unread)
  fronts {bytes} k = subst (λ (s : Script). Consumed (prefix_script start head.deflated) bytes s) (sym after) (subst (λ (s : Script). Consumed s bytes mid.script) before k)

  -- what holds whatever follows what was taken
  tells : (P : List ℕ → Type 0) → Through old mid (λ a b. P a) → Tells head (λ bytes. P (bits_of bytes)) start m
  tells P t = let l = front_count f (fronts t.takes) in record {
    bytes = t.bytes;
    takes = front_back f (fronts t.takes);
    kind = kind;
    within = omega arith;
    all = λ more e. subst (λ (p : List ℕ). P (p ++ bits_of (t.bytes ++ more))) none (t.all more);
  }

  unfinished : (put : List ℕ) → CutShort old mid (λ a. Nothing IsDeflated a × IsCutOff put a) → unread ≡ 0 → ConsumesAll head (λ bytes. IsUnfinished put bytes) start m
  unfinished put t z = let l = front_count f (fronts t.takes) in record {
    bytes = t.bytes;
    takes = front_back f (fronts t.takes);
    kind = kind;
    whole = omega arith;
    is = record {
      none = subst (λ (p : List ℕ). Nothing IsDeflated (p ++ bits_of t.bytes)) none t.all.0;
      given = subst (λ (p : List ℕ). IsCutOff put (p ++ bits_of t.bytes)) none t.all.1;
    };
  }

  stops : 0 < unread → Stops head start m
  stops lt = let s = front_some f in let e = s.2 in record { bytes = s.0; takes = s.1; kind = kind; fewer = omega arith }

  somehow : Tells head (λ bytes. Unit {0}) start m
  somehow = let s = front_some f in let e = s.2 in record { bytes = s.0; takes = s.1; kind = kind; within = omega arith; all = λ more e. tt }

  refused : (limit stop : ℕ) (why : Fault) (put : List ℕ) (fault : BlockFault) → stop ≡ min limit head.inflated → FaultOf head limit why fault → (why ≡ faults.Cut → 0 < unread)
      → FailsWithin stop IsDeflated IsCutOff old why put mid → FailsBlock head limit start fault m
  refused limit stop (faults.Bad flaw) put blocks.Deflate is h cut t = tells (λ a. Nothing IsDeflated a) t
  refused limit stop faults.Cut put (blocks.Why why.Truncated) is h cut t = (stops (cut refl), ended_back m unread (cut refl) (subst IsAtEnd (sym after) t.ended))
  refused limit stop (faults.Source Device) put (blocks.Why why.Read) is h cut t = let b = failed_back m unread (subst HasFailed (sym after) t) in (stops b.1, b.0)
  refused limit stop (faults.Source TooLong) put (blocks.Why why.InputTooLong) is h cut t = let b = too_long_back m unread (subst IsTooLong (sym after) t) in (stops b.1, b.0)
  refused limit stop faults.Memory put (blocks.Why why.Memory) is h cut t = somehow
  refused limit stop faults.Full put blocks.Full is h cut t = (h, tells (λ a. Longer limit IsDeflated a) (subst (λ (n : ℕ). Through old mid (λ a b. Longer n IsDeflated a)) (is ∙ omega arith) t))
  refused limit stop faults.Full put blocks.Length is h cut t = tells (λ a. Longer head.inflated IsDeflated a) (subst (λ (n : ℕ). Through old mid (λ a b. Longer n IsDeflated a)) (is ∙ omega arith) t)
  refused limit stop _ put _ is h cut t = absurd h

  pub cut : {X : Type 0} (given : X → List ℕ) (end : X → BlockEnd) (limit stop : ℕ) (why : Fault) (put : List ℕ) (result : Result X BlockFault) → stop ≡ min limit head.inflated
      → EndOf given end head limit unread why put result → FailsWithin stop IsDeflated IsCutOff old why put mid → ReadsBlock given end head limit start result m
  cut given end limit stop why put (Ok x) is h t =
      let c : CutShort old mid (λ a. Nothing IsDeflated a × IsCutOff put a) = subst (λ (w : Fault). FailsWithin stop IsDeflated IsCutOff old w put mid) h.1 t in
      subst (λ (e : BlockEnd). EndsBlock head limit start (given x) e m) (sym h.2)
      (subst (λ (d : List ℕ). ConsumesAll head (λ bytes. IsUnfinished d bytes) start m) (sym h.3) (unfinished put c h.0))
  cut given end limit stop why put (Err fault) is h t = refused limit stop why put fault is h.0 h.1 t

-- ---- bytes that are skipped

pub passed_none : (s : Script) → Passed s s
passed_none s = record { bytes = []; takes = Consumed-none s }

passed_then : {old mid new : Script} {bytes : List ℕ} → Passed old mid → Consumed mid bytes new → Passed old new
passed_then {bytes = bytes} p k = record { bytes = p.bytes ++ bytes; takes = Consumed-then _ _ _ p.bytes bytes p.takes k }

pub passed_on : {old mid new : Script} (more : Bool) → more ≡ true → Passed old mid → PassesByte mid (Ok more) new → Passed old new
passed_on true e p k = passed_then p k.1
passed_on false e p k = absurd cc

pub passed_less : (mid new : Script) (more : Bool) → more ≡ true → PassesByte mid (Ok more) new → new.limit - new.given < mid.limit - mid.given
passed_less mid new true e k = let g = k.1.given in let l = k.1.limit in let w = k.2 in omega arith
passed_less mid new false e k = absurd cc

pub passed_all : {old mid new : Script} (more : Bool) → more ≡ false → Passed old mid → PassesByte mid (Ok more) new → Passes old (Ok tt) new
passed_all true e p k = absurd cc
passed_all false e p k = (passed_then p k.0, k.1)

pub passed_stops : {old mid : Script} (new : Script) (stop : Why) → Passed old mid → PassesByte mid (Err stop) new → Passes old (Err stop) new
passed_stops new why.Read p k = (passed_then p k.0, k.1)
passed_stops new why.InputTooLong p k = (passed_then p k.0, k.1)
passed_stops new _ p k = absurd k

-- ---- no bytes

no_block : (last : ℕ) (before after end : List ℕ) → IsBlock last before after [] end → ⊥
no_block last before after end h = let e = h.has.3.first in absurd cc

no_blocks : (via : List (List ℕ)) (before after end : List ℕ) → Chain (IsBlock 0) (IsBlock 1) via before after [] end → ⊥
no_blocks [] before after end h = no_block 1 before after end h
no_blocks (next ∷ via) before after end h = no_block 0 before next h.0 h.1

pub no_bytes : (head : BlockHead) (s : Script) (put : List ℕ) → head.kind ≡ 0 → head.deflated ≡ 0 → put ≡ [] → ConsumesAll head (λ bytes. IsUnfinished put bytes) s s
no_bytes head s put kind none empty = record {
  bytes = [];
  takes = Consumed-none s;
  kind = kind;
  whole = omega arith;
  is = record {
    none = record { none = λ after end h. no_blocks h.via [] after end h.chain };
    given = record { via = []; chain = inl (record { none = record { none = λ n end h. let e = h.3.first in absurd cc }; same = empty }) };
  };
}
