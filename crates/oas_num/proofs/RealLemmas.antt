-- The parts of a real, one after another.
use Rattle.std.proofs.Common.{ℕ, ◌<◌, ◌≤◌, List, Option, arith}
use Rattle.oas_num.specs.declared.refusals.Why.{Why}
use Rattle.oas_num.specs.declared.refusals.Why.TheVariants.{Truncated, IntegerRange, FloatReal, RealType, Read, InputTooLong}
use Rattle.oas_num.specs.Script.{Script}
use Rattle.oas_num.specs.Grammar.{IsPair, IsSuch, IsThere}
use Rattle.oas_num.specs.Integers.{IsUnsigned}
use Rattle.oas_num.specs.Laws.IntegerLaws.{PrefixFree-IsUnsigned}
use Rattle.oas_num.specs.Reals.{IsFraction, SpellsParts, SpellsReal, RealMay, PartsTook, RealTook, Parts, real_of, has_num, has_den}
use Rattle.oas_num.specs.Laws.RealLaws.{PrefixFree-kind, PrefixFree-part, HasSome-parts, HasSome-SpellsReal}
use Rattle.oas_num.specs.Reading.{ReadsValue, FailsPiece, IntegerMay}
use Rattle.oas_num.proofs.MidwayLemmas.{Midway, begins, seen, refused, image_fails}
use Rattle.oas_num.proofs.GrammarLemmas.{◌▹◌, such_read, such_fails_by}
use Rattle.oas_num.proofs.PieceLemmas.{first_fails, second_fails, there_fails_in}

RealMay-integer : (why : Why) (last : List ℕ) → IntegerMay why last → RealMay why last
RealMay-integer Truncated last h = h
RealMay-integer IntegerRange last h = h
RealMay-integer Read last h = h
RealMay-integer InputTooLong last h = h
RealMay-integer _ last h = absurd h

pub starts : (s : Script) → Midway SpellsReal (IsPair (IsSuch IsFraction IsUnsigned) SpellsParts) real_of s s
starts s = seen SpellsReal real_of (IsPair (IsSuch IsFraction IsUnsigned) SpellsParts) (λ v. v) s s (begins SpellsReal HasSome-SpellsReal s)

pub with_kind : (old new : Script) (kind : ℕ) → kind < 6 → ReadsValue IsUnsigned old kind new → Midway SpellsReal (SpellsParts kind) (λ (p : Parts). real_of (kind, p)) old new
with_kind old new kind lt read = starts old ▹ (PrefixFree-kind, HasSome-parts kind, such_read IsFraction IsUnsigned old new kind lt read)

-- ---- where a real goes wrong

pub kind_fails : {old new : Script} {why : Why} → FailsPiece IsUnsigned IntegerMay old why new → FailsPiece SpellsReal RealTook old why new
kind_fails {old = old} {new = new} {why = why} f = image_fails real_of (first_fails (such_fails_by IsFraction IsUnsigned RealMay IntegerMay old new why RealMay-integer f))

pub unknown : {old new : Script} {kind : ℕ} → 8 ≤ kind → ReadsValue IsUnsigned old kind new → FailsPiece SpellsReal RealTook old RealType new
unknown {old = old} {new = new} {kind = kind} le read =
    image_fails real_of (first_fails (refused IsFraction IsUnsigned RealMay old new RealType kind PrefixFree-IsUnsigned read
    (λ (lt : kind < 6). omega arith) (kind, read.spelled, le) (λ e. cc) (λ e. cc) (λ e. cc)))

pub float : {old new : Script} {kind : ℕ} → 6 ≤ kind → kind < 8 → ReadsValue IsUnsigned old kind new → FailsPiece SpellsReal RealTook old FloatReal new
float {old = old} {new = new} {kind = kind} le below read =
    image_fails real_of (first_fails (refused IsFraction IsUnsigned RealMay old new FloatReal kind PrefixFree-IsUnsigned read
    (λ (lt : kind < 6). omega arith) (kind, read.spelled, le, below) (λ e. cc) (λ e. cc) (λ e. cc)))

-- a part, after the type
part_fails : {old mid new : Script} {kind : ℕ} {why : Why} → kind < 6 → ReadsValue IsUnsigned old kind mid
    → FailsPiece (SpellsParts kind) (PartsTook kind) mid why new → FailsPiece SpellsReal RealTook old why new
part_fails {old = old} {mid = mid} {kind = kind} lt read f = image_fails real_of (second_fails PrefixFree-kind (such_read IsFraction IsUnsigned old mid kind lt read) f)

pub num_fails : {old mid new : Script} {kind : ℕ} {why : Why} → kind < 6 → ReadsValue IsUnsigned old kind mid
    → FailsPiece (IsThere (has_num kind) IsUnsigned) IntegerMay mid why new → FailsPiece SpellsReal RealTook old why new
num_fails {kind = kind} lt read f = part_fails lt read (first_fails (there_fails_in IsUnsigned IntegerMay (has_num kind) (λ _ h. h) f))

pub den_fails : {old mid then new : Script} {kind : ℕ} {num : Option ℕ} {why : Why} → kind < 6 → ReadsValue IsUnsigned old kind mid
    → ReadsValue (IsThere (has_num kind) IsUnsigned) mid num then → FailsPiece (IsThere (has_den kind) IsUnsigned) IntegerMay then why new
    → FailsPiece SpellsReal RealTook old why new
den_fails {kind = kind} lt read num f = part_fails lt read (second_fails (PrefixFree-part (has_num kind)) num (there_fails_in IsUnsigned IntegerMay (has_den kind) (λ _ h. h) f))
