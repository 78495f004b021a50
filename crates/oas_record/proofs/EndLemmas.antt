-- Reading END.
use Rattle.std.proofs.Common.{ℕ, ◌<◌, ◌≤◌, arith}
use Rattle.oas_num.specs.Script.{Script}
use Rattle.oas_num.specs.Grammar.{IsSuch}
use Rattle.oas_num.specs.Integers.{IsUnsigned}
use Rattle.oas_num.specs.Reading.{ReadsValue}
use Rattle.oas_num.proofs.GrammarLemmas.{such_read}
use Rattle.oas_record.specs.Ends.{IsNumber}

pub other_scheme : {scheme : ℕ} → 0 < scheme → ¬ IsNumber 0 scheme
other_scheme some is = omega (arith, is, some)

pub scheme_read : {old new : Script} {scheme : ℕ} → scheme ≤ 0 → ReadsValue IsUnsigned old scheme new → ReadsValue (IsSuch (IsNumber 0) IsUnsigned) old scheme new
scheme_read {old = old} {new = new} {scheme = scheme} le read = such_read (IsNumber 0) IsUnsigned old new scheme (omega (arith, le)) read
