use Rattle.std.proofs.Common.{refl, arith}
use Rattle.std.proofs.lemmas.Result.{err_from_is_err_and}
use Rattle.oas_num.proofs.GrammarLemmas.{such_read}
use Rattle.oas_num.proofs.HalfwayLemmas.{◌▸◌, at_image, fails_at, fails_last, is_read, such_took, such_refused}
use Rattle.oas_record.specs.Ends.{IsNumber}
use Rattle.oas_record.specs.Heads.{IsFlag}
use Rattle.oas_standard.specs.Heads.{start_id, unit_kind, flag_kind, WideStartTook}
use Rattle.oas_standard.specs.Long.{IsLong, PrefixFree-long}
use Rattle.oas_standard.specs.Versions.{long_version}
use Rattle.oas_standard.proofs.heads.WideStart.read.Goals as goal

pub returns-in_err-id : goal.returns-in_err-id
returns-in_err-id g c =
    let p = err_from_is_err_and c.from_residual.result c.from_residual.ensures.1 in
    rw (p.1, p.2) (fails_at (at_image {took = WideStartTook} _) (such_took c.in_err-id.ensures))

pub returns-then-id-ne1 : goal.returns-then-id-ne1
returns-then-id-ne1 g c = fails_at (at_image {took = WideStartTook} _) (such_refused PrefixFree-long refl c.if-id-ne1.true (refl, c.if-id-ne1.true) c.in_ok-id.ensures)

pub returns-in_err-read_version : goal.returns-in_err-read_version
returns-in_err-read_version g c =
    let p = err_from_is_err_and c.from_residual-in_err-read_version.result c.from_residual-in_err-read_version.ensures.1 in
    rw (p.1, p.2) (fails_at (at_image {took = WideStartTook} _ ▸ (start_id.found.one, such_read (IsNumber 1) IsLong _ _ _ c.if-id-ne1.false c.in_ok-id.ensures)) c.in_err-read_version.ensures)

pub returns-in_err-unit : goal.returns-in_err-unit
returns-in_err-unit g c =
    let p = err_from_is_err_and c.from_residual-in_err-unit.result c.from_residual-in_err-unit.ensures.1 in
    rw (p.1, p.2) (fails_at (at_image {took = WideStartTook} _ ▸
    (start_id.found.one, such_read (IsNumber 1) IsLong _ _ _ c.if-id-ne1.false c.in_ok-id.ensures) ▸
    (long_version.found.one, c.in_ok-read_version.ensures)) c.in_err-unit.ensures)

pub returns-in_err-flag : goal.returns-in_err-flag
returns-in_err-flag g c =
    let p = err_from_is_err_and c.from_residual-in_err-flag.result c.from_residual-in_err-flag.ensures.1 in
    rw (p.1, p.2) (fails_at (at_image {took = WideStartTook} _ ▸
    (start_id.found.one, such_read (IsNumber 1) IsLong _ _ _ c.if-id-ne1.false c.in_ok-id.ensures) ▸
    (long_version.found.one, c.in_ok-read_version.ensures) ▸ (unit_kind.found.one, c.in_ok-unit.ensures)) (such_took c.in_err-flag.ensures))

pub returns-then-flag-gt1 : goal.returns-then-flag-gt1
returns-then-flag-gt1 g c = fails_at (at_image {took = WideStartTook} _ ▸
    (start_id.found.one, such_read (IsNumber 1) IsLong _ _ _ c.if-id-ne1.false c.in_ok-id.ensures) ▸ (long_version.found.one, c.in_ok-read_version.ensures)
    ▸ (unit_kind.found.one, c.in_ok-unit.ensures))
    (such_refused PrefixFree-long refl (λ lt. omega (arith, lt, c.if-flag-gt1.true)) (refl, λ lt. omega (arith, lt, c.if-flag-gt1.true)) c.in_ok-flag.ensures)

pub returns-in_err-pass_offsets_if : goal.returns-in_err-pass_offsets_if
returns-in_err-pass_offsets_if g c =
    let p = err_from_is_err_and c.from_residual-in_err-pass_offsets_if.result c.from_residual-in_err-pass_offsets_if.ensures.1 in
    rw (p.1, p.2) (fails_last (at_image {took = WideStartTook} _ ▸
    (start_id.found.one, such_read (IsNumber 1) IsLong _ _ _ c.if-id-ne1.false c.in_ok-id.ensures) ▸
    (long_version.found.one, c.in_ok-read_version.ensures) ▸ (unit_kind.found.one, c.in_ok-unit.ensures) ▸
    (flag_kind.found.one, such_read IsFlag IsLong _ _ _ (omega (arith, c.if-flag-gt1.false)) c.in_ok-flag.ensures)) c.in_err-pass_offsets_if.ensures)

pub returns : goal.returns
returns g c = is_read (at_image {took = WideStartTook} _ ▸ (start_id.found.one, such_read (IsNumber 1) IsLong _ _ _ c.if-id-ne1.false c.in_ok-id.ensures) ▸
    (long_version.found.one, c.in_ok-read_version.ensures) ▸ (unit_kind.found.one, c.in_ok-unit.ensures) ▸
    (flag_kind.found.one, such_read IsFlag IsLong _ _ _ (omega (arith, c.if-flag-gt1.false)) c.in_ok-flag.ensures)) c.in_ok-pass_offsets_if.ensures
