-- Reasons for which records aren't prepared are about the file: none is about the input's end, a device or the memory.
use Rattle.std.proofs.Common.{◌≡◌, ℕ, Bool, true, false, List, [], ◌∷◌, ◌++◌, Option, None, Some, IsTrue, reverse, refl, sym, subst}
use Rattle.std.specs.Option.{option_or}
use Rattle.std.specs.Prelude.{cond, Result, Ok, Err}
use Rattle.oas_num.specs.declared.refusals.Why.{Why}
use Rattle.oas_num.proofs.RefusingLemmas.{Reasons, none_in, some_in, or_in}
use Rattle.oas_record.specs.declared.records.Record.{Record}
use Rattle.oas_elements.specs.declared.limits.Limits.{Limits}
use Rattle.oas_narrow.specs.Stands.{refusal}
use Rattle.oas_canon.proofs.Judged.{refusal_decides}
use Rattle.oas_narrow.specs.Laws.{IsReason, Undefined, OffGrid, OtherSide, NoKind, NoShape}
use Rattle.oas_narrow.proofs.ReasonLemmas.{handed_reason}
use Rattle.oas_narrow.specs.WideWhy.{WideWhy}
use Rattle.oas_narrow.specs.WideWhy.TheVariants as wide
use Rattle.oas_narrow.specs.WideRecord.{WideRecord}
use Rattle.oas_narrow.specs.declared.dropping.Dropping.{Dropping}
use Rattle.oas_narrow.specs.declared.dropping.Extra.{Extra}
use Rattle.oas_narrow.specs.declared.dropping.Extra.TheVariants as extra
use Rattle.oas_narrow.specs.declared.roles.Role.{Role}
use Rattle.oas_narrow.specs.declared.roles.Role.TheVariants as role
use Rattle.oas_narrow.specs.Dropping.{is_named, undropped}
use Rattle.oas_narrow.specs.Narrowing.{is_open, kept_of, translated_after, narrowed, refused_of, refused_if, translated_obstacle}
use Rattle.oas_narrow.specs.Placements.{with_turns}
use Rattle.oas_narrow.specs.Roles.{role_of, outside, unnamed, obstacle_by}
use Rattle.oas_prepare.specs.Deciding.{decides}
use Rattle.oas_prepare.specs.Taking.{obstacle_next}

-- a reason, if there is one, is about the bytes
abbrev InBytes : Option WideWhy → Type 0
InBytes = Reasons (λ (why : WideWhy). IsTrue (decides why))

outside_in : (in_cell : Bool) (id : ℕ) → InBytes (outside in_cell id)
outside_in true id = none_in
outside_in false id = some_in _ refl

undropped_in : (e : Extra) → InBytes (Some (undropped e))
undropped_in extra.ExtensionElement = some_in _ refl
undropped_in extra.PropertyName = some_in _ refl
undropped_in extra.Property = some_in _ refl
undropped_in extra.LayerName = some_in _ refl
undropped_in extra.ExtensionName = some_in _ refl

named_in : (named : Bool) (e : Extra) → InBytes (unnamed named e)
named_in true e = none_in
named_in false e = undropped_in e

extension_in : (named : Bool) (in_cell : Bool) (id : ℕ) → InBytes (cond named (outside in_cell id) (Some wide.Extensions))
extension_in true in_cell id = outside_in in_cell id
extension_in false in_cell id = some_in _ refl

by_in : (dropping : Dropping) (in_cell : Bool) (r : Role) → InBytes (obstacle_by dropping in_cell r)
by_in dropping in_cell (role.Element id) = outside_in in_cell id
by_in dropping in_cell (role.Extra e) = named_in (is_named dropping e) e
by_in dropping in_cell (role.Extension id) = extension_in dropping.extensions in_cell id
by_in dropping in_cell (role.Missing id) = some_in _ refl
by_in dropping in_cell role.Cell = none_in
by_in dropping in_cell role.Name = none_in
by_in dropping in_cell role.Other = none_in

refused_in : (o : Option Why) → ((why : Why) → o ≡ Some why → IsTrue (decides (wide.Profile why))) → InBytes (refused_if o)
refused_in None h = none_in
refused_in (Some why) h = some_in (wide.Profile why) (h why refl)

one_of : (one other : Option Why) (why : Why) → option_or one other ≡ Some why → ((v : Why) → one ≡ Some v → IsTrue (decides (wide.Profile v))) →
    ((v : Why) → other ≡ Some v → IsTrue (decides (wide.Profile v))) → IsTrue (decides (wide.Profile why))
one_of None other why e p q = q why e
one_of (Some v) other why e p q = p why e

-- for the records of the profile that one is translated to
all_decide : (limits : Limits) (rs more : List Record) (why : Why) → refused_of limits rs more ≡ Some why → IsTrue (decides (wide.Profile why))
all_decide limits rs [] why e = absurd cc
all_decide limits rs (r ∷ more) why e = one_of (refusal limits rs r) (refused_of limits (rs ++ r ∷ []) more) why e (refusal_decides limits rs r) (all_decide limits (rs ++ r ∷ []) more)

reason_decides : (why : WideWhy) → IsReason why → IsTrue (decides why)
reason_decides why (Undefined e) = subst (λ (w : WideWhy). IsTrue (decides w)) (sym e) refl
reason_decides why (OffGrid e) = subst (λ (w : WideWhy). IsTrue (decides w)) (sym e) refl
reason_decides why (OtherSide e) = subst (λ (w : WideWhy). IsTrue (decides w)) (sym e) refl
reason_decides why (NoKind e) = subst (λ (w : WideWhy). IsTrue (decides w)) (sym e) refl
reason_decides why (NoShape e) = subst (λ (w : WideWhy). IsTrue (decides w)) (sym e) refl

handed_in : (limits : Limits) (rs : List Record) (h : Result (List Record) WideWhy) → ((why : WideWhy) → h ≡ Err why → IsReason why) → InBytes (translated_obstacle limits rs h)
handed_in limits rs (Err why) p = some_in why (reason_decides why (p why refl))
handed_in limits rs (Ok more) p = refused_in (refused_of limits rs more) (all_decide limits rs more)

pub obstacle_decides : (limits : Limits) (dropping : Dropping) (ws : List WideRecord) (w : WideRecord) (why : WideWhy) → obstacle_next limits dropping ws w ≡ Some why → IsTrue (decides why)
obstacle_decides limits dropping ws w why e =
    (or_in (obstacle_by dropping (is_open (reverse ws)) (role_of w)) (translated_obstacle limits (narrowed ws) (translated_after (reverse ws) w))
    (by_in dropping (is_open (reverse ws)) (role_of w))
    (handed_in limits (narrowed ws) (translated_after (reverse ws) w) (handed_reason (kept_of (reverse ws)) (with_turns w)))).such why e
