-- The parts of a point list, one after another.
use Rattle.std.proofs.Common.{ℕ, ◌≤◌, List, arith}
use Rattle.oas_num.specs.declared.deltas.GDelta.{GDelta}
use Rattle.oas_num.specs.Script.{Script}
use Rattle.oas_num.specs.Grammar.{IsPair, IsSuch}
use Rattle.oas_num.specs.Integers.{IsUnsigned}
use Rattle.oas_num.specs.Reading.{ReadsValue}
use Rattle.oas_num.proofs.GrammarLemmas.{such_read}
use Rattle.oas_num.proofs.HalfwayLemmas.{Halfway, at_image, ◌▸◌}
use Rattle.oas_shape.specs.declared.list_use.ListUse.{ListUse}
use Rattle.oas_shape.specs.ListUses.{IsFitting}
use Rattle.oas_shape.specs.PointLists.{IsListKind, deltas_in, polyline_of, after_kind, IsPointList, DeltasTook, AfterKindTook, PointListTook}
use Rattle.oas_shape.specs.Laws.PointListLaws.{PrefixFree-kind, PrefixFree-fitting}

module _ (purpose : ListUse) where
  -- nothing was read
  pub starts : (s : Script) → Halfway (IsPointList purpose) (IsPair (IsSuch IsListKind IsUnsigned) (after_kind purpose)) (polyline_of purpose) (PointListTook purpose) (PointListTook purpose) s s
  starts s = at_image {f = polyline_of purpose} {A = IsPair (IsSuch IsListKind IsUnsigned) (after_kind purpose)} s

  -- the type was read
  pub with_kind : {old new : Script} {kind : ℕ} → kind ≤ 5 → ReadsValue IsUnsigned old kind new
      → Halfway (IsPointList purpose) (after_kind purpose kind) (λ parts. polyline_of purpose (kind, parts)) (PointListTook purpose)
      (AfterKindTook purpose kind) old new
  with_kind {old = old} {new = new} {kind = kind} le read = starts old ▸ (PrefixFree-kind, such_read IsListKind IsUnsigned old new kind (omega arith) read)

  -- the count was read
  pub with_count : {old mid new : Script} {kind count : ℕ} → kind ≤ 5 → IsFitting purpose kind count → ReadsValue IsUnsigned old kind mid → ReadsValue IsUnsigned mid count new
      → Halfway (IsPointList purpose) (deltas_in kind count) (λ (deltas : List GDelta). polyline_of purpose (kind, (count, deltas))) (PointListTook purpose) (DeltasTook kind count) old new
  with_count {mid = mid} {new = new} {kind = kind} {count = count} le fits first read =
      with_kind le first ▸ (PrefixFree-fitting purpose kind, such_read (IsFitting purpose kind) IsUnsigned mid new count fits read)
