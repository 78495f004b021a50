-- The laws of point lists: no spelling is a prefix of another; in the shortest style each has one, which is one of its
-- spellings.
use Rattle.std.proofs.Common.{◌≡◌, ℕ, true, false, List, [], ◌∷◌, length, inl, inr, refl, sym, ◌∙◌, arith}
use Rattle.std.specs.Prelude.{◌==◌}
use Rattle.oas_num.specs.declared.deltas.GDelta.{GDelta}
use Rattle.oas_num.specs.Begun.{HasSome}
use Rattle.oas_num.specs.Laws.BegunLaws.{HasSome-pair, HasSome-such, HasSome-image, HasSome-either, HasSome-count}
use Rattle.oas_num.specs.Grammar.{PrefixFree, IsPair, IsSuch, IsImage, IsCount}
use Rattle.oas_num.specs.Laws.GrammarLaws.{PrefixFree-pair, PrefixFree-image, PrefixFree-such, PrefixFree-count}
use Rattle.oas_num.specs.Combinators.{OneSpelling, IsWithin}
use Rattle.oas_num.specs.Laws.CombinatorLaws.{PrefixFree-either, PrefixFree-within, OneSpelling-pair, OneSpelling-count, IsWithin-count}
use Rattle.oas_num.specs.Integers.{IsUnsigned}
use Rattle.oas_num.specs.Laws.IntegerLaws.{PrefixFree-IsUnsigned, zero_spelled}
use Rattle.oas_num.specs.Style.{Style, Any, Shortest, unsigned_in}
use Rattle.oas_num.specs.Laws.StyleLaws.{OneSpelling-unsigned}
use Rattle.oas_num.specs.Deltas.{SpellsDelta1, SpellsDelta2, SpellsDelta3, SpellsGDelta, gdelta_in}
use Rattle.oas_num.specs.Laws.DeltaLaws.{Delta1-one_front, Delta2-one_front, Delta3-one_front, GDelta-one_front, OneSpelling-gdelta, IsWithin-gdelta, Delta1-some, Delta2-some}
use Rattle.oas_num.specs.Laws.DeltaLaws.{Delta3-some, GDelta-some}
use Rattle.oas_shape.specs.declared.list_use.ListUse.{ListUse}
use Rattle.oas_shape.specs.declared.list_use.ListUse.TheVariants.{Polygon, Path}
use Rattle.oas_shape.specs.ListUses.{IsFitting}
use Rattle.oas_shape.specs.PointLists.{IsListKind, alternating, step2, step3, stepg, deltas_in, polyline_of, after_kind, IsPointList, plain_line, IsShortestList, point_list_in}

-- the type, below 6
pub PrefixFree-kind : PrefixFree (IsSuch IsListKind IsUnsigned)
PrefixFree-kind = PrefixFree-such IsListKind IsUnsigned PrefixFree-IsUnsigned

-- a count that fits
pub PrefixFree-fitting : (purpose : ListUse) (kind : ℕ) → PrefixFree (IsSuch (IsFitting purpose kind) IsUnsigned)
PrefixFree-fitting purpose kind = PrefixFree-such (IsFitting purpose kind) IsUnsigned PrefixFree-IsUnsigned

-- this many deltas of a type
pub PrefixFree-deltas : (kind count : ℕ) → PrefixFree (deltas_in kind count)
PrefixFree-deltas kind count =
    PrefixFree-either (kind == 0) _ _ (PrefixFree-image (alternating true) _ (PrefixFree-count SpellsDelta1 count Delta1-one_front))
    (PrefixFree-either (kind == 1) _ _ (PrefixFree-image (alternating false) _ (PrefixFree-count SpellsDelta1 count Delta1-one_front))
    (PrefixFree-either (kind == 2) _ _ (PrefixFree-count (IsImage step2 SpellsDelta2) count (PrefixFree-image step2 SpellsDelta2 Delta2-one_front))
    (PrefixFree-either (kind == 3) _ _ (PrefixFree-count (IsImage step3 SpellsDelta3) count (PrefixFree-image step3 SpellsDelta3 Delta3-one_front))
    (PrefixFree-count (IsImage stepg SpellsGDelta) count (PrefixFree-image stepg SpellsGDelta GDelta-one_front)))))

-- what follows the type
pub PrefixFree-after_kind : (purpose : ListUse) (kind : ℕ) → PrefixFree (after_kind purpose kind)
PrefixFree-after_kind purpose kind = PrefixFree-pair (IsSuch (IsFitting purpose kind) IsUnsigned) (deltas_in kind) (PrefixFree-fitting purpose kind) (PrefixFree-deltas kind)

PrefixFree-any : (purpose : ListUse) → PrefixFree (IsPointList purpose)
PrefixFree-any purpose =
    PrefixFree-image (polyline_of purpose) (IsPair (IsSuch IsListKind IsUnsigned) (after_kind purpose))
    (PrefixFree-pair (IsSuch IsListKind IsUnsigned) (after_kind purpose) PrefixFree-kind (PrefixFree-after_kind purpose))

OneSpelling-list : OneSpelling IsShortestList
OneSpelling-list =
    OneSpelling-pair (unsigned_in Shortest) (λ _. IsPair (unsigned_in Shortest) (IsCount (gdelta_in Shortest))) OneSpelling-unsigned
    (λ _. OneSpelling-pair (unsigned_in Shortest) (IsCount (gdelta_in Shortest)) OneSpelling-unsigned (λ count. OneSpelling-count (gdelta_in Shortest) count OneSpelling-gdelta))

-- in the shortest style a point list has one spelling
pub OneSpelling-point_list : (purpose : ListUse) → OneSpelling (point_list_in Shortest purpose)
OneSpelling-point_list purpose = record {
  same = λ line a b p q. OneSpelling-list.same (4, (length line.deltas, line.deltas)) a b p.spelled q.spelled;
}

closing_plain : (purpose : ListUse) (deltas : List GDelta) → polyline_of purpose (4, (length deltas, deltas)) ≡ plain_line deltas
closing_plain Polygon deltas = refl
closing_plain Path deltas = refl

IsWithin-step : IsWithin (gdelta_in Shortest) (IsImage stepg SpellsGDelta)
IsWithin-step = record { within = λ d a p. record { from = d; is = refl; spelled = IsWithin-gdelta.within d a p } }

-- and it is one that the standard allows
pub IsWithin-point_list : (purpose : ListUse) → IsWithin (point_list_in Shortest purpose) (point_list_in Any purpose)
IsWithin-point_list purpose = record {
  within = λ line a p.
      let s = p.spelled in
      let t = s.second in
      record {
        from = (4, (length line.deltas, line.deltas));
        is = closing_plain purpose line.deltas ∙ sym p.plain;
        spelled = record {
          front = s.front;
          back = s.back;
          first = record { holds = omega arith; spelled = s.first.spelled };
          second = record {
            front = t.front;
            back = t.back;
            first = record { holds = p.fits; spelled = t.first.spelled };
            second = (IsWithin-count (gdelta_in Shortest) (IsImage stepg SpellsGDelta) (length line.deltas) IsWithin-step).within line.deltas t.back t.second;
            joined = t.joined;
          };
          joined = s.joined;
        };
      };
}

-- in any style no spelling is a prefix of another
pub PrefixFree-point_list : (style : Style) (purpose : ListUse) → PrefixFree (point_list_in style purpose)
PrefixFree-point_list Any purpose = PrefixFree-any purpose
PrefixFree-point_list Shortest purpose = PrefixFree-within (point_list_in Shortest purpose) (point_list_in Any purpose) (IsWithin-point_list purpose) (PrefixFree-any purpose)

-- ---- some are spelled

-- a type has a spelling
pub HasSome-kind : HasSome (IsSuch IsListKind IsUnsigned)
HasSome-kind = HasSome-such IsListKind IsUnsigned 0 (0 ∷ []) zero_spelled (omega arith)

two_spelled : IsUnsigned 2 (2 ∷ [])
two_spelled = record { closed = inl (omega arith, refl); short = omega arith; value = refl; fits = omega arith }

two_fit : (purpose : ListUse) (kind : ℕ) → IsFitting purpose kind 2
two_fit Polygon kind = (omega arith, inr refl)
two_fit Path kind = tt

-- two deltas fit every type and use
pub HasSome-fitting : (purpose : ListUse) (kind : ℕ) → HasSome (IsSuch (IsFitting purpose kind) IsUnsigned)
HasSome-fitting purpose kind = HasSome-such (IsFitting purpose kind) IsUnsigned 2 (2 ∷ []) two_spelled (two_fit purpose kind)

-- this many deltas of each type have a spelling
pub HasSome-deltas : (kind count : ℕ) → HasSome (deltas_in kind count)
HasSome-deltas kind count =
    HasSome-either (kind == 0) _ _ (HasSome-image (alternating true) _ (HasSome-count SpellsDelta1 count Delta1-some))
    (HasSome-either (kind == 1) _ _ (HasSome-image (alternating false) _ (HasSome-count SpellsDelta1 count Delta1-some))
    (HasSome-either (kind == 2) _ _ (HasSome-count (IsImage step2 SpellsDelta2) count (HasSome-image step2 SpellsDelta2 Delta2-some))
    (HasSome-either (kind == 3) _ _ (HasSome-count (IsImage step3 SpellsDelta3) count (HasSome-image step3 SpellsDelta3 Delta3-some))
    (HasSome-count (IsImage stepg SpellsGDelta) count (HasSome-image stepg SpellsGDelta GDelta-some)))))

-- what follows each type has a spelling
pub HasSome-after_kind : (purpose : ListUse) (kind : ℕ) → HasSome (after_kind purpose kind)
HasSome-after_kind purpose kind =
    HasSome-pair (IsSuch (IsFitting purpose kind) IsUnsigned) (deltas_in kind) (HasSome-fitting purpose kind) (HasSome-deltas kind (HasSome-fitting purpose kind).value)

-- a point list has a spelling
pub HasSome-point_list : (purpose : ListUse) → HasSome (point_list_in Any purpose)
HasSome-point_list purpose =
    HasSome-image (polyline_of purpose) (IsPair (IsSuch IsListKind IsUnsigned) (after_kind purpose))
    (HasSome-pair (IsSuch IsListKind IsUnsigned) (after_kind purpose) HasSome-kind (HasSome-after_kind purpose HasSome-kind.value))
