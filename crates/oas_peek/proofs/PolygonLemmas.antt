-- Polygons without a repetition, and their records.
use Rattle.std.proofs.Common.{◌≡◌, ℕ, ℤ, ◌-◌, ◌<◌, Bool, false, Option, None, List, [], ◌∷◌, length, refl, ap, sym, ◌∙◌, arith}
use Rattle.std.specs.Prelude.{IsTrue, ◌==◌}
use Rattle.oas_shape.specs.declared.list_use.ListUse.TheVariants as uses
use Rattle.oas_shape.specs.Polylines.{Polyline}
use Rattle.oas_record.specs.declared.polygons.Polygon.{Polygon as OnePolygon}
use Rattle.oas_record.specs.Info.{has}
use Rattle.oas_record.specs.Kinds.{signed}
use Rattle.oas_record.specs.Trees.{pair, there}
use Rattle.oas_record.specs.Fields.{Layers, layers, spot, points}
use Rattle.oas_record.specs.Polygons.{IsPolygonInfo, IsCanonicalPolygon, polygon_parts, polygon_of}
use Rattle.oas_peek.specs.Fronts.{Left, ConsumesByte, ConsumesPrefix, noted}
use Rattle.oas_peek.specs.Polygons.{IsPeekedPolygon, ConsumesPolygon}
use Rattle.oas_peek.proofs.FrontLemmas.{pair_takes, image_takes, spot_takes, one_byte, one_shortest, both_true}
use Rattle.oas_peek.proofs.RectangleLemmas.{taken}
use Rattle.oas_peek.proofs.NamedLemmas.{info_takes}
use Rattle.oas_peek.proofs.ListLemmas.{has_plain}

-- ---- a polygon after its id

pub all_given : (info : ℕ) → IsTrue (info == 59) → IsCanonicalPolygon info
all_given info t = grind arith

pub polygon_takes : (info : ℕ) (all : Bool) {both : Layers} {list : Option Polyline} {x y : Option ℤ} {old one two three four new : Left} → ConsumesByte info old one → info < 64 → has info 4 ≡ false
    → ConsumesPrefix (layers info) both one two → ConsumesPrefix (there (has info 32) (points uses.Polygon)) list two three → ConsumesPrefix (there (has info 16) signed) x three four
    → ConsumesPrefix (there (has info 8) signed) y four new → (IsTrue all → IsCanonicalPolygon info)
    → ConsumesPolygon (record { layer = both.0; datatype = both.1; points = list; spot = (record { x = x; y = y; repetition = None }) }) old (noted all new)
polygon_takes info all {list = list} {new = new} took fits once l s p q is = record {
  takes =
      let fields = pair_takes (λ _. pair (there (has info 32) (points uses.Polygon)) (λ _. spot (has info 16) (has info 8) (has info 4))) l
      (pair_takes (λ _. spot (has info 16) (has info 8) (has info 4)) s (spot_takes (has info 16) (has info 8) (has info 4) once p q)) in
      image_takes polygon_of _ _ _ (info_takes IsPolygonInfo IsCanonicalPolygon _ _ polygon_parts info all took fits is fields);
  once = refl;
  plain = λ now.
      let with_x = q.shortest (both_true new.shortest all now).0 in
      has_plain uses.Polygon (has info 32) list s.bytes (s.shortest (p.shortest with_x.0).0).1;
}

-- ---- the whole record

-- id, and what follows it, were taken
pub is_peeked_polygon : (bytes : List ℕ) (polygon : OnePolygon) (all one new : Left) → all.bytes ≡ bytes → ConsumesByte 21 all one → ConsumesPolygon polygon one new
    → IsPeekedPolygon bytes (record { polygon = polygon; length = length bytes - length new.bytes; shortest = new.shortest })
is_peeked_polygon bytes polygon all one new is first t =
    let e = taken bytes (21 ∷ t.takes.bytes) new.bytes (sym is ∙ first.joined ∙ ap (λ bs. 21 ∷ bs) t.takes.joined) in
    record {
      within = omega arith;
      once = t.once;
      plain = t.plain;
      spelled = λ in_end.
          rw e (record {
            whole = λ e. cc;
            parts = record { front = 21 ∷ []; back = t.takes.bytes; first = one_byte 21 (omega arith); second = record { from = polygon; is = refl; spelled = t.takes.spelled }; joined = refl };
          });
      shortest = λ now in_end.
          rw e (record {
            whole = λ e. cc;
            parts = record { front = 21 ∷ []; back = t.takes.bytes; first = one_shortest 21 (omega arith); second = record { from = polygon; is = refl; spelled = (t.takes.shortest now).1 }; joined = refl };
          });
    }
