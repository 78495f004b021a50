-- Extensions and paths without a repetition, and their records.
use Rattle.std.proofs.Common.{◌≡◌, ℕ, ℤ, ◌-◌, ◌/◌, ◌%◌, ◌<◌, Bool, false, Option, None, List, [], ◌∷◌, length, refl, ap, sym, ◌∙◌, arith}
use Rattle.std.specs.Prelude.{IsTrue, ◌==◌}
use Rattle.oas_shape.specs.declared.list_use.ListUse.TheVariants as uses
use Rattle.oas_shape.specs.Polylines.{Polyline}
use Rattle.oas_record.specs.declared.paths.Path.{Path as OnePath}
use Rattle.oas_record.specs.declared.paths.Extensions.{Extensions}
use Rattle.oas_record.specs.Info.{has}
use Rattle.oas_record.specs.Kinds.{number, signed}
use Rattle.oas_record.specs.Trees.{pair, there}
use Rattle.oas_record.specs.Fields.{Layers, layers, spot, points}
use Rattle.oas_record.specs.Paths.{IsPathInfo, IsCanonicalPath, scheme_kind, numbers, extension_of, extensions_of, extensions_kind, path_parts, path_of}
use Rattle.oas_peek.specs.Fronts.{Left, ConsumesByte, ConsumesPrefix, noted}
use Rattle.oas_peek.specs.Paths.{IsPeekedPath, ConsumesPath}
use Rattle.oas_peek.proofs.FrontLemmas.{pair_takes, image_takes, spot_takes, one_byte, one_shortest, both_true}
use Rattle.oas_peek.proofs.RectangleLemmas.{taken}
use Rattle.oas_peek.proofs.NamedLemmas.{info_takes}
use Rattle.oas_peek.proofs.ListLemmas.{has_plain}

-- ---- extensions

pub all_numbers : (scheme : ℕ) → IsTrue (scheme == 15) → scheme ≡ 15
all_numbers scheme t = grind arith

scheme_takes : (scheme : ℕ) (all : Bool) {old new : Left} → scheme < 16 → (IsTrue all → scheme ≡ 15) → ConsumesPrefix number scheme old new → ConsumesPrefix scheme_kind scheme old (noted all new)
scheme_takes scheme all {new = new} fits is p = record {
  bytes = p.bytes;
  joined = p.joined;
  spelled = record { holds = fits; spelled = p.spelled };
  shortest = λ now. let f = both_true new.shortest all now in let s = p.shortest f.0 in (s.0, record { holds = (fits, is f.1); spelled = s.1 });
}

pub extensions_take : (scheme : ℕ) (all : Bool) {start end : Option ℤ} {old one two new : Left} → scheme < 16 → (IsTrue all → scheme ≡ 15) → ConsumesPrefix number scheme old one
    → ConsumesPrefix (there (scheme / 4 == 3) signed) start (noted all one) two → ConsumesPrefix (there (scheme % 4 == 3) signed) end two new
    → ConsumesPrefix extensions_kind (record { start = extension_of (scheme / 4) start; end = extension_of (scheme % 4) end }) old new
extensions_take scheme all fits is k p q = image_takes extensions_of _ _ _ (pair_takes numbers (scheme_takes scheme all fits is k) (pair_takes (λ _. there (scheme % 4 == 3) signed) p q))

-- ---- a path after its id

pub all_given : (info : ℕ) → IsTrue (info == 251) → IsCanonicalPath info
all_given info t = grind arith

pub path_takes : (info : ℕ) (all : Bool) {both : Layers} {width : Option ℕ} {extensions : Option Extensions} {list : Option Polyline} {x y : Option ℤ} {old one two three four five six new : Left}
    → ConsumesByte info old one → has info 4 ≡ false → ConsumesPrefix (layers info) both one two → ConsumesPrefix (there (has info 64) number) width two three
    → ConsumesPrefix (there (has info 128) extensions_kind) extensions three four → ConsumesPrefix (there (has info 32) (points uses.Path)) list four five → ConsumesPrefix (there (has info 16) signed) x five six
    → ConsumesPrefix (there (has info 8) signed) y six new → (IsTrue all → IsCanonicalPath info)
    → ConsumesPath (record { layer = both.0; datatype = both.1; half_width = width; extensions = extensions; points = list; spot = (record { x = x; y = y; repetition = None }) }) old (noted all new)
path_takes info all {list = list} {new = new} took once l w e s p q is = record {
  takes =
      let fields = pair_takes (λ _. pair (there (has info 64) number) (λ _. pair (there (has info 128) extensions_kind) (λ _. pair (there (has info 32) (points uses.Path)) (λ _. spot (has info 16) (has info 8) (has info 4))))) l
      (pair_takes (λ _. pair (there (has info 128) extensions_kind) (λ _. pair (there (has info 32) (points uses.Path)) (λ _. spot (has info 16) (has info 8) (has info 4)))) w
      (pair_takes (λ _. pair (there (has info 32) (points uses.Path)) (λ _. spot (has info 16) (has info 8) (has info 4))) e
      (pair_takes (λ _. spot (has info 16) (has info 8) (has info 4)) s (spot_takes (has info 16) (has info 8) (has info 4) once p q)))) in
      image_takes path_of _ _ _ (info_takes IsPathInfo IsCanonicalPath _ _ path_parts info all took took.small is fields);
  once = refl;
  plain = λ now.
      let with_x = q.shortest (both_true new.shortest all now).0 in
      has_plain uses.Path (has info 32) list s.bytes (s.shortest (p.shortest with_x.0).0).1;
}

-- ---- the whole record

-- id, and what follows it, were taken
pub is_peeked_path : (bytes : List ℕ) (path : OnePath) (all one new : Left) → all.bytes ≡ bytes → ConsumesByte 22 all one → ConsumesPath path one new
    → IsPeekedPath bytes (record { path = path; length = length bytes - length new.bytes; shortest = new.shortest })
is_peeked_path bytes path all one new is first t =
    let e = taken bytes (22 ∷ t.takes.bytes) new.bytes (sym is ∙ first.joined ∙ ap (λ bs. 22 ∷ bs) t.takes.joined) in
    record {
      within = omega arith;
      once = t.once;
      plain = t.plain;
      spelled = λ in_end.
          rw e (record {
            whole = λ e. cc;
            parts = record { front = 22 ∷ []; back = t.takes.bytes; first = one_byte 22 (omega arith); second = record { from = path; is = refl; spelled = t.takes.spelled }; joined = refl };
          });
      shortest = λ now in_end.
          rw e (record {
            whole = λ e. cc;
            parts = record { front = 22 ∷ []; back = t.takes.bytes; first = one_shortest 22 (omega arith); second = record { from = path; is = refl; spelled = (t.takes.shortest now).1 }; joined = refl };
          });
    }
