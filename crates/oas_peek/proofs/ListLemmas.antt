-- Steps and point lists of any type.
use Rattle.std.proofs.Common.{◌≡◌, ℕ, ℤ, ◌+◌, ◌*◌, ◌/◌, ◌%◌, ◌<◌, Bool, true, false, Option, None, Some, List, [], ◌∷◌, ◌++◌, length, refl, ap, sym, ◌∙◌, append_assoc, append-nil, arith}
use Rattle.std.specs.Prelude.{IsTrue, IfSome, not, pos, ◌==◌, if◌then◌else◌}
use Rattle.std.proofs.lemmas.List.{length_push}
use Rattle.oas_num.specs.Grammar.{IsEach, IsCount, IsThere}
use Rattle.oas_num.specs.Integers.{signed_of}
use Rattle.oas_num.specs.Style.{Style, Any, Shortest, code}
use Rattle.oas_num.specs.Laws.StyleLaws.{signed_of-code}
use Rattle.oas_num.specs.declared.deltas.Delta1.{Delta1}
use Rattle.oas_num.specs.declared.deltas.GDelta.{GDelta}
use Rattle.oas_num.specs.Deltas.{SpellsDelta1, step, delta2_of, delta3_of, gdelta_from}
use Rattle.oas_shape.specs.declared.list_use.ListUse.{ListUse}
use Rattle.oas_shape.specs.declared.list_use.ListUse.TheVariants as uses
use Rattle.oas_shape.specs.ListUses.{IsFitting}
use Rattle.oas_shape.specs.Polylines.{Polyline}
use Rattle.oas_shape.specs.PointLists.{alternating, step2, step3, polyline_of, plain_line, point_list_in}
use Rattle.oas_record.specs.Kinds.{number, signed}
use Rattle.oas_record.specs.Fields.{points}
use Rattle.oas_peek.specs.Fronts.{Left, ConsumesPrefix, noted}
use Rattle.oas_peek.specs.Lists.{ConsumesIn, step2_in, step3_in, stepg_in, steps_in, turns_in, deltas_of}
use Rattle.oas_peek.proofs.FrontLemmas.{both_true}

-- ---- a step

-- one of one number, in a type that the shortest style doesn't have
pub step2_takes : (coded : ℕ) {old new : Left} → ConsumesPrefix number coded old new → ConsumesIn step2_in (step2 (delta2_of coded)) old new
step2_takes coded p = record {
  bytes = p.bytes;
  joined = p.joined;
  spelled = record { from = delta2_of coded; is = refl; spelled = record { from = coded; is = refl; spelled = p.spelled } };
  shortest = λ now. ((p.shortest now).0, record { from = delta2_of coded; is = refl; spelled = record { from = coded; is = refl; spelled = p.spelled } });
}

pub step3_takes : (coded : ℕ) {old new : Left} → ConsumesPrefix number coded old new → ConsumesIn step3_in (step3 (delta3_of coded)) old new
step3_takes coded p = record {
  bytes = p.bytes;
  joined = p.joined;
  spelled = record { from = delta3_of coded; is = refl; spelled = record { from = coded; is = refl; spelled = p.spelled } };
  shortest = λ now. ((p.shortest now).0, record { from = delta3_of coded; is = refl; spelled = record { from = coded; is = refl; spelled = p.spelled } });
}

-- a g-delta of one number, which the shortest style doesn't have
pub short_step : (first : ℕ) {old new : Left} → first % 2 ≡ 0 → ConsumesPrefix number first old new → ConsumesIn stepg_in (gdelta_from first None) old (noted false new)
short_step first {new = new} even p = record {
  bytes = p.bytes;
  joined = p.joined;
  spelled = record {
    from = gdelta_from first None;
    is = refl;
    spelled = record { from = (first, None); is = refl; spelled = record { front = p.bytes; back = []; first = p.spelled; second = rw even refl; joined = sym (append-nil p.bytes) } };
  };
  shortest = λ now. let no = (both_true new.shortest false now).1 in cc;
}

-- one of two numbers, neither of which is minus zero in the shortest style
pub long_step : (first second : ℕ) (least : Bool) {old mid new : Left} → first % 2 ≡ 1 → ConsumesPrefix number first old mid → ConsumesPrefix number second mid new
    → (IsTrue least → (first / 2 ≡ 1 → ⊥) × (second ≡ 1 → ⊥)) → ConsumesIn stepg_in (gdelta_from first (Some second)) old (noted least new)
long_step first second least {new = new} odd p q plain = record {
  bytes = p.bytes ++ q.bytes;
  joined = p.joined ∙ ap (λ t. p.bytes ++ t) q.joined ∙ sym (append_assoc p.bytes q.bytes _);
  spelled = record {
    from = gdelta_from first (Some second);
    is = refl;
    spelled = record { from = (first, Some second); is = refl; spelled = record { front = p.bytes; back = q.bytes; first = p.spelled; second = rw odd q.spelled; joined = refl } };
  };
  shortest = λ now.
      let f = both_true new.shortest least now in
      let s = q.shortest f.0 in
      let t = p.shortest s.0 in
      let x : code (signed_of (first / 2)) ≡ first / 2 = signed_of-code (first / 2) (plain f.1).0 in
      let both : 2 * (first / 2) + 1 ≡ first = omega (arith, odd) in
      (t.0, record { front = p.bytes; back = q.bytes; first = rw (x, both) t.1; second = rw (signed_of-code second (plain f.1).1) s.1; joined = refl });
}

pub not_one : (n : ℕ) → IsTrue (not (n == 1)) → n ≡ 1 → ⊥
not_one n t e = let no : not (n == 1) ≡ false = rw e refl in cc

-- ---- steps one after another

each_push : {V : Type 0} (A : V → List ℕ → Type 0) (vs : List V) (v : V) (a b : List ℕ) → IsEach A vs a → A v b → IsEach A (vs ++ v ∷ []) (a ++ b)
each_push A [] v a b each one = (b, [], one, refl, ap (λ (c : List ℕ). c ++ b) each ∙ sym (append-nil b))
each_push A (w ∷ vs) v a b each one = (each.0, each.1 ++ b, each.2, each_push A vs v each.1 b each.3 one, ap (λ (c : List ℕ). c ++ b) each.4 ∙ append_assoc each.0 each.1 b)

module _ {V : Type 0} (A : Style → V → List ℕ → Type 0) where
  pub none_in : (now : Left) → ConsumesIn (λ style. IsCount (A style) 0) [] now now
  none_in now = record { bytes = []; joined = refl; spelled = record { len = refl; each = refl }; shortest = λ t. (t, record { len = refl; each = refl }) }

  pub one_more : (count : ℕ) (vs : List V) (v : V) {old mid new : Left} → ConsumesIn (λ style. IsCount (A style) count) vs old mid → ConsumesIn A v mid new
      → ConsumesIn (λ style. IsCount (A style) (count + 1)) (vs ++ v ∷ []) old new
  one_more count vs v p q = record {
    bytes = p.bytes ++ q.bytes;
    joined = p.joined ∙ ap (λ t. p.bytes ++ t) q.joined ∙ sym (append_assoc p.bytes q.bytes _);
    spelled = record { len = length_push vs v ∙ ap (λ n. n + 1) p.spelled.len; each = each_push _ vs v p.bytes q.bytes p.spelled.each q.spelled };
    shortest = λ now.
        let s = q.shortest now in
        let t = p.shortest s.0 in
        (t.0, record { len = length_push vs v ∙ ap (λ n. n + 1) t.1.len; each = each_push _ vs v p.bytes q.bytes t.1.each s.1 });
  }

  pub all_taken : (counter count : ℕ) → counter ≡ count → (vs : List V) {old new : Left} → ConsumesIn (λ style. IsCount (A style) counter) vs old new → ConsumesIn (λ style. IsCount (A style) count) vs old new
  all_taken counter count e vs p = rw (sym e) p

-- ---- 1-deltas one after another

-- whether the next one goes along x
abbrev pub turn : Bool → List Delta1 → Bool
turn along_x [] = along_x
turn along_x (d ∷ ds) = turn (not along_x) ds

turn-push : (along_x : Bool) (ds : List Delta1) (d : Delta1) → turn along_x (ds ++ d ∷ []) ≡ not (turn along_x ds)
turn-push along_x [] d = refl
turn-push along_x (e ∷ ds) d = turn-push (not along_x) ds d

alternating-push : (along_x : Bool) (ds : List Delta1) (d : Delta1)
    → alternating along_x (ds ++ d ∷ []) ≡ alternating along_x ds ++ (if turn along_x ds then step d.0 (pos 0) else step (pos 0) d.0) ∷ []
alternating-push along_x [] d = refl
alternating-push along_x (e ∷ ds) d = ap (λ (rest : List GDelta). (if along_x then step e.0 (pos 0) else step (pos 0) e.0) ∷ rest) (alternating-push (not along_x) ds d)

abbrev far_in : Style → Delta1 → List ℕ → Type 0
far_in style = SpellsDelta1

-- these steps were taken as 1-deltas
pub record Alternated (x_first : Bool) (old now : Left) (steps : List GDelta) (along_x : Bool) (count : ℕ) : Type 0 where
  pub deltas : List Delta1
  pub takes : ConsumesIn (λ style. IsCount (far_in style) count) deltas old now
  pub are : steps ≡ alternating x_first deltas
  pub next : along_x ≡ turn x_first deltas

pub alternated_none : (x_first : Bool) (now : Left) → Alternated x_first now now [] x_first 0
alternated_none x_first now = record { deltas = []; takes = none_in far_in now; are = refl; next = refl }

far_takes : (far : ℤ) {old new : Left} → ConsumesPrefix signed far old new → ConsumesIn far_in (record { 0 = far }) old new
far_takes far p = record { bytes = p.bytes; joined = p.joined; spelled = p.spelled; shortest = λ now. ((p.shortest now).0, p.spelled) }

pub alternated_more : {x_first : Bool} {old mid new : Left} {steps : List GDelta} {along_x : Bool} {count : ℕ} (far : ℤ) {next : GDelta}
    → Alternated x_first old mid steps along_x count → ConsumesPrefix signed far mid new → next ≡ (if along_x then step far (pos 0) else step (pos 0) far)
    → Alternated x_first old new (steps ++ next ∷ []) (not along_x) (count + 1)
alternated_more {x_first = x_first} {steps = steps} {along_x = along_x} {count = count} far {next = next} a p is =
    let delta : Delta1 = record { 0 = far } in
    record {
      deltas = a.deltas ++ delta ∷ [];
      takes = one_more far_in count a.deltas delta a.takes (far_takes far p);
      are = let e = alternating-push x_first a.deltas delta in let f = a.are in let g = a.next in cc;
      next = ap not a.next ∙ sym (turn-push x_first a.deltas delta);
    }

pub alternated_all : {x_first : Bool} {old new : Left} {steps : List GDelta} {along_x : Bool} (counter count : ℕ) → counter ≡ count → Alternated x_first old new steps along_x counter
    → ConsumesIn (turns_in x_first count) steps old new
alternated_all counter count e a = record {
  bytes = a.takes.bytes;
  joined = a.takes.joined;
  spelled = record { from = a.deltas; is = sym a.are; spelled = rw (sym e) a.takes.spelled };
  shortest = λ now. ((a.takes.shortest now).0, record { from = a.deltas; is = sym a.are; spelled = rw (sym e) a.takes.spelled });
}

-- ---- deltas of each type

-- what follows for the value that is returned, if one is
pub if_some : {T : Type 0} {A B : T → Type 0} → ((t : T) → A t → B t) → (r : Option T) → IfSome r A → IfSome r B
if_some f None h = h
if_some f (Some t) h = f t h

module _ (kind count : ℕ) {steps : List GDelta} {old new : Left} where
  other_kind : (is : kind ≡ 4 → ⊥) {A : Style → List GDelta → List ℕ → Type 0} → ((bytes : List ℕ) → A Any steps bytes → deltas_of kind count Any steps bytes) → ConsumesIn A steps old new
      → ConsumesIn (deltas_of kind count) steps old new
  other_kind is same p = record { bytes = p.bytes; joined = p.joined; spelled = same p.bytes p.spelled; shortest = λ now. ((p.shortest now).0, λ e. absurd (is e)) }

  pub turns_x : kind ≡ 0 → ConsumesIn (turns_in true count) steps old new → ConsumesIn (deltas_of kind count) steps old new
  turns_x e p = other_kind (λ f. omega (arith, e, f)) (λ bytes h. rw e h) p

  pub turns_y : kind ≡ 1 → ConsumesIn (turns_in false count) steps old new → ConsumesIn (deltas_of kind count) steps old new
  turns_y e p = other_kind (λ f. omega (arith, e, f)) (λ bytes h. rw e h) p

  pub steps_2 : kind ≡ 2 → ConsumesIn (steps_in step2_in count) steps old new → ConsumesIn (deltas_of kind count) steps old new
  steps_2 e p = other_kind (λ f. omega (arith, e, f)) (λ bytes h. rw e h) p

  pub steps_3 : kind ≡ 3 → ConsumesIn (steps_in step3_in count) steps old new → ConsumesIn (deltas_of kind count) steps old new
  steps_3 e p = other_kind (λ f. omega (arith, e, f)) (λ bytes h. rw e h) p

  pub steps_g : (kind == 0) ≡ false → (kind == 1) ≡ false → (kind == 2) ≡ false → (kind == 3) ≡ false → ConsumesIn (steps_in stepg_in count) steps old new
      → ConsumesIn (deltas_of kind count) steps old new
  steps_g a b c d p = record { bytes = p.bytes; joined = p.joined; spelled = rw (a, b, c, d) p.spelled; shortest = λ now. ((p.shortest now).0, λ e. (p.shortest now).1) }

-- ---- a point list

-- one of type 4 is the list of its steps, whatever its use
is_line : (purpose : ListUse) (kind count : ℕ) (steps : List GDelta) → kind ≡ 4 → polyline_of purpose (kind, (count, steps)) ≡ plain_line steps
is_line uses.Polygon kind count steps e = rw e refl
is_line uses.Path kind count steps e = rw e refl

is_four : (kind : ℕ) → IsTrue (kind == 4) → kind ≡ 4
is_four kind t = grind arith

pub line_takes : (purpose : ListUse) (kind count : ℕ) (steps : List GDelta) {old one two new : Left} → ConsumesPrefix number kind old one → kind < 6
    → ConsumesPrefix number count (noted (kind == 4) one) two → IsFitting purpose kind count → ConsumesIn (deltas_of kind count) steps two new
    → ConsumesPrefix (points purpose) (polyline_of purpose (kind, (length steps, steps))) old new
line_takes purpose kind count steps {one = one} {new = new} k least n fits s = record {
  bytes = k.bytes ++ (n.bytes ++ s.bytes);
  joined = k.joined ∙ ap (λ t. k.bytes ++ t) (n.joined ∙ ap (λ t. n.bytes ++ t) s.joined ∙ sym (append_assoc n.bytes s.bytes new.bytes)) ∙ sym (append_assoc k.bytes (n.bytes ++ s.bytes) new.bytes);
  spelled = record {
    from = (kind, (count, steps));
    is = refl;
    spelled = record {
      front = k.bytes;
      back = n.bytes ++ s.bytes;
      first = record { holds = least; spelled = k.spelled };
      second = record { front = n.bytes; back = s.bytes; first = record { holds = fits; spelled = n.spelled }; second = s.spelled; joined = refl };
      joined = refl;
    };
  };
  shortest = λ now.
      let c = s.shortest now in
      let b = n.shortest c.0 in
      let f = both_true one.shortest (kind == 4) b.0 in
      let four : kind ≡ 4 = is_four kind f.1 in
      let a = k.shortest f.0 in
      let each = c.1 four in (
        a.0,
        record {
          plain = is_line purpose kind (length steps) steps four;
          fits = rw each.len (rw four at fits);
          spelled = record {
            front = k.bytes;
            back = n.bytes ++ s.bytes;
            first = rw four at a.1;
            second = record { front = n.bytes; back = s.bytes; first = rw each.len b.1; second = record { len = refl; each = each.each }; joined = refl };
            joined = refl;
          };
        },
      );
}

-- in the shortest style it has type 4
pub has_plain : (purpose : ListUse) (here : Bool) (list : Option Polyline) (bytes : List ℕ) → IsThere here (point_list_in Shortest purpose) list bytes
    → (line : Polyline) → list ≡ Some line → line ≡ plain_line line.deltas
has_plain purpose true (Some given) bytes t line e = let same : given ≡ line = cc in rw same at t.plain
has_plain purpose true None bytes t line e = absurd t
has_plain purpose false (Some given) bytes t line e = absurd t
has_plain purpose false None bytes t line e = cc
