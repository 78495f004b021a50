-- one more record
use Rattle.std.proofs.Common.{◌≡◌, List, [], ◌∷◌, ◌++◌, reverse, refl, ◌∙◌, ap, arith, Bool, true, false}
use Rattle.std.proofs.lemmas.Int.{ints}
use Rattle.std.proofs.lemmas.List.{reverse-append}
use Rattle.std.specs.Prelude.{ℤ, pos, ◌+ℤ◌, Option, None, Some, cond, unwrap_or, is_some}
use Rattle.std.specs.Option.{option_or}
use Rattle.oas_record.specs.declared.spots.Spot.{Spot}
use Rattle.oas_record.specs.declared.records.Record.{Record}
use Rattle.oas_drawing.specs.declared.positions.Position.{Position}
use Rattle.oas_drawing.specs.Looking.{is_cell, latest, sum_since, plus_given}
use Rattle.oas_drawing.specs.GivenFields.{GivenFields, given_fields}
use Rattle.oas_drawing.specs.Values.{field, new_repetition, start_number, end_number, is_relative}
use Rattle.oas_drawing.specs.Positions.{if_absolute, if_relative, sets, shifts, coordinate, position}
use Rattle.oas_drawing.specs.Modal.{ModalState, modal_of, fresh, moved, moved_by, given, stepped}

-- where one more coordinate leads, from the latest one that was set and the sum since
landed : (relative : Bool) (given base : Option ℤ) (sum : ℤ) → unwrap_or (option_or (if_absolute relative given) base) (pos 0) +ℤ cond
    (is_some (if_absolute relative given)) (pos 0) (plus_given sum (if_relative relative given)) ≡ moved relative (unwrap_or base (pos 0) +ℤ sum)
    given
landed relative None base sum = refl
landed true (Some z) base sum = omega (arith, ints)
landed false (Some z) base sum = omega (arith, ints)

-- a coordinate after one more record, by what it gives
abbrev after : (GivenFields → Option ℤ) → List Record → Option ℤ → ℤ
after of rs given =
    unwrap_or (option_or (if_absolute (is_relative rs) given) (latest (sets of) rs)) (pos 0) +ℤ
    cond (is_some (if_absolute (is_relative rs) given)) (pos 0) (plus_given (sum_since (sets of) (shifts of) rs) (if_relative (is_relative rs) given))

moves : (of : GivenFields → Option ℤ) (given : Option ℤ) (rs : List Record) → after of rs given ≡ moved (is_relative rs) (coordinate of rs) given
moves of given rs = landed (is_relative rs) given (latest (sets of) rs) (sum_since (sets of) (shifts of) rs)

at_place : (of : GivenFields → Spot) (g : GivenFields) (rs : List Record)
    → ◌≡◌ {A = Position} (record { x = after (λ h. (of h).x) rs (of g).x; y = after (λ h. (of h).y) rs (of g).y }) (moved_by (is_relative rs) (position of rs) (of g))
at_place of g rs i = record { x = moves (λ h. (of h).x) (of g).x rs i; y = moves (λ h. (of h).y) (of g).y rs i }

-- looking back past one more record, which is a CELL or not and gives this
abbrev past : {A : Type 0} → Bool → Option A → Option A → Option A
past cell given earlier = cond cell None (option_or given earlier)

abbrev past_place : Bool → (GivenFields → Option ℤ) → List Record → Option ℤ → ℤ
past_place cell of rs given =
    unwrap_or (past cell (if_absolute (is_relative rs) given) (latest (sets of) rs)) (pos 0) +ℤ
    cond cell (pos 0) (cond (is_some (if_absolute (is_relative rs) given)) (pos 0) (plus_given (sum_since (sets of) (shifts of) rs) (if_relative (is_relative rs) given)))

abbrev past_position : Bool → (GivenFields → Spot) → List Record → GivenFields → Position
past_position cell of rs g = record { x = past_place cell (λ h. (of h).x) rs (of g).x; y = past_place cell (λ h. (of h).y) rs (of g).y }

-- the variables after a record, by whether it is a CELL and by what it gives
abbrev after_one : List Record → Bool → GivenFields → ModalState
after_one rs cell g =
    let s = modal_of rs in
    let half_width = past cell g.half_width s.half_width in
    record {
      repetition = past cell (new_repetition g.repetition) s.repetition;
      cell = past cell g.cell s.cell;
      string = past cell g.string s.string;
      textlayer = past cell g.textlayer s.textlayer;
      texttype = past cell g.texttype s.texttype;
      layer = past cell g.layer s.layer;
      datatype = past cell g.datatype s.datatype;
      width = past cell g.width s.width;
      height = past cell (cond g.square (past cell g.width s.width) g.height) s.height;
      polygon_points = past cell g.polygon_points s.polygon_points;
      path_points = past cell g.path_points s.path_points;
      half_width = half_width;
      start = past cell (start_number half_width g.extensions) s.start;
      end = past cell (end_number half_width g.extensions) s.end;
      radius = past cell g.radius s.radius;
      relative = unwrap_or (past cell g.relative (latest (field (λ h. h.relative)) rs)) false;
      placement = past_position cell (λ h. h.placement) rs g;
      text = past_position cell (λ h. h.text) rs g;
      geometry = past_position cell (λ h. h.geometry) rs g;
    }

either_mode : (given earlier : Option Bool) → unwrap_or (option_or given earlier) false ≡ unwrap_or given (unwrap_or earlier false)
either_mode None earlier = refl
either_mode (Some b) earlier = refl

one_step : (rs : List Record) (cell : Bool) (g : GivenFields) → after_one rs cell g ≡ cond cell fresh (given (modal_of rs) g)
one_step rs true g = refl
one_step rs false g =
    λ i. record (given (modal_of rs) g) {
      relative = either_mode g.relative (latest (field (λ h. h.relative)) rs) i;
      placement = at_place (λ h. h.placement) g rs i;
      text = at_place (λ h. h.text) g rs i;
      geometry = at_place (λ h. h.geometry) g rs i;
    }

pub modal_step : (rs : List Record) (r : Record) → modal_of (r ∷ rs) ≡ stepped (modal_of rs) r
modal_step rs r = one_step rs (is_cell r) (given_fields r)

pub modal_last : (rs : List Record) (r : Record) → modal_of (reverse (rs ++ r ∷ [])) ≡ stepped (modal_of (reverse rs)) r
modal_last rs r = ap modal_of (reverse-append rs (r ∷ [])) ∙ modal_step (reverse rs) r
