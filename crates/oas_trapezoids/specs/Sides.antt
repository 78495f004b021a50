-- The box of a CTRAPEZOID (SEMI P39, CTRAPEZOID record).
use Rattle.std.specs.Prelude.{◌≡◌, ℕ, ◌*◌, ◌^◌, ◌≤◌, Bool, ◌||◌, ◌&&◌, ◌==◌, nat_lt, nat_le, Option, Some, None, Result, Ok, Err, IfSome, IsSomeAnd, ◌⊎◌, if◌then◌else◌}
use Rattle.oas_trapezoids.specs.declared.sides.Sides.{Sides}
use Rattle.oas_trapezoids.specs.declared.sides.Unsided.{Unsided}
use Rattle.oas_trapezoids.specs.declared.sides.Unsided.TheVariants.{Undefined, TooLong}

-- the kinds whose height is their width, or twice it, and those whose width is twice their height
abbrev pub is_square : ℕ → Bool
is_square kind = (nat_le 16 kind && nat_lt kind 20) || (kind == 25)

abbrev pub is_high : ℕ → Bool
is_high kind = nat_le 22 kind && nat_lt kind 24

abbrev pub is_wide : ℕ → Bool
is_wide kind = nat_le 20 kind && nat_lt kind 22

abbrev pub sides : ℕ → ℕ → Sides
sides w h = record { width = w; height = h }

-- a box with one side that is a multiple of the other
abbrev pub by_width : ℕ → Option ℕ → Option Sides
by_width times None = None
by_width times (Some w) = Some (sides w (times * w))

abbrev pub by_height : ℕ → Option ℕ → Option Sides
by_height times None = None
by_height times (Some h) = Some (sides (times * h) h)

abbrev pub by_both : Option ℕ → Option ℕ → Option Sides
by_both (Some w) (Some h) = Some (sides w h)
by_both _ _ = None

-- the box of a kind; none where a side that it needs is undefined
abbrev pub box_of : ℕ → Option ℕ → Option ℕ → Option Sides
box_of kind w h =
    if is_square kind then by_width 1 w
    else if is_high kind then by_width 2 w
    else if is_wide kind then by_height 2 h
    else by_both w h

-- a side is too long for 64 bits
abbrev pub IsTooLong : Sides → Type 0
IsTooLong s = (2 ^ 64 ≤ s.width) ⊎ (2 ^ 64 ≤ s.height)

abbrev pub IsSides : ℕ → Option ℕ → Option ℕ → Result Sides Unsided → Type 0
IsSides kind w h (Ok s) = box_of kind w h ≡ Some s
IsSides kind w h (Err Undefined) = box_of kind w h ≡ None
IsSides kind w h (Err TooLong) = IsSomeAnd (box_of kind w h) (λ s. IsTooLong s)

-- a given side is that of the box
abbrev pub Agree : Sides → Option ℕ → Option ℕ → Type 0
Agree s w h = IfSome w (λ w. w ≡ s.width) × IfSome h (λ h. h ≡ s.height)
