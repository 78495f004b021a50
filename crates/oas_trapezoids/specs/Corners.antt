-- Corners, and what two parallel sides enclose.
use Rattle.std.specs.Prelude.{ℕ, ◌+◌, ◌-◌, Bool, ◌&&◌, not, ◌==◌, nat_lt, nat_le, Option, Some, None, List, [], ◌∷◌, if◌then◌else◌}
use Rattle.oas_trapezoids.specs.declared.corners.Corner.{Corner}
use Rattle.oas_trapezoids.specs.declared.corners.Corners.{Corners}
use Rattle.oas_trapezoids.specs.declared.corners.Bases.{Bases}
use Rattle.oas_trapezoids.specs.declared.corners.Corners.TheVariants.{Triangle, Quadrangle}
use Rattle.oas_trapezoids.specs.declared.corners.Lean.{Lean}

abbrev pub corner : ℕ → ℕ → Corner
corner x y = record { x = x; y = y }

abbrev pub listed : Corners → List Corner
listed (Triangle corners) = corners
listed (Quadrangle corners) = corners

abbrev pub is_same : Corner → Corner → Bool
is_same c d = (c.x == d.x) && (c.y == d.y)

-- of four corners, two successive ones at the same place are one
abbrev pub merged : List Corner → List Corner
merged (a ∷ b ∷ c ∷ d ∷ []) =
    if is_same a b then b ∷ c ∷ d ∷ []
    else if is_same b c then a ∷ c ∷ d ∷ []
    else if is_same c d then a ∷ b ∷ d ∷ []
    else if is_same d a then a ∷ b ∷ c ∷ []
    else a ∷ b ∷ c ∷ d ∷ []
merged corners = corners

-- what is drawn, if anything is
abbrev pub drawn : Bool → List Corner → Option (List Corner)
drawn is_drawn corners = if is_drawn then Some (merged corners) else None

-- how far a side leans: without a delta, with one above 0, or with one below
abbrev pub straight : Lean
straight = record { plus = 0; minus = 0 }

abbrev pub plus : ℕ → Lean
plus n = record { plus = n; minus = 0 }

abbrev pub minus : ℕ → Lean
minus n = record { plus = 0; minus = n }

-- two parallel sides along a box: neither ends before it begins, and at least one has a length
abbrev pub are_bases : ℕ → Lean → Lean → Bool
are_bases along a b =
    (nat_le (a.plus + b.minus) along && nat_le (a.minus + b.plus) along)
    && not ((a.plus + b.minus == along) && (a.minus + b.plus == along))

abbrev pub bases : ℕ → Lean → Lean → Bases
bases along a b = record { near = (a.minus, along - b.plus); far = (a.plus, along - b.minus) }

-- a lower and an upper side: a leans the left side, b the right one
abbrev pub level_of : ℕ → ℕ → Lean → Lean → List Corner
level_of w h a b = corner a.minus 0 ∷ corner a.plus h ∷ corner (w - b.minus) h ∷ corner (w - b.plus) 0 ∷ []

-- a left and a right side: a leans the lower side, b the upper one
abbrev pub upright_of : ℕ → ℕ → Lean → Lean → List Corner
upright_of w h a b = corner 0 a.plus ∷ corner 0 (h - b.minus) ∷ corner w (h - b.plus) ∷ corner w a.minus ∷ []

-- what they enclose, if they are apart
abbrev pub level_drawn : ℕ → ℕ → Lean → Lean → Option (List Corner)
level_drawn w h a b = drawn (nat_lt 0 h && are_bases w a b) (level_of w h a b)

abbrev pub upright_drawn : ℕ → ℕ → Lean → Lean → Option (List Corner)
upright_drawn w h a b = drawn (nat_lt 0 w && are_bases h a b) (upright_of w h a b)
