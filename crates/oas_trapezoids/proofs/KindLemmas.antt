-- Each kind of a CTRAPEZOID is a TRAPEZOID whose sides lean by a side of its box, or not at all.
use Rattle.std.proofs.Common.{◌≡◌, ℕ, Bool, ◌&&◌, nat_lt, List, ap, ◌∙◌, arith}
use Rattle.std.proofs.Math.Nat.{sub-zero}
use Rattle.std.proofs.lemmas.Bool.Decides.{nat_tests}
use Rattle.oas_trapezoids.specs.declared.corners.Corner.{Corner}
use Rattle.oas_trapezoids.specs.declared.corners.Lean.{Lean}
use Rattle.oas_trapezoids.specs.Corners.{drawn, straight, plus, minus, are_bases, level_of, upright_of, level_drawn, upright_drawn}
use Rattle.oas_trapezoids.specs.Named.{named, corners_of, encloses}

pub drawn_same : (s t : Bool) (c d : List Corner) → s ≡ t → c ≡ d → drawn s c ≡ drawn t d
drawn_same s t c d p q = ap (λ x. drawn x c) p ∙ ap (drawn t) q

pub level_same : (w h : ℕ) (a a' b b' : Lean) → a ≡ a' → b ≡ b' → level_drawn w h a b ≡ level_drawn w h a' b'
level_same w h a a' b b' p q = ap (λ x. level_drawn w h x b) p ∙ ap (level_drawn w h a') q

pub upright_same : (w h : ℕ) (a a' b b' : Lean) → a ≡ a' → b ≡ b' → upright_drawn w h a b ≡ upright_drawn w h a' b'
upright_same w h a a' b b' p q = ap (λ x. upright_drawn w h x b) p ∙ ap (upright_drawn w h a') q

pub kind_0 : (w h : ℕ) → level_drawn w h straight (minus h) ≡ named 0 w h
kind_0 w h =
    drawn_same (nat_lt 0 h && are_bases w straight (minus h)) (encloses 0 w h) (level_of w h straight (minus h)) (corners_of 0 w h) (grind (arith, nat_tests)) (simp sub-zero)

pub kind_1 : (w h : ℕ) → level_drawn w h straight (plus h) ≡ named 1 w h
kind_1 w h =
    drawn_same (nat_lt 0 h && are_bases w straight (plus h)) (encloses 1 w h) (level_of w h straight (plus h)) (corners_of 1 w h) (grind (arith, nat_tests)) (simp sub-zero)

pub kind_2 : (w h : ℕ) → level_drawn w h (plus h) straight ≡ named 2 w h
kind_2 w h =
    drawn_same (nat_lt 0 h && are_bases w (plus h) straight) (encloses 2 w h) (level_of w h (plus h) straight) (corners_of 2 w h) (grind (arith, nat_tests)) (simp sub-zero)

pub kind_3 : (w h : ℕ) → level_drawn w h (minus h) straight ≡ named 3 w h
kind_3 w h =
    drawn_same (nat_lt 0 h && are_bases w (minus h) straight) (encloses 3 w h) (level_of w h (minus h) straight) (corners_of 3 w h) (grind (arith, nat_tests)) (simp sub-zero)

pub kind_4 : (w h : ℕ) → level_drawn w h (plus h) (minus h) ≡ named 4 w h
kind_4 w h =
    drawn_same (nat_lt 0 h && are_bases w (plus h) (minus h)) (encloses 4 w h) (level_of w h (plus h) (minus h)) (corners_of 4 w h) (grind (arith, nat_tests)) (simp sub-zero)

pub kind_5 : (w h : ℕ) → level_drawn w h (minus h) (plus h) ≡ named 5 w h
kind_5 w h =
    drawn_same (nat_lt 0 h && are_bases w (minus h) (plus h)) (encloses 5 w h) (level_of w h (minus h) (plus h)) (corners_of 5 w h) (grind (arith, nat_tests)) (simp sub-zero)

pub kind_6 : (w h : ℕ) → level_drawn w h (plus h) (plus h) ≡ named 6 w h
kind_6 w h =
    drawn_same (nat_lt 0 h && are_bases w (plus h) (plus h)) (encloses 6 w h) (level_of w h (plus h) (plus h)) (corners_of 6 w h) (grind (arith, nat_tests)) (simp sub-zero)

pub kind_7 : (w h : ℕ) → level_drawn w h (minus h) (minus h) ≡ named 7 w h
kind_7 w h =
    drawn_same (nat_lt 0 h && are_bases w (minus h) (minus h)) (encloses 7 w h) (level_of w h (minus h) (minus h)) (corners_of 7 w h) (grind (arith, nat_tests)) (simp sub-zero)

pub kind_8 : (w h : ℕ) → upright_drawn w h straight (plus w) ≡ named 8 w h
kind_8 w h =
    drawn_same (nat_lt 0 w && are_bases h straight (plus w)) (encloses 8 w h) (upright_of w h straight (plus w)) (corners_of 8 w h) (grind (arith, nat_tests)) (simp sub-zero)

pub kind_9 : (w h : ℕ) → upright_drawn w h straight (minus w) ≡ named 9 w h
kind_9 w h =
    drawn_same (nat_lt 0 w && are_bases h straight (minus w)) (encloses 9 w h) (upright_of w h straight (minus w)) (corners_of 9 w h) (grind (arith, nat_tests)) (simp sub-zero)

pub kind_10 : (w h : ℕ) → upright_drawn w h (minus w) straight ≡ named 10 w h
kind_10 w h =
    drawn_same (nat_lt 0 w && are_bases h (minus w) straight) (encloses 10 w h) (upright_of w h (minus w) straight) (corners_of 10 w h) (grind (arith, nat_tests)) (simp sub-zero)

pub kind_11 : (w h : ℕ) → upright_drawn w h (plus w) straight ≡ named 11 w h
kind_11 w h =
    drawn_same (nat_lt 0 w && are_bases h (plus w) straight) (encloses 11 w h) (upright_of w h (plus w) straight) (corners_of 11 w h) (grind (arith, nat_tests)) (simp sub-zero)

pub kind_12 : (w h : ℕ) → upright_drawn w h (minus w) (plus w) ≡ named 12 w h
kind_12 w h =
    drawn_same (nat_lt 0 w && are_bases h (minus w) (plus w)) (encloses 12 w h) (upright_of w h (minus w) (plus w)) (corners_of 12 w h) (grind (arith, nat_tests)) (simp sub-zero)

pub kind_13 : (w h : ℕ) → upright_drawn w h (plus w) (minus w) ≡ named 13 w h
kind_13 w h =
    drawn_same (nat_lt 0 w && are_bases h (plus w) (minus w)) (encloses 13 w h) (upright_of w h (plus w) (minus w)) (corners_of 13 w h) (grind (arith, nat_tests)) (simp sub-zero)

pub kind_14 : (w h : ℕ) → upright_drawn w h (minus w) (minus w) ≡ named 14 w h
kind_14 w h =
    drawn_same (nat_lt 0 w && are_bases h (minus w) (minus w)) (encloses 14 w h) (upright_of w h (minus w) (minus w)) (corners_of 14 w h) (grind (arith, nat_tests)) (simp sub-zero)

pub kind_15 : (w h : ℕ) → upright_drawn w h (plus w) (plus w) ≡ named 15 w h
kind_15 w h =
    drawn_same (nat_lt 0 w && are_bases h (plus w) (plus w)) (encloses 15 w h) (upright_of w h (plus w) (plus w)) (corners_of 15 w h) (grind (arith, nat_tests)) (simp sub-zero)

pub kind_24 : (w h : ℕ) → level_drawn w h straight straight ≡ named 24 w h
kind_24 w h =
    drawn_same (nat_lt 0 h && are_bases w straight straight) (encloses 24 w h) (level_of w h straight straight) (corners_of 24 w h) (grind (arith, nat_tests)) (simp sub-zero)

pub kind_25 : (w h : ℕ) → level_drawn w h straight straight ≡ named 25 w h
kind_25 w h =
    drawn_same (nat_lt 0 h && are_bases w straight straight) (encloses 25 w h) (level_of w h straight straight) (corners_of 25 w h) (grind (arith, nat_tests)) (simp sub-zero)
