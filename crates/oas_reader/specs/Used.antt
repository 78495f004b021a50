-- How often the numbers of names are used, where some are counted in a table.
use Rattle.std.specs.Prelude.{ℕ, zero, suc, ◌+◌, List, [], ◌∷◌}
use Rattle.std.specs.Ordering.{nat_cmp}
use Rattle.oas_elements.specs.Bag.{put_more}

-- a number used this many times more, if at all
abbrev pub with_uses : ℕ → ℕ → List (ℕ × ℕ) → List (ℕ × ℕ)
with_uses n zero es = es
with_uses n (suc t) es = put_more nat_cmp es n (suc t)

-- the numbers n, n + 1, .. used as often more as a table says
abbrev pub with_table : ℕ → List ℕ → List (ℕ × ℕ) → List (ℕ × ℕ)
with_table n [] es = es
with_table n (t ∷ ts) es = with_uses n t (with_table (n + 1) ts es)
