-- What is drawn, ascending, each with its count.
use Rattle.std.specs.Prelude.{ℕ, ◌<◌, List, unwrap_or}
use Rattle.std.specs.List.{AllByRecursion}
use Rattle.std.specs.List.Sorted.{IsStrictlySortedBy}
use Rattle.std.specs.Map.{lookup, keys_of}
use Rattle.std.specs.BTreeMap.{is_at}
use Rattle.oas_elements.specs.Bag.{put_more}
use Rattle.oas_drawing.specs.declared.drawn.Drawn.{Drawn}
use Rattle.oas_drawing.specs.Drawn.{drawn_cmp}

-- how often something is drawn
abbrev pub times_drawn : List (Drawn × ℕ) → Drawn → ℕ
times_drawn ds d = unwrap_or (lookup (is_at (drawn_cmp d)) ds) 0

-- d is drawn n more times
abbrev pub with_drawn : List (Drawn × ℕ) → Drawn → ℕ → List (Drawn × ℕ)
with_drawn ds d n = put_more drawn_cmp ds d n

-- it strictly ascends, and each is drawn at least once
pub record IsHeld (ds : List (Drawn × ℕ)) : Type 0 where
  pub ascending : IsStrictlySortedBy drawn_cmp (keys_of ds)
  pub positive : AllByRecursion (λ p. 0 < p.1) ds
