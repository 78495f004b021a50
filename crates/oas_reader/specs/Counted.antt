-- What is counted of a CELL, where none of its elements is kept.
use Rattle.std.specs.Prelude.{◌≡◌, ℕ, ◌+◌, ◌*◌, ◌≤◌, List, sum_by, Option, Some}
use Rattle.std.specs.List.Sorted.{IsStrictlySortedBy}
use Rattle.std.specs.Map.{keys_of}
use Rattle.std.specs.Ordering.{nat_cmp}
use Rattle.oas_record.specs.declared.references.CellRef.{CellRef}
use Rattle.oas_elements.specs.Bag.{put_more}
use Rattle.oas_elements.specs.Laws.BagLaws.{total}
use Rattle.oas_drawing.specs.declared.drawn.Drawn.{Drawn}
use Rattle.oas_drawing.specs.declared.drawn.Drawn.TheVariants.{Named, PlacementBy, TextBy}
use Rattle.oas_drawing.specs.declared.tally.Tally.{Tally}
use Rattle.oas_drawing.specs.declared.tally.UsedNumber.{UsedNumber}
use Rattle.oas_drawing.specs.declared.tally.UsedNumber.TheVariants.{Nothing, Cell, Text}
use Rattle.oas_drawing.specs.Drawn.{weight_so_far}
use Rattle.oas_reader.specs.References.{cell_by}
use Rattle.oas_reader.specs.Weights.{AllUsed, capped, joined, names_weight, head_weight}
use Rattle.oas_reader.specs.Stores.{Store}

-- its reference, how many elements its records draw, their weight as long as numbers have no names, and how often each number
-- is placed, and written
pub record Counted : Type 0 where
  pub cell : CellRef
  pub count : ℕ
  pub weight : ℕ
  pub placed : List (ℕ × ℕ)
  pub written : List (ℕ × ℕ)

-- what a number counts for, where a cell is placed by it
abbrev pub placed_by : (ℕ → ℕ) → Drawn → ℕ
placed_by f (Named e) = 0
placed_by f (PlacementBy number x y turns flip) = f number
placed_by f (TextBy number textlayer texttype x y) = 0

-- what a number counts for, where a text string is written by it
abbrev pub written_by : (ℕ → ℕ) → Drawn → ℕ
written_by f (Named e) = 0
written_by f (PlacementBy number x y turns flip) = 0
written_by f (TextBy number textlayer texttype x y) = f number

-- these were counted: whatever each number counts for, the sums are equal
pub record CountsThese (c : Counted) (ds : List Drawn) : Type 0 where
  pub weight : c.weight ≡ capped (sum_by weight_so_far ds)
  pub placed : (f : ℕ → ℕ) → total f c.placed ≡ sum_by (placed_by f) ds
  pub written : (f : ℕ → ℕ) → total f c.written ≡ sum_by (written_by f) ds

-- what is counted of a cell: it represents all lists in which each number is used as often, and that weigh as much
abbrev pub counted_store : Store Counted
counted_store = record {
  cell = λ c. c.cell;
  count = λ c. c.count;
  IsSound = λ c. AllUsed c.placed × AllUsed c.written;
  Holds = CountsThese;
}

-- the numbers ascend, and none is used more often than there are elements
pub record IsTold (count : ℕ) (ps : List (ℕ × ℕ)) : Type 0 where
  pub ascending : IsStrictlySortedBy nat_cmp (keys_of ps)
  pub few : total (λ _. 1) ps ≤ count

-- n more placements
abbrev pub placed_more : UsedNumber → ℕ → List (ℕ × ℕ) → List (ℕ × ℕ)
placed_more Nothing n ps = ps
placed_more (Cell number) n ps = put_more nat_cmp ps number n
placed_more (Text number) n ps = ps

-- n more texts
abbrev pub written_more : UsedNumber → ℕ → List (ℕ × ℕ) → List (ℕ × ℕ)
written_more Nothing n ps = ps
written_more (Cell number) n ps = ps
written_more (Text number) n ps = put_more nat_cmp ps number n

-- something that counts for this is drawn n more times
abbrev pub counted_more : Counted → Tally → ℕ → Counted
counted_more c t n =
    record {
      cell = c.cell;
      count = c.count + n;
      weight = capped (c.weight + capped (t.weight * n));
      placed = placed_more t.used n c.placed;
      written = written_more t.used n c.written;
    }

-- the weight of a cell with all names; None where a number has no name
abbrev pub counted_weight : List (ℕ × List ℕ) → List (ℕ × List ℕ) → Counted → Option ℕ
counted_weight names strings c = joined (head_weight (cell_by names c.cell)) (joined (Some c.weight) (joined (names_weight names c.placed) (names_weight strings c.written)))
