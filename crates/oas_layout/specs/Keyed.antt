-- Elements and cells as keys.
use Rattle.std.specs.Prelude.{ℕ, List, [], ◌∷◌}
use Rattle.oas_elements.specs.declared.element.Element.{Element}
use Rattle.oas_elements.specs.Contents.{Cell}
use Rattle.oas_cells.specs.Keys.{key_of}
use Rattle.oas_runs.specs.Entries.{Entry}

-- elements as their keys, each with its count
abbrev pub keyed : List (Element × ℕ) → List Entry
keyed [] = []
keyed (p ∷ ps) = (key_of p.0, p.1) ∷ keyed ps

-- cells by their names, the elements of each as keys
abbrev pub keyed_cells : List Cell → List (List ℕ × List Entry)
keyed_cells [] = []
keyed_cells (c ∷ cs) = (c.0, keyed c.1) ∷ keyed_cells cs
