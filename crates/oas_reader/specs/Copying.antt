-- The first copies of an element record, one after another, and place by place.
use Rattle.std.specs.Prelude.{ℕ, ◌*◌, Bool, List, [], ◌∷◌, ◌++◌, map, replicate, Option, None, Some}
use Rattle.std.specs.List.{range_with_len}
use Rattle.std.specs.Option.{option_to_list}
use Rattle.oas_num.specs.declared.deltas.GDelta.{GDelta}
use Rattle.oas_shape.specs.declared.places.Places.{Places}
use Rattle.oas_drawing.specs.declared.drawn.Drawn.{Drawn}
use Rattle.oas_drawing.specs.declared.kinds.Kind.{Kind}
use Rattle.oas_drawing.specs.Modal.{ModalState}
use Rattle.oas_drawing.specs.Drawing.{drawn_by, offset_if}

-- the elements of a kind at each of the offsets
abbrev pub copies_by : ModalState → Kind → List GDelta → List Drawn
copies_by m kind [] = []
copies_by m kind (d ∷ ds) = option_to_list (drawn_by m kind d) ++ copies_by m kind ds

-- the first n copies
abbrev pub first_copies : ModalState → Kind → Bool → ℕ → List Drawn
first_copies m kind repeated n = copies_by m kind (map (offset_if repeated m.repetition) (range_with_len 0 n))

-- an element this many times, where it is one
abbrev pub drawn_times : ℕ → Option Drawn → List Drawn
drawn_times n None = []
drawn_times n (Some d) = replicate n d

-- this many copies at each of the offsets
abbrev pub stacks_by : ModalState → Kind → ℕ → List GDelta → List Drawn
stacks_by m kind n [] = []
stacks_by m kind n (d ∷ ds) = drawn_times n (drawn_by m kind d) ++ stacks_by m kind n ds

-- where the places are
abbrev pub place_offset : ModalState → Bool → Places → ℕ → GDelta
place_offset m repeated p j = offset_if repeated m.repetition (j * p.stride)

-- the copies on the first n places
abbrev pub first_stacks : ModalState → Kind → Bool → Places → ℕ → List Drawn
first_stacks m kind repeated p n = stacks_by m kind p.copies (map (place_offset m repeated p) (range_with_len 0 n))
