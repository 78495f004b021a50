-- What follows of a room that is filled.
use Rattle.std.proofs.Common.{[], append-nil}
use Rattle.oascanon_c.specs.declared.filling.Filler.{Filler}
use Rattle.oascanon_c.specs.Filling.{Fills}

-- if nothing was put, nothing was given
pub Fills-none : (s : Filler) → Fills s [] s
Fills-none s = record { same = λ i. s.room.ghost_name; puts = λ start before h. rw append-nil h }
