use Rattle.oas_drawing.proofs.Copies.{refused_before, refused_at, allowed_all}
use Rattle.oas_drawing.proofs.laws.refused_copy_by_copy.Goals as goal

pub returns : goal.returns
returns c = record { before = refused_before; copy = refused_at; none = allowed_all }
