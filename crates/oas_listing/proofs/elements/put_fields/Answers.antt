use Rattle.std.proofs.Common.{rules, ap, w64}
use Rattle.std.proofs.lemmas.Int.{to_z-of_z}
use Rattle.oas_layout.specs.Shown.{element_of}
use Rattle.oas_listing.proofs.elements.put_fields.Goals as goal

pub returns-in-Path : goal.returns-in-Path
returns-in-Path g c = rw (ap element_of c.in-Path.is) (simp (to_z-of_z w64 c.in-Path.start (search rules), to_z-of_z w64 c.in-Path.end (search rules)) at c.put_path.ensures)
