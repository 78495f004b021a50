use Rattle.oas_elements.proofs.LawProofs.{test, kept_same, kept_equal, kept_kept, kept_polygons}
use Rattle.oas_elements.proofs.laws.kept_forms.Goals as goal

pub returns : goal.returns
returns c = record { test = test; same = kept_same; equal = kept_equal; kept = kept_kept; polygons = kept_polygons }
