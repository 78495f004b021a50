-- The canonical bytes of a layout.
use Rattle.std.proofs.Common.{◌+◌, ◌*◌, ◌≤◌, length}
use Rattle.oas_elements.specs.Meaning.{cells_weight}
use Rattle.oas_elements.specs.Contents.{Contents, expanded, meaning_of, IsLayout}
use Rattle.oas_listing.specs.Acceptance.{Means}
use Rattle.oas_listing.specs.Bytes.{canonical_bytes}
use Rattle.oas_listing.specs.Canonical.{CanonicalForm}
use Rattle.oas_writing.proofs.ElementLemmas.{cells_points}
use Rattle.oas_listing.proofs.FileLengths.{canonical_length}
use Rattle.oas_listing.proofs.Written.{canonical_form}

pub layout_form : (l : Contents) → IsLayout l → CanonicalForm l.limits l.profile (canonical_bytes (meaning_of l))
layout_form l h = (canonical_form l h).0

pub layout_means : (l : Contents) → IsLayout l → Means (canonical_bytes (meaning_of l)) (meaning_of l)
layout_means l h = (canonical_form l h).1

pub layout_short : (l : Contents) → IsLayout l → length (canonical_bytes (meaning_of l)) ≤ 320 + 64 * cells_weight (expanded l.cells)
layout_short l h = canonical_length (meaning_of l) (cells_points l.profile l.cells h.cells)
