-- Layouts that are the same have equal cells, and so one listing.
use Rattle.std.proofs.Common.{◌≡◌}
use Rattle.oas_elements.specs.Contents.{expanded}
use Rattle.oas_elements.proofs.SameLemmas.{cells_from_same}
use Rattle.oas_listing.specs.Listing.{listing}
use Rattle.oas_listing.specs.Laws.ListingLaws.{OneListing}

pub one_listing : OneListing
one_listing l k p q alike s =
    let same : l.cells ≡ k.cells = cells_from_same l k alike p q s in
    λ i. listing (record { unit = s.unit i; cells = expanded (same i) })
