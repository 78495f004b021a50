-- The law of listings, as a statement.
use Rattle.std.specs.Prelude.{◌≡◌}
use Rattle.oas_elements.specs.Meaning.{SameLayout}
use Rattle.oas_elements.specs.Contents.{Contents, IsLayout, meaning_of}
use Rattle.oas_listing.specs.Listing.{listing}

-- layouts that are the same have one listing
abbrev pub OneListing : Type 0
OneListing = (l k : Contents) → IsLayout l → IsLayout k → l.profile ≡ k.profile → SameLayout l.profile (meaning_of l) (meaning_of k) → listing (meaning_of l) ≡ listing (meaning_of k)
