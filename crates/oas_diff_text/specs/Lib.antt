pub use Rattle.oas_listing.specs.Held
pub use Rattle.oas_listing.specs.Shown
pub mod Microns
pub mod Fields
pub mod Entries
