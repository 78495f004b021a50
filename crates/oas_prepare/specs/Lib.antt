pub use Rattle.oas_canon.specs.Acceptance
pub use Rattle.oas_canon.specs.Attempts
pub use Rattle.oas_canon.specs.Bytes
pub use Rattle.oas_canon.specs.Canonical
pub use Rattle.oas_canon.specs.CellKeys
pub use Rattle.oas_canon.specs.Deciding as FileDeciding
pub use Rattle.oas_canon.specs.Given as GivenForm
pub use Rattle.oas_canon.specs.Listing
pub use Rattle.oas_canon.specs.Putting
pub use Rattle.oas_canon.specs.ReadGiven
pub use Rattle.oas_canon.specs.Reading
pub use Rattle.oas_canon.specs.Run as CanonRun
pub use Rattle.oas_canon.specs.TheAttempt
pub use Rattle.oas_canon.specs.TheGiven
pub use Rattle.oas_canon.specs.declared.sameness.Which
pub use Rattle.oas_narrow.specs.Dropping
pub use Rattle.oas_narrow.specs.Preparable
pub use Rattle.oas_narrow.specs.Reasons as StandardReasons
pub use Rattle.oas_narrow.specs.Rejections
pub use Rattle.oas_narrow.specs.WideEnd
pub use Rattle.oas_narrow.specs.WideFiles
pub use Rattle.oas_narrow.specs.WideRecord
pub use Rattle.oas_narrow.specs.WideRecords
pub use Rattle.oas_narrow.specs.WideStart
pub use Rattle.oas_narrow.specs.WideWhy
pub use Rattle.oas_narrow.specs.declared.dropping.Dropping as NarrowDropping
pub use Rattle.oas_narrow.specs.declared.dropping.Extra
pub use Rattle.oas_narrow.specs.declared.dropping.Report
pub use Rattle.oas_narrow.specs.declared.places.Place
pub use Rattle.oas_narrow.specs.declared.places.Rejection
pub mod Deciding
pub mod Places
pub mod Taking
pub mod DataReasons
pub mod Reasons
pub mod Run
pub mod Heads
pub mod Gathering
pub mod Inside
pub mod Signing
pub mod Finishing
pub mod Units
pub mod Laws
