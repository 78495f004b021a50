pub use Rattle.oas_listing.proofs.AllKinds
pub use Rattle.oas_listing.proofs.DrawnSound
pub use Rattle.oas_listing.proofs.DrawsSound
pub use Rattle.oas_listing.proofs.ElementSeries
pub use Rattle.oas_listing.proofs.Ending
pub use Rattle.oas_listing.proofs.FieldsGiven
pub use Rattle.oas_listing.proofs.Forms
pub use Rattle.oas_listing.proofs.Fronts
pub use Rattle.oas_listing.proofs.Grids
pub use Rattle.oas_listing.proofs.Held
pub use Rattle.oas_listing.proofs.JudgeBytes
pub use Rattle.oas_listing.proofs.JudgeMatches
pub use Rattle.oas_listing.proofs.JudgeRecords
pub use Rattle.oas_listing.proofs.Judged
pub use Rattle.oas_listing.proofs.KindLemmas
pub use Rattle.oas_listing.proofs.MeantLemmas
pub use Rattle.oas_listing.proofs.Refusing
pub use Rattle.oas_listing.proofs.Rekeying
pub use Rattle.oas_listing.proofs.SomePlaces
pub use Rattle.oas_listing.proofs.Steps
pub use Rattle.oas_listing.proofs.Taking
pub use Rattle.oas_listing.proofs.Written
pub mod ElementLemmas
pub mod LayoutForms
mod PointLemmas
mod RepeatLemmas
mod CellLemmas
mod AloneLemmas
