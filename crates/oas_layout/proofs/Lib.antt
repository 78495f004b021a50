pub use Rattle.oas_form.proofs.AllKinds
pub use Rattle.oas_form.proofs.ComparingLemmas
pub use Rattle.oas_form.proofs.DrawnSound
pub use Rattle.oas_form.proofs.DrawsSound
pub use Rattle.oas_form.proofs.ElementSeries
pub use Rattle.oas_form.proofs.Ending
pub use Rattle.oas_form.proofs.FieldsGiven
pub use Rattle.oas_form.proofs.FileLengths
pub use Rattle.oas_form.proofs.Forms
pub use Rattle.oas_form.proofs.Fronts
pub use Rattle.oas_form.proofs.Grids
pub use Rattle.oas_form.proofs.Held
pub use Rattle.oas_form.proofs.JudgeBytes
pub use Rattle.oas_form.proofs.JudgeMatches
pub use Rattle.oas_form.proofs.JudgeRecords
pub use Rattle.oas_form.proofs.Judged
pub use Rattle.oas_form.proofs.KindLemmas
pub use Rattle.oas_form.proofs.Lengths
pub use Rattle.oas_form.proofs.MeantLemmas
pub use Rattle.oas_form.proofs.PointPutting
pub use Rattle.oas_form.proofs.PuttingLemmas
pub use Rattle.oas_form.proofs.Refusing
pub use Rattle.oas_form.proofs.Rekeying
pub use Rattle.oas_form.proofs.SomePlaces
pub use Rattle.oas_form.proofs.Steps
pub use Rattle.oas_form.proofs.Taking
pub use Rattle.oas_form.proofs.Written
pub mod HeldLemmas
mod PointLemmas
mod StepLemmas
mod TotalLemmas
pub mod KeyedLemmas
pub mod PlaceLemmas
pub mod SortLemmas
pub mod RunLemmas
pub mod FinishLemmas
pub mod OrderLemmas
pub mod ReadLemmas
mod SamenessLemmas
mod DraftCellLemmas
mod DraftLemmas
mod SealLemmas
