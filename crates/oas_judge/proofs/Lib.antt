pub use Rattle.oas_writing.proofs.Forms
pub use Rattle.oas_writing.proofs.Held
pub use Rattle.oas_writing.proofs.Judged
pub use Rattle.oas_writing.proofs.Rekeying
pub use Rattle.oas_writing.proofs.Written
pub mod OwnLemmas
mod RightRecords
mod JudgeSteps
mod RecordSteps
mod FileLemmas
pub mod NamedSteps
mod LeastSteps
mod FigureSteps
mod JoinedLemmas
mod GivenLemmas
mod SeriesItems
mod SeriesSteps
mod SeriesParts
