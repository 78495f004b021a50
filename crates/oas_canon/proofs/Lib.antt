pub use Rattle.oas_judge.proofs.Forms
pub use Rattle.oas_judge.proofs.Held
pub use Rattle.oas_judge.proofs.Judged
pub use Rattle.oas_judge.proofs.Written
mod RekeyLemmas
mod HashingLemmas
mod CellKeyLemmas
pub mod Whole
