pub use Rattle.oas_judge.specs.Acceptance
pub use Rattle.oas_judge.specs.Attempts
pub use Rattle.oas_judge.specs.Bytes
pub use Rattle.oas_judge.specs.Canonical
pub use Rattle.oas_judge.specs.Compact
pub use Rattle.oas_judge.specs.Deciding
pub use Rattle.oas_judge.specs.FileLaws
pub use Rattle.oas_judge.specs.Files
pub use Rattle.oas_judge.specs.FormLaws
pub use Rattle.oas_judge.specs.Gathering
pub use Rattle.oas_judge.specs.Given as ReadGiven
pub use Rattle.oas_judge.specs.declared.attempts.Attempt as TheAttempt
pub use Rattle.oas_judge.specs.declared.given.Given as TheGiven
pub use Rattle.oas_judge.specs.LayoutOf
pub use Rattle.oas_judge.specs.Listing
pub use Rattle.oas_judge.specs.Putting
pub use Rattle.oas_judge.specs.Reading
pub mod Run
pub mod Given
pub mod Opening
pub mod Hashing
pub mod CellKeys
pub mod Rekeying
pub mod Laws
