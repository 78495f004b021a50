pub use Rattle.oas_canon.specs.Bytes
pub use Rattle.oas_canon.specs.Opening
pub use Rattle.oas_canon.specs.declared.profile.TheConstants as ProfileConstants
pub use Rattle.oas_canon.specs.declared.sameness.Which
pub use Rattle.oas_info.specs.declared.form.Form
pub mod Lines
pub mod Calls
pub mod Diff
pub mod Info
pub mod Keeping
pub mod Marking
pub mod Runs
pub mod Unopened
pub mod Rekeying
pub mod Work
