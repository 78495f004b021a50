pub use Rattle.oas_command.specs.Bytes
pub use Rattle.oas_command.specs.Form
pub use Rattle.oas_command.specs.Lines
pub use Rattle.oas_command.specs.ProfileConstants
pub use Rattle.oas_command.specs.Runs
pub use Rattle.oas_command.specs.Which
pub use Rattle.oas_command.specs.Work
pub use Rattle.oas_command.specs.declared.lines.Label
pub use Rattle.oas_command.specs.declared.work.PairWork
pub use Rattle.oas_command.specs.declared.work.Work as CommandWork
pub use Rattle.oas_files.specs.declared.replacing.Existing
pub mod Texts
pub mod Hearing
pub mod Telling
pub mod Session
pub mod Recording
