pub use Rattle.oas_explain.specs.Session
pub mod Kinds
pub mod Lines
pub mod Runs
pub mod Answers
pub mod Sameness
pub mod Checks
pub mod Judged
