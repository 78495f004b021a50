pub use Rattle.oas_difference.specs.Choice
pub use Rattle.oas_difference.specs.DiffOptions as Options
pub use Rattle.oas_difference.specs.Options as DifferenceOptions
pub mod Numbers
pub mod Texts
pub mod Shapes
pub mod Markers
pub mod Held
pub mod Written
