pub use Rattle.oas_diff_options.specs.Choice
pub use Rattle.oas_diff_options.specs.declared.choice.Choice as DiffChoice
pub use Rattle.oas_diff_options.specs.declared.choice.ChosenLayer
pub use Rattle.oas_diff_options.specs.declared.format.TheConstants as FormatConstants
pub use Rattle.oas_diff_options.specs.declared.options.Options as DiffOptions
pub use Rattle.oas_diff_text.specs.Entries
pub use Rattle.oas_diff_text.specs.Microns
pub use Rattle.oas_diff_text.specs.Shown
pub mod Ascending
pub mod Pairs
pub mod Format
pub mod Changed
pub mod Difference
pub mod Brief
pub mod Limited
pub mod Limiting
pub mod Options
pub mod Held
pub mod Laws
