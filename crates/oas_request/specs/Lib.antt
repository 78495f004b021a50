pub use Rattle.oas_diff_options.specs.declared.options.Options as DiffOptions
pub mod Options
