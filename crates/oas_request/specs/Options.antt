-- The options of the run that `diff` asks for.
use Rattle.std.specs.Prelude.{◌≡◌, ℕ, List, Option, option_map, option_copied, vec_items}
use Rattle.oas_diff_options.specs.declared.options.Options.{Options}
use Rattle.oas_request.specs.declared.differences.Asked.{Asked}

-- the cells, the layers, the detail, the format and the limit that are asked for
pub record AreOptions (asked : Asked) (options : Options) : Type 0 where
  pub cells : option_copied options.choice.cells ≡ option_map vec_items asked.cells
  pub layers : option_copied options.choice.layers ≡ option_map vec_items asked.layers
  pub detail : options.detail ≡ asked.detail
  pub format : options.format ≡ asked.format
  pub limit : options.limit ≡ asked.limit
