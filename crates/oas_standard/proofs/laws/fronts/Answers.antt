use Rattle.oas_standard.specs.Blocks.{block_head}
use Rattle.oas_standard.specs.Ends.{wide_end}
use Rattle.oas_standard.specs.Extensions.{extension_geometry}
use Rattle.oas_standard.specs.Heads.{wide_start}
use Rattle.oas_standard.specs.LayerNames.{layer_name}
use Rattle.oas_standard.specs.Placements.{wide_placement}
use Rattle.oas_standard.specs.Properties.{property, property_value}
use Rattle.oas_standard.specs.Strings.{string_kind, attributed}
use Rattle.oas_standard.specs.Trapezoids.{trapezoid, named_trapezoid}
use Rattle.oas_standard.proofs.laws.fronts.Goals as goal

pub returns : goal.returns
returns c = record {
  start = wide_start.found.one;
  end = λ in_end. (wide_end in_end).found.one;
  string = λ numbered. (string_kind numbered).found.one;
  value = property_value.found.one;
  property = property.found.one;
  layer_name = layer_name.found.one;
  placement = wide_placement.found.one;
  attributed = λ numbered. (attributed numbered).found.one;
  geometry = extension_geometry.found.one;
  block = block_head.found.one;
  trapezoid = λ a b. (trapezoid a b).found.one;
  named = named_trapezoid.found.one;
}
