use Rattle.oas_standard.specs.Blocks.{block_head}
use Rattle.oas_standard.specs.Ends.{wide_end}
use Rattle.oas_standard.specs.Extensions.{extension_geometry}
use Rattle.oas_standard.specs.Heads.{wide_start}
use Rattle.oas_standard.specs.LayerNames.{layer_name}
use Rattle.oas_standard.specs.Placements.{wide_placement}
use Rattle.oas_standard.specs.Properties.{property, property_value}
use Rattle.oas_standard.specs.Strings.{string_kind, attributed}
use Rattle.oas_standard.specs.Trapezoids.{trapezoid, named_trapezoid}
use Rattle.oas_standard.proofs.laws.some.Goals as goal

pub returns : goal.returns
returns c = record {
  start = wide_start.some;
  end = λ in_end. (wide_end in_end).some;
  string = λ numbered. (string_kind numbered).some;
  value = property_value.some;
  property = property.some;
  layer_name = layer_name.some;
  placement = wide_placement.some;
  attributed = λ numbered. (attributed numbered).some;
  geometry = extension_geometry.some;
  block = block_head.some;
  trapezoid = λ a b. (trapezoid a b).some;
  named = named_trapezoid.some;
}
