-- What may be left out, and how it is counted.
use Rattle.std.specs.Prelude.{ℕ, ◌+◌, ◌-◌, ◌^◌, min, Bool, true, false}
use Rattle.oas_narrow.specs.declared.dropping.Extra.{Extra}
use Rattle.oas_narrow.specs.declared.dropping.Extra.TheVariants as extra
use Rattle.oas_narrow.specs.declared.dropping.Dropping.{Dropping}
use Rattle.oas_narrow.specs.declared.dropping.Report.{Report}
use Rattle.oas_block.specs.WideWhy.{WideWhy}
use Rattle.oas_block.specs.WideWhy.TheVariants.{Properties, LayerNames, Extensions}

-- whether it is named to be left out
abbrev pub is_named : Dropping → Extra → Bool
is_named dropping extra.PropertyName = dropping.properties
is_named dropping extra.Property = dropping.properties
is_named dropping extra.LayerName = dropping.layer_names
is_named dropping extra.ExtensionName = dropping.extensions
is_named dropping extra.ExtensionElement = dropping.extensions

-- a name record, after which no cell is open
abbrev pub is_name : Extra → Bool
is_name extra.PropertyName = true
is_name extra.Property = false
is_name extra.LayerName = true
is_name extra.ExtensionName = true
is_name extra.ExtensionElement = false

-- why it stops a file where it isn't to be left out
abbrev pub undropped : Extra → WideWhy
undropped extra.PropertyName = Properties
undropped extra.Property = Properties
undropped extra.LayerName = LayerNames
undropped extra.ExtensionName = Extensions
undropped extra.ExtensionElement = Extensions

-- a number, capped to 64 bits
abbrev pub capped : ℕ → ℕ
capped n = min n (2 ^ 64 - 1)

abbrev pub nothing_left_out : Report
nothing_left_out = record { property_names = 0; properties = 0; layer_names = 0; extension_names = 0; extensions = 0 }

-- one more of that kind
abbrev pub counted : Report → Extra → Report
counted r extra.PropertyName = record r { property_names = capped (r.property_names + 1) }
counted r extra.Property = record r { properties = capped (r.properties + 1) }
counted r extra.LayerName = record r { layer_names = capped (r.layer_names + 1) }
counted r extra.ExtensionName = record r { extension_names = capped (r.extension_names + 1) }
counted r extra.ExtensionElement = record r { extensions = capped (r.extensions + 1) }
