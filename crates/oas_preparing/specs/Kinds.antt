-- The kinds of records that are left out, in words.
use Rattle.std.specs.Prelude.{ℕ, List, [], ◌∷◌, codes, ◌==◌, if◌then◌else◌}
use Rattle.oas_prepare.specs.Extra.{Extra}
use Rattle.oas_prepare.specs.Extra.TheVariants.{PropertyName, Property, LayerName, ExtensionName, ExtensionElement}
use Rattle.oas_prepare.specs.Report.{Report}

-- all kinds, in the order of a line
abbrev pub kinds : List Extra
kinds = Property ∷ PropertyName ∷ LayerName ∷ ExtensionElement ∷ ExtensionName ∷ []

-- how many of a kind were left out
abbrev pub left_out : Report → Extra → ℕ
left_out report PropertyName = report.property_names
left_out report Property = report.properties
left_out report LayerName = report.layer_names
left_out report ExtensionName = report.extension_names
left_out report ExtensionElement = report.extensions

-- one of a kind
abbrev pub singular : Extra → List ℕ
singular PropertyName = codes "property name"
singular Property = codes "property"
singular LayerName = codes "layer name"
singular ExtensionName = codes "extension name"
singular ExtensionElement = codes "extension"

-- several of a kind
abbrev pub plural : Extra → List ℕ
plural PropertyName = codes "property names"
plural Property = codes "properties"
plural LayerName = codes "layer names"
plural ExtensionName = codes "extension names"
plural ExtensionElement = codes "extensions"

-- this many of a kind
abbrev pub name_for : ℕ → Extra → List ℕ
name_for number kind = if number == 1 then singular kind else plural kind
