-- The role of a record of the standard in a file of the profile: whether it opens or closes a cell, requires an open one, or
-- may be left out.
use Rattle.std.specs.Prelude.{◌≡◌, ℕ, Bool, true, false, cond, not, ◌&&◌, is_some, if◌then◌else◌, Option, Some, None}
use Rattle.oas_num.specs.declared.refusals.Why.TheVariants.{OutOfPlace, RecordLeftOut}
use Rattle.oas_record.specs.declared.records.Record.{Record}
use Rattle.oas_record.specs.declared.records.Record.TheVariants as record_of
use Rattle.oas_record.specs.Records.{id_of}
use Rattle.oas_block.specs.WideWhy.{WideWhy}
use Rattle.oas_block.specs.WideWhy.TheVariants.{Profile, Extensions}
use Rattle.oas_block.specs.WideRecord.{WideRecord}
use Rattle.oas_block.specs.WideRecord.TheVariants as wide
use Rattle.oas_block.specs.Trapezoid.{Trapezoid}
use Rattle.oas_narrow.specs.declared.dropping.Dropping.{Dropping}
use Rattle.oas_narrow.specs.declared.dropping.Extra.{Extra}
use Rattle.oas_narrow.specs.declared.dropping.Extra.TheVariants as extra
use Rattle.oas_narrow.specs.declared.dropping.Report.{Report}
use Rattle.oas_narrow.specs.declared.roles.Role.{Role}
use Rattle.oas_narrow.specs.declared.roles.Role.TheVariants as role
use Rattle.oas_narrow.specs.Dropping.{is_named, is_name, undropped, counted}

-- ---- the role of a record

-- a record of the profile
abbrev pub plain_role : Record → Role
plain_role record_of.Pad = role.Other
plain_role record_of.End = role.Other
plain_role (record_of.CellName name number) = role.Name
plain_role (record_of.TextString string number) = role.Name
plain_role (record_of.Cell cell) = role.Cell
plain_role record_of.XyAbsolute = role.Other
plain_role record_of.XyRelative = role.Other
plain_role r = role.Element (id_of r)

-- the id of a TRAPEZOID, by the deltas that it has
abbrev pub trapezoid_id : Trapezoid → ℕ
trapezoid_id t = if is_some t.delta_a then (if is_some t.delta_b then 23 else 24) else 25

-- a record of the standard
abbrev pub role_of : WideRecord → Role
role_of (wide.Profile r) = plain_role r
role_of (wide.End end) = role.Missing 2
role_of (wide.PropertyName name number) = role.Extra extra.PropertyName
role_of (wide.PropertyString string number) = role.Extra extra.PropertyName
role_of (wide.Property property) = role.Extra extra.Property
role_of wide.LastProperty = role.Extra extra.Property
role_of (wide.LayerName name) = role.Extra extra.LayerName
role_of (wide.TextLayerName name) = role.Extra extra.LayerName
role_of (wide.ExtensionName attribute string number) = role.Extra extra.ExtensionName
role_of (wide.ExtensionElement attribute string) = role.Extension 32
role_of (wide.Placement p) = role.Element 18
role_of (wide.Trapezoid t) = role.Element (trapezoid_id t)
role_of (wide.NamedTrapezoid t) = role.Element 26
role_of (wide.ExtensionGeometry g) = role.Extension 33
role_of (wide.Block head) = role.Missing 34

-- ---- where it is allowed

-- whether a cell is open after it: a CELL opens one; name records, also those that are left out, close it
abbrev pub opens : Bool → Role → Bool
opens was role.Cell = true
opens was role.Name = false
opens was (role.Extra e) = was && not (is_name e)
opens was _ = was

-- an element requires an open cell
abbrev pub outside : Bool → ℕ → Option WideWhy
outside true id = None
outside false id = Some (Profile (OutOfPlace id))

-- what isn't named to be left out stops the file
abbrev pub unnamed : Bool → Extra → Option WideWhy
unnamed named e = cond named None (Some (undropped e))

-- why it stops the file, by what is named to be left out and whether a cell is open
abbrev pub obstacle_by : Dropping → Bool → Role → Option WideWhy
obstacle_by dropping in_cell (role.Element id) = outside in_cell id
obstacle_by dropping in_cell (role.Extra e) = unnamed (is_named dropping e) e
obstacle_by dropping in_cell (role.Extension id) = cond dropping.extensions (outside in_cell id) (Some Extensions)
obstacle_by dropping in_cell (role.Missing id) = Some (Profile (RecordLeftOut id))
obstacle_by dropping in_cell _ = None

-- ---- what is left out

-- of that kind, if it is one that is left out
abbrev pub extra_of : Role → Option Extra
extra_of (role.Extra e) = Some e
extra_of (role.Extension id) = Some extra.ExtensionElement
extra_of _ = None

abbrev pub counted_if : Report → Option Extra → Report
counted_if report None = report
counted_if report (Some e) = counted report e
