-- Which records of the profile the records of a file of the standard are translated to, why they aren't prepared, and what is
-- left out of them. `before` lists records newest first.
use Rattle.std.specs.Prelude.{◌≡◌, ℕ, ◌+◌, Bool, true, false, cond, Option, Some, None, List, [], ◌∷◌, ◌++◌, reverse, Result, Ok, Err}
use Rattle.std.specs.Option.{option_or}
use Rattle.oas_num.specs.declared.refusals.Why.{Why}
use Rattle.oas_record.specs.declared.records.Record.{Record}
use Rattle.oas_elements.specs.declared.limits.Limits.{Limits}
use Rattle.oas_reader.specs.Stands.{refusal}
use Rattle.oas_block.specs.WideWhy.{WideWhy}
use Rattle.oas_block.specs.WideWhy.TheVariants.{Profile}
use Rattle.oas_block.specs.WideRecord.{WideRecord}
use Rattle.oas_trapezoids.specs.Steps.{translated_by, kept_after}
use Rattle.oas_trapezoids.specs.Tracked.{Tracked, fresh}
use Rattle.oas_narrow.specs.declared.dropping.Dropping.{Dropping}
use Rattle.oas_narrow.specs.declared.dropping.Extra.{Extra}
use Rattle.oas_narrow.specs.declared.dropping.Extra.TheVariants as extra
use Rattle.oas_narrow.specs.declared.dropping.Report.{Report}
use Rattle.oas_narrow.specs.Dropping.{capped}
use Rattle.oas_narrow.specs.Placements.{with_turns}
use Rattle.oas_narrow.specs.Roles.{role_of, opens, obstacle_by, extra_of}

-- whether a cell is open after these
abbrev pub is_open : List WideRecord → Bool
is_open [] = false
is_open (w ∷ before) = opens (is_open before) (role_of w)

-- ---- the records that they are translated to

-- the modal variables after these
abbrev pub kept_of : List WideRecord → Tracked
kept_of [] = fresh
kept_of (w ∷ before) = kept_after (kept_of before) (with_turns w)

-- the records that one more is translated to after these, or why there are none
abbrev pub translated_after : List WideRecord → WideRecord → Result (List Record) WideWhy
translated_after before w = translated_by (kept_of before) (with_turns w)

abbrev pub listed : Result (List Record) WideWhy → List Record
listed (Ok rs) = rs
listed (Err why) = []

-- those that all of these are translated to, oldest first: each is translated after the ones before it
abbrev pub stood_for : List WideRecord → List Record
stood_for [] = []
stood_for (w ∷ before) = stood_for before ++ listed (translated_after before w)

-- the same for records that are listed oldest first
abbrev pub narrowed : List WideRecord → List Record
narrowed ws = stood_for (reverse ws)

-- ---- why a record isn't prepared

-- why the first of some records that is refused is, each after those before it, oldest first
abbrev pub refused_of : Limits → List Record → List Record → Option Why
refused_of limits rs [] = None
refused_of limits rs (r ∷ more) = option_or (refusal limits rs r) (refused_of limits (rs ++ r ∷ []) more)

abbrev pub refused_if : Option Why → Option WideWhy
refused_if None = None
refused_if (Some why) = Some (Profile why)

-- it is translated to no records, or to some of which one is refused after those that the records before it are translated to
abbrev pub translated_obstacle : Limits → List Record → Result (List Record) WideWhy → Option WideWhy
translated_obstacle limits rs (Err why) = Some why
translated_obstacle limits rs (Ok more) = refused_if (refused_of limits rs more)

-- why one more record isn't prepared after these
abbrev pub obstacle_after : Limits → Dropping → List WideRecord → WideRecord → Option WideWhy
obstacle_after limits dropping before w =
    option_or (obstacle_by dropping (is_open before) (role_of w)) (translated_obstacle limits (stood_for before) (translated_after before w))

-- each of the records is prepared after those before it
abbrev pub ArePrepared : Limits → Dropping → List WideRecord → Type 0
ArePrepared limits dropping [] = Unit {0}
ArePrepared limits dropping (w ∷ before) = ArePrepared limits dropping before × (obstacle_after limits dropping before w ≡ None)

-- ---- what is left out

-- whether this is one of that kind
abbrev pub is_extra : Extra → Extra → Bool
is_extra extra.PropertyName extra.PropertyName = true
is_extra extra.Property extra.Property = true
is_extra extra.LayerName extra.LayerName = true
is_extra extra.ExtensionName extra.ExtensionName = true
is_extra extra.ExtensionElement extra.ExtensionElement = true
is_extra _ _ = false

abbrev pub one_if : Extra → Option Extra → ℕ
one_if e None = 0
one_if e (Some other) = cond (is_extra e other) 1 0

-- how many of a kind there are among the records
abbrev pub tally : Extra → List WideRecord → ℕ
tally e [] = 0
tally e (w ∷ ws) = tally e ws + one_if e (extra_of (role_of w))

-- how many of each kind, capped to 64 bits
abbrev pub report_of : List WideRecord → Report
report_of ws = record {
  property_names = capped (tally extra.PropertyName ws);
  properties = capped (tally extra.Property ws);
  layer_names = capped (tally extra.LayerName ws);
  extension_names = capped (tally extra.ExtensionName ws);
  extensions = capped (tally extra.ExtensionElement ws);
}
