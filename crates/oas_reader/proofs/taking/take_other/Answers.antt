use Rattle.std.proofs.Common.{true, false, sym, subst}
use Rattle.oas_record.specs.declared.records.Record.{Record}
use Rattle.oas_reader.specs.Parts.{Took}
use Rattle.oas_reader.proofs.TakeLemmas.{took_mode, took_pad}
use Rattle.oas_reader.proofs.taking.take_other.Goals as goal

pub returns-in-XyAbsolute-clause-new : goal.returns-in-XyAbsolute-clause-new
returns-in-XyAbsolute-clause-new g c = took_mode g.S.CellStore.store false c.args.parts.now c.args.next _ c.in-XyAbsolute.is c.set_relative.ensures

pub returns-in-XyRelative-clause-new : goal.returns-in-XyRelative-clause-new
returns-in-XyRelative-clause-new g c = took_mode g.S.CellStore.store true c.args.parts.now c.args.next _ c.in-XyRelative.is c.set_relative-in-XyRelative.ensures

pub returns-in-Pad-clause-new : goal.returns-in-Pad-clause-new
returns-in-Pad-clause-new g c = subst (λ (r : Record). Took g.S.CellStore.store c.args.parts.now r c.args.parts.now) (sym c.in-Pad.is) (took_pad g.S.CellStore.store c.args.parts.now)
