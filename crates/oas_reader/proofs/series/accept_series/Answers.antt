use Rattle.std.proofs.Common.{arith}
use Rattle.oas_reader.proofs.JudgedDraws.{held_room}
use Rattle.oas_reader.proofs.SeriesLemmas.{took_series, sound_series}
use Rattle.oas_reader.proofs.series.accept_series.Goals as goal

pub draw_series-requires : goal.draw_series-requires
draw_series-requires g c = omega (arith, held_room g.S.CellStore.store c.args.parts.now c.in-Some.held c.requires.sound c.in-Some.is, c.requires.room.few, c.args.parts.now.limits.few)

pub returns-clause-new : goal.returns-clause-new
returns-clause-new g c =
    took_series g.S.CellStore.store c.args.parts.now c.in-Some.held c.draw_series.new.self c.args.last.now c.step.new.self c.args.count c.args.weight c.in-Some.is c.step.ensures (c.draw_series.ensures.drawn c.requires.counts)

pub returns-clause-sound : goal.returns-clause-sound
returns-clause-sound g c =
    sound_series g.S.CellStore.store c.args.parts.now c.in-Some.held c.draw_series.new.self c.args.last.now c.step.new.self c.args.count c.args.weight c.in-Some.is c.step.ensures (c.draw_series.ensures.drawn c.requires.counts) c.requires.sound c.requires.room c.requires.lands
