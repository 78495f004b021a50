use Rattle.std.proofs.Common.{arith, refl, sym, ap}
use Rattle.std.specs.Prelude.{is_some}
use Rattle.oas_record.specs.declared.records.Record.TheVariants as record_of
use Rattle.oas_drawing.specs.declared.kinds.Kind.TheVariants.{Rectangle}
use Rattle.oas_reader.proofs.JudgedDraws.{held_room}
use Rattle.oas_reader.proofs.OnceLemmas.{one_weighs, took_once, sound_once}
use Rattle.oas_reader.proofs.taking.accept_rectangle.Goals as goal

pub draw-requires-clause-room : goal.draw-requires-clause-room
draw-requires-clause-room g c = omega (arith, held_room g.S.CellStore.store c.args.parts.now c.in-Some.held c.requires.sound c.in-Some.is, c.args.parts.now.limits.few)

pub returns-clause-new : goal.returns-clause-new
returns-clause-new g c =
    took_once g.S.CellStore.store c.args.parts.now (record_of.Rectangle c.args.next.now) Rectangle c.in-Some.held c.draw_rectangle.new.self
    (record { kind_is = refl; held_is = c.in-Some.is; modal_is = c.draw_rectangle.ensures; repeats_is = sym (ap is_some c.requires.once); sound = c.requires.sound })
    c.in_ok-drawn.drawn c.in_ok-drawn.ensures.reason c.in_ok-drawn.ensures.ok c.draw.new.self 1 (one_weighs c.draw_rectangle.new.self c.in_ok-drawn.drawn c.in_ok-drawn.ensures.ok) c.in-Ok.ensures.ok

pub returns-clause-sound : goal.returns-clause-sound
returns-clause-sound g c =
    sound_once g.S.CellStore.store c.args.parts.now (record_of.Rectangle c.args.next.now) Rectangle c.in-Some.held c.draw_rectangle.new.self
    (record { kind_is = refl; held_is = c.in-Some.is; modal_is = c.draw_rectangle.ensures; repeats_is = sym (ap is_some c.requires.once); sound = c.requires.sound })
    c.in_ok-drawn.drawn c.in_ok-drawn.ensures.reason c.in_ok-drawn.ensures.ok c.draw.new.self 1 (one_weighs c.draw_rectangle.new.self c.in_ok-drawn.drawn c.in_ok-drawn.ensures.ok) c.in-Ok.ensures.ok
    c.in_ok-drawn.ensures.near
