use Rattle.std.proofs.Common.{refl, arith}
use Rattle.oascanon_c.proofs.FillingLemmas.{Holds, room_put_all, filled_put_all, room_full, filled_full, put_more}
use Rattle.oascanon_c.proofs.filling.FillerSink.put_all.Goals.{then-self, else-self}
use Rattle.oascanon_c.proofs.filling.FillerSink.put_all.Goals as goal

pub returns : goal.returns
returns c =
    let s = c.args.self.now in
    let bytes = c.args.bytes.now in
    let holds : Holds s bytes c.if-self.self.1.0 c.if-self.self.1.1.0 c.if-self.self.1.1.1.0 = elim c.if-self.branch [
      | then-self w ↦ rw w.self-is (record {
        same = refl;
        counted = refl;
        fills = filled_put_all s bytes w.min-fits.result w.copy_from_slice.new.self w.if-self.true w.min-fits.ensures w.copy_from_slice.ensures.after;
        holds = room_put_all s bytes w.min-fits.result w.copy_from_slice.new.self w.if-self.true w.min-fits.ensures w.copy_from_slice.ensures.after;
      })
      | else-self w ↦ rw w.self-is (record { same = refl; counted = refl; fills = filled_full s bytes (omega (arith, w.if-self.false)); holds = room_full s bytes (omega (arith, w.if-self.false)) })
    ] in
    put_more s bytes c.if-self.self.1.0 c.if-self.self.1.1.0 c.if-self.self.1.1.1.0 holds _ refl refl c.saturating_add-self.ensures
