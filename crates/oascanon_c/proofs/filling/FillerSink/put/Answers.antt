use Rattle.std.proofs.Common.{[], ◌∷◌, refl, arith}
use Rattle.oascanon_c.proofs.FillingLemmas.{Holds, room_put, filled_put, room_full, filled_full, put_more}
use Rattle.oascanon_c.proofs.filling.FillerSink.put.Goals.{then-self, else-self}
use Rattle.oascanon_c.proofs.filling.FillerSink.put.Goals as goal

pub returns : goal.returns
returns c =
    let s = c.args.self.now in
    let byte = c.args.byte in
    let holds : Holds s (byte ∷ []) c.if-self.self.1.0 c.if-self.self.1.1.0 c.if-self.self.1.1.1.0 = elim c.if-self.branch [
      | then-self w ↦ rw w.self-is (record { same = refl; counted = refl; fills = filled_put s byte w.if-self.true; holds = room_put s byte w.if-self.true })
      | else-self w ↦ rw w.self-is (record { same = refl; counted = refl; fills = filled_full s (byte ∷ []) (omega (arith, w.if-self.false)); holds = room_full s (byte ∷ []) (omega (arith, w.if-self.false)) })
    ] in
    put_more s (byte ∷ []) c.if-self.self.1.0 c.if-self.self.1.1.0 c.if-self.self.1.1.1.0 holds _ refl refl c.saturating_add-self.ensures
