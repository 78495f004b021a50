use Rattle.std.proofs.Common.{ℕ, List, sym, subst}
use Rattle.oas_canon.specs.declared.hashing.Hasher.{Hasher}
use Rattle.oas_canon.specs.Hashing.{HasTaken}
use Rattle.oas_canon.proofs.HashingLemmas.{emptied, put_more}
use Rattle.oas_canon.proofs.hashing.HasherSink.put.Goals.{then-self-eq-SIZE, else-self-eq-SIZE}
use Rattle.oas_canon.proofs.hashing.HasherSink.put.Goals as goal

pub returns : goal.returns
returns c =
    let Keeps : Hasher → Type 0 = λ s. (m : List ℕ) → HasTaken c.args.self.now m → HasTaken s m in
    put_more c.args.self.now c.if-self-eq-SIZE.self c.hold.new.self c.args.byte (elim c.if-self-eq-SIZE.branch [
      | then-self-eq-SIZE w ↦ subst Keeps (sym w.self-is) (emptied _ _ w.hash_window.ensures.empty w.hash_window.ensures.hashed)
      | else-self-eq-SIZE w ↦ subst Keeps (sym w.self-is) (λ m h. h)
    ]) c.hold.ensures
