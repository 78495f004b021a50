-- What a writer under an outlet took, once the outlet is gone, of a text of any length.
use Rattle.oas_num.specs.Devices.{Calls}
use Rattle.std.proofs.Common.{◌≡◌, ℕ, List, length, Option, length-append, refl, ap, ◌∙◌, arith, MutBor}
use Rattle.oas_num.specs.Outlet.{Outlet}
use Rattle.oas_num.specs.declared.refusals.Why.TheVariants.{Write as NotWritten}
use Rattle.oas_num.specs.Writing.{Puts, PutsPrefix}
use Rattle.oas_num.specs.Outlets.{failures_of, unsent, Opens, IsGiven, IsSent}
use Rattle.oas_num.specs.OutletLaws.{given_since, writer_took}
use Rattle.oas_num.specs.Laws.WrittenLaws.{took_all}
use Rattle.oas_markers.specs.Written.{IsMarked, IsMarkedUpTo}

module _ {W : Type 0} (calls : W → Calls) {writer : MutBor W} {o p : Outlet W} {bytes : List ℕ} {last : W} where
  -- all was put, closing included, and the outlet has counted it
  pub marked : {count : ℕ} → Opens writer o → Puts (IsGiven calls) failures_of o bytes p → IsSent p
      → (writer.ghost_name ≡ p.writer.ghost_name → last ≡ p.writer.now) → count ≡ p.taken → IsMarked calls writer.now bytes last count
  marked h puts sent follows counted =
      let g = given_since calls writer o p bytes h puts in
      let none : length g.kept ≡ 0 = ap length (g.waits sent.works ∙ sent.none) in
      let all : length bytes ≡ length g.sent = omega (arith, ap length g.split, ap length h.none_unsent, none, length-append (unsent o) bytes, length-append g.sent g.kept) in
      record { count_is = omega (arith, counted, g.counted, h.none_taken, all); took = took_all calls h puts sent follows }

  -- a fault occurred, and the outlet has counted what the writer took
  pub marked_up_to : {at : ℕ} → Opens writer o → PutsPrefix (IsGiven calls) failures_of o bytes p
      → (writer.ghost_name ≡ p.writer.ghost_name → last ≡ p.writer.now) → at ≡ p.taken → IsMarkedUpTo calls writer.now bytes last (record { at = at; why = NotWritten })
  marked_up_to h puts follows counted =
      let t = writer_took calls writer o p bytes last h puts follows in
      record {
        reason = refl;
        front = t.front;
        back = t.back;
        joined = t.joined;
        took = t.took;
        place = omega (arith, counted, t.counted);
      }
