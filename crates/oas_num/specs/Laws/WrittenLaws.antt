-- What a writer under an outlet took, once the outlet is gone.
use Rattle.oas_num.specs.Devices.{Calls, TakesAll}
use Rattle.std.proofs.Common.{◌≡◌, ℕ, ◌^◌, ◌<◌, List, length, Option, length-append, refl, sym, ap, ◌∙◌, arith, MutBor}
use Rattle.oas_num.specs.Outlet.{Outlet}
use Rattle.oas_num.specs.declared.refusals.Why.TheVariants.{Write as NotWritten}
use Rattle.oas_num.specs.Writing.{Puts, PutsPrefix}
use Rattle.oas_num.specs.Outlets.{failures_of, unsent, Opens, IsGiven, IsSent}
use Rattle.oas_num.specs.OutletLaws.{given_since, takes_all, stays, writer_took}
use Rattle.oas_num.specs.Written.{IsWritten, IsCutOff}

module _ {W : Type 0} (calls : W → Calls) {writer : MutBor W} {o p : Outlet W} {bytes : List ℕ} {last : W} where
  -- all was put, closing included
  pub took_all : Opens writer o → Puts (IsGiven calls) failures_of o bytes p → IsSent p
      → (writer.ghost_name ≡ p.writer.ghost_name → last ≡ p.writer.now) → TakesAll (calls writer.now) bytes (calls last)
  took_all h puts sent follows =
      let g = given_since calls writer o p bytes h puts in
      let e : last ≡ p.writer.now = follows (sym (stays calls writer o p bytes h g)) in
      rw e (takes_all calls writer o p bytes h g sent)

  -- and the outlet has counted it
  pub written : {count : ℕ} → Opens writer o → Puts (IsGiven calls) failures_of o bytes p → IsSent p
      → (writer.ghost_name ≡ p.writer.ghost_name → last ≡ p.writer.now) → count ≡ p.taken → length bytes < 2 ^ 64
      → IsWritten calls writer.now bytes last count
  written h puts sent follows counted short =
      let g = given_since calls writer o p bytes h puts in
      let none : length g.kept ≡ 0 = ap length (g.waits sent.works ∙ sent.none) in
      let all : length bytes ≡ length g.sent = omega (arith, ap length g.split, ap length h.none_unsent, none, length-append (unsent o) bytes, length-append g.sent g.kept) in
      record { count_is = omega (arith, counted, g.counted, h.none_taken, all, short); took = took_all h puts sent follows }

  -- a fault occurred, and the outlet has counted what the writer took
  pub cut_off : {at : ℕ} → Opens writer o → PutsPrefix (IsGiven calls) failures_of o bytes p
      → (writer.ghost_name ≡ p.writer.ghost_name → last ≡ p.writer.now) → at ≡ p.taken → length bytes < 2 ^ 64
      → IsCutOff calls writer.now bytes last (record { at = at; why = NotWritten })
  cut_off h puts follows counted short =
      let t = writer_took calls writer o p bytes last h puts follows in
      record {
        reason = refl;
        front = t.front;
        back = t.back;
        joined = t.joined;
        took = t.took;
        place = omega (arith, counted, t.counted, short, ap length t.joined, length-append t.front t.back);
      }
