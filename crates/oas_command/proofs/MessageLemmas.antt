-- What the error output has once an outlet before it was given a line, and closed.
use Rattle.std.proofs.Common.{◌≡◌, ◌<◌, ◌⊎◌, ℕ, List, [], ◌∷◌, ◌++◌, length, Bool, true, false, Result, Ok, Err, OnOk, if◌then◌else◌, inl, inr, refl, sym, ap, ◌∙◌, append_assoc, append-nil, arith, MutBor}
use Rattle.oas_num.specs.Devices.{Calls}
use Rattle.oas_num.specs.Outlet.{Outlet}
use Rattle.oas_num.specs.SinkFault.{SinkFault}
use Rattle.oas_num.specs.OutletLaws.{given_since, takes_all, takes_front, stays}
use Rattle.oas_num.specs.Outlets.{Opens, IsGiven, IsSent, failures_of}
use Rattle.oas_num.specs.Writing.{Writes}
use Rattle.oas_command.specs.Runs.{Tells, Says}

none_front : (a b : List ℕ) → [] ≡ a ++ b → a ≡ []
none_front [] b e = refl
none_front (x ∷ a) b e = absurd (omega (arith, ap length e))

no_failure : {W : Type 0} (o : Outlet W) → o.failed ≡ false → failures_of o ≡ 0
no_failure o e = rw e refl

module _ {W : Type 0} (calls : W → Calls) (writer : MutBor W) where
  -- an outlet was given a line, or a prefix of it where it has failed
  pub record GivenLine (o : Outlet W) (line : List ℕ) (now : Outlet W) : Type 0 where
    pub front : List ℕ
    pub back : List ℕ
    pub joined : line ≡ front ++ back
    pub given : IsGiven calls o front now
    pub whole : failures_of now ≡ 0 → back ≡ []

  -- and then it was closed
  pub record IsClosed (o : Outlet W) (line : List ℕ) (now : Outlet W) : Type 0 where
    pub put : GivenLine o line now
    pub ended : IsSent now ⊎ (0 < failures_of now)

  -- a line was put
  pub told : (o now : Outlet W) (line : List ℕ) → Opens writer o → Tells (IsGiven calls) failures_of o line now → GivenLine o line now
  told o now line opens (inl all) =
      record { front = line; back = []; joined = sym (append-nil line); given = given_since calls writer o now line opens all; whole = λ none. refl }
  told o now line opens (inr some) = record {
    front = some.front;
    back = some.back;
    joined = some.joined;
    given = given_since calls writer o now some.front opens some.puts;
    whole = λ none. absurd (omega (arith, none, some.failed));
  }

  pub closed : (o mid now : Outlet W) (line : List ℕ) (r : Result Unit SinkFault) → GivenLine o line mid → Writes (IsGiven calls) failures_of mid [] r now → OnOk r (IsSent now) → IsClosed o line now
  closed o mid now line (Ok done) p q sent =
      let g : IsGiven calls o (p.front ++ []) now = q.after o p.front p.given in
      let whole : failures_of now ≡ 0 → p.back ≡ [] = λ none. p.whole (omega (arith, none, q.no_fewer)) in
      record { put = record { front = p.front; back = p.back; joined = p.joined; given = rw (append-nil) at g; whole = whole }; ended = inl sent }
  closed o mid now line (Err fault) p q sent =
      let none : q.front ≡ [] = none_front q.front q.back q.joined in
      let g : IsGiven calls o (p.front ++ q.front) now = q.puts.after o p.front p.given in
      let h : IsGiven calls o (p.front ++ []) now = rw none at g in
      let whole : failures_of now ≡ 0 → p.back ≡ [] = λ works. absurd (omega (arith, works, q.failed)) in
      record { put = record { front = p.front; back = p.back; joined = p.joined; given = rw (append-nil) at h; whole = whole }; ended = inr q.failed }

  -- it is still over the same writer
  pub same_name : (o now : Outlet W) (line : List ℕ) → Opens writer o → IsClosed o line now → now.writer.ghost_name ≡ writer.ghost_name
  same_name o now line opens p = stays calls writer o now p.put.front opens p.put.given

  -- what the writer has when the outlet is gone
  pub said : (o now : Outlet W) (last : W) (line : List ℕ) → Opens writer o → IsClosed o line now → now.writer.now ≡ last → Says (calls writer.now) line (calls last)
  said o now last line opens p e = rw (← e) (by_end p.ended) where
    by_end : IsSent now ⊎ (0 < failures_of now) → Says (calls writer.now) line (calls now.writer.now)
    by_end (inl sent) =
        let all : p.put.front ≡ line = sym (append-nil p.put.front) ∙ ap (λ (t : List ℕ). p.put.front ++ t) (sym (p.put.whole (no_failure now sent.works))) ∙ sym p.put.joined in
        inl (rw (← all) (takes_all calls writer o now p.put.front opens p.put.given sent))
    by_end (inr failed) =
        let t = takes_front calls writer o now p.put.front opens p.put.given failed in
        inr (record {
          front = t.front;
          back = t.back ++ p.put.back;
          joined = p.put.joined ∙ ap (λ (a : List ℕ). a ++ p.put.back) t.joined ∙ append_assoc t.front t.back p.put.back;
          took = t.took;
        })
