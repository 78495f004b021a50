-- What follows for a writer, where an outlet over it was given bytes.
use Rattle.std.proofs.Common.{◌≡◌, ℕ, ◌+◌, ◌-◌, ◌^◌, min, List, [], ◌∷◌, ◌++◌, length, Option, Some, None, Bool, true, false, if◌then◌else◌, ◌<◌, refl, sym, ap, ◌∙◌, append_assoc, append-nil, arith, MutBor}
use Rattle.std.specs.Io.KnownBytes.{Appends, Keeps}
use Rattle.oas_bytes.specs.Devices.{Calls, TakesAll}
use Rattle.oas_bytes.specs.declared.outlets.Outlet.{Outlet}
use Rattle.oas_bytes.specs.Writing.{Puts, PutsPrefix}
use Rattle.oas_bytes.specs.Outlets.{unsent, failures_of, Opens, IsGiven, IsSent, ConsumesPrefix}

pub Appends-none : (a : Option (List ℕ)) → Appends a a []
Appends-none None = tt
Appends-none (Some x) = sym (append-nil x)

pub Appends-then : (a b c : Option (List ℕ)) (xs ys : List ℕ) → Appends a b xs → Appends b c ys → Appends a c (xs ++ ys)
Appends-then None b c xs ys p q = tt
Appends-then (Some x) None c xs ys p q = absurd p
Appends-then (Some x) (Some y) None xs ys p q = absurd q
Appends-then (Some x) (Some y) (Some z) xs ys p q = q ∙ ap (λ (t : List ℕ). t ++ ys) p ∙ append_assoc x xs ys

pub Appends-kept : (a b c : Option (List ℕ)) (xs : List ℕ) → Appends a b xs → Keeps b c → Appends a c xs
Appends-kept None b c xs p q = tt
Appends-kept (Some x) None c xs p q = absurd p
Appends-kept (Some x) (Some y) None xs p q = absurd q
Appends-kept (Some x) (Some y) (Some z) xs p q = q ∙ p

front_of_none : (a b : List ℕ) → [] ≡ a ++ b → a ≡ []
front_of_none [] b e = refl
front_of_none (x ∷ a) b e = absurd (cc)

abbrev count_of : Bool → ℕ
count_of failed = if failed then 1 else 0

one_or_none : (failed : Bool) → 0 < count_of failed → count_of failed ≡ 1
one_or_none true lt = refl
one_or_none false lt = absurd (omega (arith, lt))

-- an outlet has one fault or none
one_failure : {W : Type 0} (o : Outlet W) → 0 < failures_of o → failures_of o ≡ 1
one_failure o lt = one_or_none o.failed lt

no_failure : {W : Type 0} (o : Outlet W) → o.failed ≡ false → failures_of o ≡ 0
no_failure o e = rw e refl

zero_more : (n : ℕ) → min (0 + n) (2 ^ 64 - 1) ≡ min n (2 ^ 64 - 1)
zero_more n = omega arith

-- if nothing was put, nothing was given
pub IsGiven-none : {W : Type 0} (calls : W → Calls) (o : Outlet W) → IsGiven calls o [] o
IsGiven-none calls o = record {
  same_writer = refl;
  sent = [];
  kept = unsent o;
  split = append-nil (unsent o);
  took = Appends-none (calls o.writer.now).contents;
  failures = refl;
  counted = omega (arith, o.within);
  waits = λ w. refl;
}

module _ {W : Type 0} (calls : W → Calls) (writer : MutBor W) where
  opened : (o : Outlet W) → Opens writer o → IsGiven calls o [] o
  opened o h = record {
    same_writer = refl;
    sent = [];
    kept = [];
    split = append-nil (unsent o) ∙ h.none_unsent;
    took = Appends-none (calls o.writer.now).contents;
    failures = refl;
    counted = omega (arith, h.none_taken);
    waits = λ w. sym h.none_unsent;
  }

  -- what an outlet was given since it was made
  pub given_since : (o p : Outlet W) (bytes : List ℕ) → Opens writer o → Puts (IsGiven calls) failures_of o bytes p → IsGiven calls o bytes p
  given_since o p bytes h puts = puts.after o [] (opened o h)

  -- what the writer took before a fault is a prefix of what was given
  pub takes_front : (o p : Outlet W) (bytes : List ℕ) → Opens writer o → IsGiven calls o bytes p → 0 < failures_of p → ConsumesPrefix calls writer.now p.writer.now bytes p.taken
  takes_front o p bytes h g failed = record {
    front = g.sent;
    back = g.kept;
    joined = sym (ap (λ (t : List ℕ). t ++ bytes) h.none_unsent) ∙ g.split;
    took = rw (← h.same) (record { took = g.took; failures = omega (arith, g.failures, no_failure o h.works, one_failure p failed) });
    counted = g.counted ∙ ap (λ n. min (n + length g.sent) (2 ^ 64 - 1)) h.none_taken ∙ zero_more (length g.sent);
  }

  -- and all of it, where nothing waits
  pub takes_all : (o p : Outlet W) (bytes : List ℕ) → Opens writer o → IsGiven calls o bytes p → IsSent p → TakesAll (calls writer.now) bytes (calls p.writer.now)
  takes_all o p bytes h g done =
      let none : g.kept ≡ [] = g.waits done.works ∙ done.none in
      let all : bytes ≡ g.sent = sym (ap (λ (t : List ℕ). t ++ bytes) h.none_unsent) ∙ g.split ∙ ap (λ (t : List ℕ). g.sent ++ t) none ∙ append-nil g.sent in
      rw (all, ← h.same) (record { took = g.took; failures = omega (arith, g.failures, no_failure o h.works, no_failure p done.works) })

  -- the outlet is still over that writer
  pub stays : (o p : Outlet W) (bytes : List ℕ) → Opens writer o → IsGiven calls o bytes p → p.writer.ghost_name ≡ writer.ghost_name
  stays o p bytes h g = g.same_writer ∙ h.same_writer

  -- the same for the writer's value once the outlet is gone: all was put, and then it was closed
  pub writer_has : (o m p : Outlet W) (bytes : List ℕ) (last : W) → Opens writer o → Puts (IsGiven calls) failures_of o bytes m
      → Puts (IsGiven calls) failures_of m [] p → IsSent p → (writer.ghost_name ≡ p.writer.ghost_name → last ≡ p.writer.now)
      → TakesAll (calls writer.now) bytes (calls last)
  writer_has o m p bytes last h puts closes done follows =
      let g : IsGiven calls o (bytes ++ []) p = closes.after o bytes (given_since o m bytes h puts) in
      let e : last ≡ p.writer.now = follows (sym (stays o p (bytes ++ []) h g)) in
      let a : TakesAll (calls writer.now) (bytes ++ []) (calls p.writer.now) = takes_all o p (bytes ++ []) h g done in
      rw e (rw append-nil at a)

  -- and where a fault occurred while these bytes were put
  pub writer_took : (o p : Outlet W) (bytes : List ℕ) (last : W) → Opens writer o → PutsPrefix (IsGiven calls) failures_of o bytes p
      → (writer.ghost_name ≡ p.writer.ghost_name → last ≡ p.writer.now) → ConsumesPrefix calls writer.now last bytes p.taken
  writer_took o p bytes last h puts follows =
      let g = given_since o p puts.front h puts.puts in
      let e : last ≡ p.writer.now = follows (sym (stays o p puts.front h g)) in
      let t = takes_front o p puts.front h g puts.failed in
      rw e (record {
        front = t.front;
        back = t.back ++ puts.back;
        joined = puts.joined ∙ ap (λ (x : List ℕ). x ++ puts.back) t.joined ∙ append_assoc t.front t.back puts.back;
        took = t.took;
        counted = t.counted;
      })

  -- or while it was closed
  pub writer_took_rest : (o m p : Outlet W) (bytes : List ℕ) (last : W) → Opens writer o → Puts (IsGiven calls) failures_of o bytes m
      → PutsPrefix (IsGiven calls) failures_of m [] p → (writer.ghost_name ≡ p.writer.ghost_name → last ≡ p.writer.now)
      → ConsumesPrefix calls writer.now last bytes p.taken
  writer_took_rest o m p bytes last h puts fails follows =
      let g : IsGiven calls o (bytes ++ fails.front) p = fails.puts.after o bytes (given_since o m bytes h puts) in
      let e : last ≡ p.writer.now = follows (sym (stays o p (bytes ++ fails.front) h g)) in
      let t = takes_front o p (bytes ++ fails.front) h g fails.failed in
      let none : fails.front ≡ [] = front_of_none fails.front fails.back fails.joined in
      rw e (record {
        front = t.front;
        back = t.back;
        joined = sym (append-nil bytes) ∙ ap (λ (x : List ℕ). bytes ++ x) (sym none) ∙ t.joined;
        took = t.took;
        counted = t.counted;
      })
