-- What an outlet was given, call by call.
use Rattle.std.proofs.Common.{◌≡◌, ℕ, ◌+◌, ◌<◌, ◌^◌, min, List, [], ◌++◌, length, take, drop, Result, Ok, Err, Bool, true, false, refl, sym, ap, ◌∙◌, append_assoc}
use Rattle.std.proofs.Common.{append-nil, subst, take-append-drop, length-append, ◌-◌, arith}
use Rattle.std.proofs.lemmas.List.{length-take-le}
use Rattle.std.specs.Io.KnownBytes.{Keeps}
use Rattle.oas_bytes.specs.Devices.{Calls, TakesAll, FailsAfter, Kept, Failed}
use Rattle.oas_bytes.specs.declared.outlets.Outlet.{Outlet}
use Rattle.oas_bytes.specs.declared.sinks.SinkFault.{SinkFault}
use Rattle.oas_bytes.specs.Writing.{Puts, PutsPrefix, Writes}
use Rattle.oas_bytes.specs.Outlets.{unsent, failures_of, IsGiven}
use Rattle.oas_bytes.specs.Laws.OutletLaws.{Appends-then, Appends-kept}
use Rattle.oas_bytes.proofs.WritingLemmas.{Puts-then}

-- the window of an outlet that has failed is always full
pub works_below : (n : ℕ) (failed : Bool) → (failed ≡ true → n ≡ 8192) → n < 8192 → failed ≡ false
works_below n true full lt = absurd (omega (arith, full refl))
works_below n false full lt = refl

length-sum : (a b : List ℕ) → length (a ++ b) ≡ length a + length b
length-sum a b = omega (arith, length-append {A = ℕ})

count_more : (start old new : ℕ) (a b : List ℕ) (n : ℕ) → length (a ++ b) ≡ length a + n → old ≡ min (start + length a) (2 ^ 64 - 1)
    → new ≡ min (old + n) (2 ^ 64 - 1) → new ≡ min (start + length (a ++ b)) (2 ^ 64 - 1)
count_more start old new a b n len e f = omega (arith, len, e, f)

module _ {W : Type 0} where
  unsent_works : (o : Outlet W) → o.failed ≡ false → unsent o ≡ o.window
  unsent_works o e = rw e refl

  no_fault : (o : Outlet W) → o.failed ≡ false → failures_of o ≡ 0
  no_fault o e = rw e refl

  one_fault : (o : Outlet W) → o.failed ≡ true → failures_of o ≡ 1
  one_fault o e = rw e refl

  module _ (calls : W → Calls) (o p : Outlet W) (same_writer : p.writer.ghost_name ≡ o.writer.ghost_name) (works : o.failed ≡ false) where
    -- some bytes more in the window
    pub bytes_kept : (bytes : List ℕ) → p.writer.now ≡ o.writer.now → p.window ≡ o.window ++ bytes → p.taken ≡ o.taken → p.failed ≡ false → Puts (IsGiven calls) failures_of o bytes p
    bytes_kept bytes same window taken still = record {
      after = λ start before h. record {
        same_writer = same_writer ∙ h.same_writer;
        sent = h.sent;
        kept = h.kept ++ bytes;
        split = sym (append_assoc (unsent start) before bytes) ∙ ap (λ (t : List ℕ). t ++ bytes) h.split ∙ append_assoc h.sent h.kept bytes;
        took = rw same h.took;
        failures = omega (arith, ap (λ w. (calls w).failures) same, h.failures, no_fault o works, no_fault p still);
        counted = taken ∙ h.counted;
        waits = λ w. ap (λ (t : List ℕ). t ++ bytes) (h.waits works ∙ unsent_works o works) ∙ sym window ∙ sym (unsent_works p still);
      };
      no_fewer = omega (arith, no_fault o works);
    }

    -- the writer took the window
    pub window_sent : p.failed ≡ false → p.window ≡ [] → TakesAll (calls o.writer.now) o.window (calls p.writer.now)
        → p.taken ≡ min (o.taken + length o.window) (2 ^ 64 - 1) → Puts (IsGiven calls) failures_of o [] p
    window_sent still window took taken = record {
      after = λ start before h.
          let all : h.kept ≡ o.window = h.waits works ∙ unsent_works o works in
          record {
            same_writer = same_writer ∙ h.same_writer;
            sent = h.sent ++ o.window;
            kept = [];
            split = ap (λ (t : List ℕ). unsent start ++ t) (append-nil before) ∙ h.split ∙ ap (λ (t : List ℕ). h.sent ++ t) all ∙ sym (append-nil (h.sent ++ o.window));
            took = Appends-then _ _ _ h.sent o.window h.took took.took;
            failures = omega (arith, h.failures, took.failures, no_fault o works, no_fault p still);
            counted = count_more start.taken o.taken p.taken h.sent o.window (length o.window) (length-sum h.sent o.window) h.counted taken;
            waits = λ w. sym (unsent_works p still ∙ window);
          };
      no_fewer = omega (arith, no_fault o works);
    }

    -- the writer took a part of the window, and failed
    pub window_lost : (count : ℕ) → p.failed ≡ true → count < length o.window
        → FailsAfter (calls o.writer.now) (take count o.window) (calls p.writer.now) → p.taken ≡ min (o.taken + count) (2 ^ 64 - 1)
        → PutsPrefix (IsGiven calls) failures_of o [] p
    window_lost count failed lt took taken = record {
      front = [];
      back = [];
      joined = refl;
      puts = record {
        after = λ start before h.
            let all : h.kept ≡ o.window = h.waits works ∙ unsent_works o works in
            let parts : h.kept ≡ take count o.window ++ drop count o.window = all ∙ sym (take-append-drop count o.window) in
            let some : length (take count o.window) ≡ count = length-take-le count o.window (omega (arith, lt)) in
            record {
              same_writer = same_writer ∙ h.same_writer;
              sent = h.sent ++ take count o.window;
              kept = drop count o.window;
              split = ap (λ (t : List ℕ). unsent start ++ t) (append-nil before) ∙ h.split ∙ ap (λ (t : List ℕ). h.sent ++ t) parts
                  ∙ sym (append_assoc h.sent (take count o.window) (drop count o.window));
              took = Appends-then _ _ _ h.sent (take count o.window) h.took took.took;
              failures = omega (arith, h.failures, took.failures, no_fault o works, one_fault p failed);
              counted = count_more start.taken o.taken p.taken h.sent (take count o.window) count (length-sum h.sent (take count o.window) ∙ ap (λ (n : ℕ). length h.sent + n) some) h.counted taken;
              waits = λ w. cc;
            };
        no_fewer = omega (arith, no_fault o works);
      };
      failed = omega (arith, one_fault p failed);
    }

    -- the window was taken, and the writer kept what it had before
    kept_still : Keeps (calls o.writer.now).contents (calls p.writer.now).contents → (calls p.writer.now).failures ≡ (calls o.writer.now).failures + failures_of p
        → unsent o ≡ [] → p.taken ≡ o.taken → (p.failed ≡ false → unsent p ≡ [])
        → (start : Outlet W) (before : List ℕ) → IsGiven calls start before o → IsGiven calls start (before ++ []) p
    kept_still keeps failures none taken still start before h = record {
      same_writer = same_writer ∙ h.same_writer;
      sent = h.sent;
      kept = h.kept;
      split = ap (λ (t : List ℕ). unsent start ++ t) (append-nil before) ∙ h.split;
      took = Appends-kept _ _ _ h.sent h.took keeps;
      failures = omega (arith, h.failures, failures, no_fault o works);
      counted = taken ∙ h.counted;
      waits = λ w. h.waits works ∙ none ∙ sym (still w);
    }

    -- a flush
    pub flushed : Kept (calls o.writer.now) (calls p.writer.now) → unsent o ≡ [] → p.taken ≡ o.taken → p.failed ≡ false → p.window ≡ o.window → Puts (IsGiven calls) failures_of o [] p
    flushed keeps none taken still window = record {
      after = kept_still keeps.kept (omega (arith, keeps.failures, no_fault p still)) none taken (λ w. unsent_works p still ∙ window ∙ sym (unsent_works o works) ∙ none);
      no_fewer = omega (arith, no_fault o works);
    }

    pub flush_failed : Failed (calls o.writer.now) (calls p.writer.now) → unsent o ≡ [] → p.taken ≡ o.taken → p.failed ≡ true → PutsPrefix (IsGiven calls) failures_of o [] p
    flush_failed keeps none taken failed = record {
      front = [];
      back = [];
      joined = refl;
      puts = record {
        after = kept_still keeps.kept (omega (arith, keeps.failures, one_fault p failed)) none taken (λ w. cc);
        no_fewer = omega (arith, no_fault o works);
      };
      failed = omega (arith, one_fault p failed);
    }

  -- a call after a fault
  pub again : (calls : W → Calls) (o : Outlet W) → o.failed ≡ true → PutsPrefix (IsGiven calls) failures_of o [] o
  again calls o failed = record {
    front = [];
    back = [];
    joined = refl;
    puts = record {
      after = λ start before h. subst (λ (t : List ℕ). IsGiven calls start t o) (sym (append-nil before)) h;
      no_fewer = omega arith;
    };
    failed = omega (arith, one_fault o failed);
  }

  -- a call that fails after one that succeeded
  pub fails_after : (calls : W → Calls) (o m p : Outlet W) → Puts (IsGiven calls) failures_of o [] m
      → PutsPrefix (IsGiven calls) failures_of m [] p → PutsPrefix (IsGiven calls) failures_of o [] p
  fails_after calls o m p a b = record {
    front = b.front;
    back = b.back;
    joined = b.joined;
    puts = Puts-then (IsGiven calls) failures_of o m p [] b.front a b.puts;
    failed = b.failed;
  }

  -- a call after one that put nothing
  pub writes_after : (calls : W → Calls) (o m p : Outlet W) (answer : Result Unit SinkFault) → Puts (IsGiven calls) failures_of o [] m
      → Writes (IsGiven calls) failures_of m [] answer p → Writes (IsGiven calls) failures_of o [] answer p
  writes_after calls o m p (Ok done) a b = Puts-then (IsGiven calls) failures_of o m p [] [] a b
  writes_after calls o m p (Err fault) a b = fails_after calls o m p a b
