-- What an outlet was given, and what its writer took of it.
use Rattle.std.specs.Prelude.{◌≡◌, ℕ, ◌+◌, ◌-◌, ◌^◌, min, List, [], ◌++◌, length, Result, Err, true, false, if◌then◌else◌}
use Rattle.std.specs.Borrow.{MutBor}
use Rattle.std.specs.Io.KnownBytes.{Appends}
use Rattle.oas_bytes.specs.Devices.{Calls, FailsAfter}
use Rattle.oas_bytes.specs.declared.outlets.Outlet.{Outlet}
use Rattle.oas_bytes.specs.declared.sinks.SinkFault.{SinkFault}
use Rattle.oas_bytes.specs.declared.sinks.SinkFault.TheVariants.{Device}

module _ {W : Type 0} where
  -- it has had a fault
  abbrev pub HasFailed : Outlet W → Type 0
  HasFailed o = o.failed ≡ true

  -- the bytes that the writer will still take: after a fault none
  abbrev pub unsent : Outlet W → List ℕ
  unsent o = if o.failed then [] else o.window

  abbrev pub failures_of : Outlet W → ℕ
  failures_of o = if o.failed then 1 else 0

  -- it is over this writer, and was given nothing yet
  pub record Opens (writer : MutBor W) (o : Outlet W) : Type 0 where
    pub same_writer : o.writer.ghost_name ≡ writer.ghost_name
    pub same : o.writer.now ≡ writer.now
    pub none_taken : o.taken ≡ 0
    pub none_unsent : unsent o ≡ []
    pub works : o.failed ≡ false

  -- Between two of its states it was given these bytes. Of what was unsent and these bytes, the writer has taken `sent`.
  -- `kept` is what is unsent now, or what was lost after a fault, which is one call of the writer that failed.
  pub record IsGiven (calls : W → Calls) (start : Outlet W) (bytes : List ℕ) (now : Outlet W) : Type 0 where
    pub same_writer : now.writer.ghost_name ≡ start.writer.ghost_name
    pub sent : List ℕ
    pub kept : List ℕ
    pub split : unsent start ++ bytes ≡ sent ++ kept
    pub took : Appends (calls start.writer.now).contents (calls now.writer.now).contents sent
    pub failures : (calls now.writer.now).failures + failures_of start ≡ (calls start.writer.now).failures + failures_of now
    pub counted : now.taken ≡ min (start.taken + length sent) (2 ^ 64 - 1)
    pub waits : now.failed ≡ false → kept ≡ unsent now

  -- the writer has taken all that it was given
  pub record NoneWaits (o : Outlet W) : Type 0 where
    pub works : o.failed ≡ false
    pub none : unsent o ≡ []

  -- and a flush after the last byte is on record
  pub record IsSent (o : Outlet W) : Type 0 where
    pub works : o.failed ≡ false
    pub none : unsent o ≡ []
    pub flushed : o.flush_record.flushed ≡ true

  -- a call after a fault returns it and changes nothing, and a call that has a fault keeps it
  pub record Answers (old : Outlet W) (answer : Result Unit SinkFault) (new : Outlet W) : Type 0 where
    pub again : HasFailed old → (answer ≡ Err Device) × (new ≡ old)
    pub fault : answer ≡ Err Device → HasFailed new

-- A writer took a prefix of these bytes, and then failed. `taken` is the length of the prefix; the count stops at u64::MAX.
pub record ConsumesPrefix {W : Type 0} (calls : W → Calls) (old new : W) (bytes : List ℕ) (taken : ℕ) : Type 0 where
  pub front : List ℕ
  pub back : List ℕ
  pub joined : bytes ≡ front ++ back
  pub took : FailsAfter (calls old) front (calls new)
  pub counted : taken ≡ min (length front) (2 ^ 64 - 1)
