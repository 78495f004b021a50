-- A reader's source while it has bytes.
use Rattle.std.proofs.Common.{◌≡◌, ◌≢◌, ℕ, zero, suc, ◌+◌, ◌-◌, min, ◌<◌, ◌≤◌, true, false, ltb, List, [], ◌∷◌, ◌++◌, length, take, drop, get_or, Option, Some, None, Ok, Err, refl, sym, ap, ◌∙◌, inl, inr, arith}
use Rattle.std.specs.Prelude.{slice_range}
use Rattle.std.specs.Io.KnownBytes.{Consumes}
use Rattle.std.proofs.Math.Seq.{take-append_seam, drop-append_seam, drop-cons}
use Rattle.std.proofs.lemmas.List.{append-nil, length-append, length-take, length-take-le, length-drop, take_all, drop-drop}
use Rattle.std.proofs.lemmas.Bool.{cases_lt, lt-ltb, le-ltb}
use Rattle.oas_bytes.specs.declared.sources.SourceFault.TheVariants.{TooLong}
use Rattle.oas_bytes.specs.declared.readers.Ending.{Ending}
use Rattle.oas_bytes.specs.declared.readers.Ending.TheVariants as endings
use Rattle.oas_bytes.specs.Script.{Script, Rest, Gave, Consumed, NoneLeft, IsTooLong, Next}
use Rattle.oas_bytes.specs.Readers.{rest_from, reader_script, WaitsOnly, IsSoundReader}
use Rattle.oas_bytes.proofs.ScriptLemmas.{Consumed-none, Consumed-then, take_on}

ltb_suc : (a b : ℕ) → ltb (suc a) (suc b) ≡ ltb a b
ltb_suc a b =
    elim (cases_lt a b) [
      | inl lt ↦ rw (lt-ltb a b lt, lt-ltb (suc a) (suc b) (omega arith)) refl
      | inr le ↦ rw (le-ltb a b le, le-ltb (suc a) (suc b) (omega arith)) refl
    ]

-- The window has a byte, and the source is unchanged.
pub record IsReady (s : Script) (known : Option (List ℕ)) (returned window : List ℕ) (start end at limit : ℕ) (ending : Ending) : Type 0 where
  pub some : start < end
  pub within : end ≤ length window
  pub below : at ≤ limit
  pub is_open : ending ≡ endings.Open
  pub counted : length returned ≡ at + (end - start)
  pub behind : drop at returned ≡ slice_range window start end
  pub history : s.history ≡ take at returned
  pub given : s.given ≡ at
  pub limit_is : s.limit ≡ limit
  pub unreliable : s.reliable ≡ false
  pub failures : s.failures ≡ 0
  pub settled : s.settled ≡ None
  pub rest : Gave s.rest [] (rest_from known (slice_range window start end) (limit - at))

rest_same : (known : Option (List ℕ)) (held : List ℕ) (room : ℕ) → Gave (rest_from known held room) [] (rest_from known held room)
rest_same None held room = tt
rest_same (Some known) held room = (refl, refl)

pub stays : (s : Script) (known : Option (List ℕ)) (returned window : List ℕ) (start end at limit : ℕ) (ending : Ending)
    → reader_script known returned window start end at limit ending ≡ s → ending ≡ endings.Open → start < end → end ≤ length window → at ≤ limit
    → length returned ≡ at + (end - start) → drop at returned ≡ slice_range window start end → IsReady s known returned window start end at limit ending
stays s known returned window start end at limit ending is opened lt within below counted behind =
    rw (← is, opened) (record {
      some = lt;
      within = within;
      below = below;
      is_open = refl;
      counted = counted;
      behind = behind;
      history = refl;
      given = refl;
      limit_is = refl;
      unreliable = refl;
      failures = refl;
      settled = refl;
      rest = rest_same known (slice_range window start end) (limit - at);
    })

rest_filled : (known new : Option (List ℕ)) (n room : ℕ) (buf : List ℕ) → Consumes known new (take n buf) → Gave (rest_from known [] room) [] (rest_from new (take n buf) room)
rest_filled None new n room buf h = tt
rest_filled (Some xs) None n room buf h = absurd h
rest_filled (Some xs) (Some ys) n room buf h = (ap (take room) h, ap (λ (left : List ℕ). ltb room (length left)) (sym h))

no_range : (window : List ℕ) (start : ℕ) → slice_range window start start ≡ []
no_range window start = let e : start - start ≡ 0 = omega arith in rw e refl

-- what was given before a read is what was given after it
given_before : (returned back xs : List ℕ) (at : ℕ) → length returned ≡ at → back ≡ returned ++ xs → take at returned ≡ take at back
given_before returned back xs at count is = rw (is, ← count) (take_all (length returned) returned (omega arith) ∙ sym (take-append_seam returned xs))

given_behind : (returned back xs : List ℕ) (at : ℕ) → length returned ≡ at → back ≡ returned ++ xs → drop at back ≡ xs
given_behind returned back xs at count is = rw (is, ← count) (drop-append_seam returned xs)

pub fills : (s : Script) (known new : Option (List ℕ)) (returned back window buf : List ℕ) (start end at limit n : ℕ) (ending : Ending)
    → reader_script known returned window start end at limit ending ≡ s → ending ≡ endings.Open → start ≡ end → at ≤ limit → Consumes known new (take n buf)
    → n ≢ 0 → n ≤ length buf → length returned ≡ at → back ≡ returned ++ take n buf → IsReady s new back buf 0 n at limit ending
fills s known new returned back window buf start end at limit n ending is opened same below h some within count noted =
    let z : n - 0 ≡ n = omega arith in
    rw (← is, opened, same) (record {
      some = omega arith;
      within = within;
      below = below;
      is_open = refl;
      counted = omega (arith, ap length noted, length-append returned (take n buf), length-take-le n buf within);
      behind = rw z (given_behind returned back (take n buf) at count noted);
      history = given_before returned back (take n buf) at count noted;
      given = refl;
      limit_is = refl;
      unreliable = refl;
      failures = refl;
      settled = refl;
      rest = rw (no_range window end, z) (rest_filled known new n (limit - at) buf h);
    })

-- what is held from there begins with its byte
held_one : (window : List ℕ) (start end : ℕ) → start < end → end ≤ length window → slice_range window start end ≡ get_or window start 0 ∷ slice_range window (start + 1) end
held_one window start end some within =
    let e : end - start ≡ suc (end - suc start) = omega arith in
    let lt : start < length window = omega arith in
    let n : start + 1 ≡ suc start = omega arith in
    rw (n, e, drop-cons window start 0 lt) refl

module _ (s : Script) (known : Option (List ℕ)) (returned window : List ℕ) (start end at limit : ℕ) (ending : Ending) (r : IsReady s known returned window start end at limit ending) where
  one_held : slice_range window start end ≡ get_or window start 0 ∷ slice_range window (start + 1) end
  one_held = held_one window start end r.some r.within

  none_left : (known : Option (List ℕ)) (b : ℕ) (held : List ℕ) → NoneLeft (rest_from known (b ∷ held) 0) true
  none_left None b held = tt
  none_left (Some known) b held = (refl, lt-ltb 0 (suc (length (held ++ known))) (omega arith))

  pub is_too_long : limit ≤ at → IsTooLong (reader_script known returned window start end at limit endings.TooLong)
  is_too_long le =
      let e : limit - at ≡ 0 = omega arith in
      record { settled = refl; all = omega arith; none = rw (e, one_held) (none_left known (get_or window start 0) (slice_range window (start + 1) end)) }

  gave_same : (a : Option Rest) (b : Option (List ℕ)) (held : List ℕ) (room : ℕ) → Gave a [] (rest_from b held room) → Gave a [] (rest_from b held room)
  gave_same a b held room h = h

  pub too_long : limit ≤ at → Next s (Err TooLong) (reader_script known returned window start end at limit endings.TooLong)
  too_long le = record {
    again = rw r.settled tt;
    within = r.below;
    answers = (record { history = sym r.history ∙ sym (append-nil s.history); given = omega (arith, r.given); limit = sym r.limit_is; reliable = sym r.unreliable; failures = omega (arith, r.failures); rest = r.rest }, is_too_long le);
  }

  gave_one : (a : Option Rest) (b : Option (List ℕ)) (byte : ℕ) (held : List ℕ) (room : ℕ) → Gave a [] (rest_from b (byte ∷ held) (suc room)) → Gave a (byte ∷ []) (rest_from b held room)
  gave_one None b byte held room h = tt
  gave_one (Some a) None byte held room h = absurd h
  gave_one (Some a) (Some b) byte held room h = (h.0, sym (ltb_suc room (length (held ++ b))) ∙ h.1)

  pub takes_one : at < limit → Consumed s (get_or window start 0 ∷ []) (reader_script known returned window (start + 1) end (at + 1) limit ending)
  takes_one lt =
      let e : limit - at ≡ suc (limit - (at + 1)) = omega arith in
      rw r.is_open (record {
        history = take_on at 1 returned ∙ (λ i. sym r.history i ++ take 1 ((r.behind ∙ one_held) i));
        given = omega (arith, r.given);
        limit = sym r.limit_is;
        reliable = sym r.unreliable;
        failures = omega (arith, r.failures);
        rest = gave_one s.rest known (get_or window start 0) (slice_range window (start + 1) end) (limit - (at + 1)) (rw (e, one_held) at r.rest);
      })

  pub gives : (byte : ℕ) → at < limit → byte ≡ get_or window start 0 → byte < 256 → Next s (Ok (Some byte)) (reader_script known returned window (start + 1) end (at + 1) limit ending)
  gives byte lt is small = record {
    again = rw r.settled tt;
    within = omega arith;
    answers = (small, rw is (takes_one lt));
  }

-- The window has a byte, the source is unchanged, and this many bytes of the window may be given.
pub record HasNext (s : Script) (known : Option (List ℕ)) (returned window : List ℕ) (start end filled before limit : ℕ) (ending : Ending) : Type 0 where
  pub ready : IsReady s known returned window start filled (before + start) limit ending
  pub ordered : start ≤ end
  pub under : end ≡ min filled (limit - before)

pub waits_open : (ending : Ending) (start end : ℕ) → WaitsOnly ending start end → start < end → ending ≡ endings.Open
waits_open endings.Open start end h lt = refl
waits_open endings.Ended start end h lt = absurd (omega (arith, h))
waits_open endings.Failed start end h lt = absurd (omega (arith, h))
waits_open endings.TooLong start end h lt = absurd (omega (arith, h))

-- as it was
pub still_has : (s : Script) (known : Option (List ℕ)) (returned window : List ℕ) (start end filled before limit : ℕ) (ending : Ending)
    → reader_script known returned window start filled (before + start) limit ending ≡ s → IsSoundReader known returned window start end filled before limit ending
    → ending ≡ endings.Open → start ≢ filled → HasNext s known returned window start end filled before limit ending
still_has s known returned window start end filled before limit ending is h opened ne =
    let lt : start < filled = omega (arith, h.ordered, h.under, ne) in
    record { ready = stays s known returned window start filled (before + start) limit ending is opened lt h.within h.below (omega (arith, h.counted)) h.behind; ordered = h.ordered; under = h.under }

-- with a byte that may be given
pub has_byte : (s : Script) (known : Option (List ℕ)) (returned window : List ℕ) (start end filled before limit : ℕ) (ending : Ending)
    → reader_script known returned window start filled (before + start) limit ending ≡ s → IsSoundReader known returned window start end filled before limit ending
    → start < end → HasNext s known returned window start end filled before limit ending
has_byte s known returned window start end filled before limit ending is h lt =
    let ne : start ≢ filled = λ (e : start ≡ filled). omega (arith, h.under, lt, e) in
    still_has s known returned window start end filled before limit ending is h (waits_open ending start end h.waits lt) ne

-- after the window is filled again
pub has_filled : (s : Script) (known new : Option (List ℕ)) (returned back window buf : List ℕ) (start end filled before limit n last : ℕ) (ending : Ending)
    → reader_script known returned window start filled (before + start) limit ending ≡ s → IsSoundReader known returned window start end filled before limit ending
    → ending ≡ endings.Open → start ≡ filled → Consumes known new (take n buf) → n ≢ 0 → n ≤ length buf → last ≡ min n (limit - (before + start))
    → back ≡ returned ++ take n buf → HasNext s new back buf 0 last n (before + start) limit ending
has_filled s known new returned back window buf start end filled before limit n last ending is h opened same c some within e noted =
    let z : (before + start) + 0 ≡ before + start = omega arith in
    record {
      ready = rw z (fills s known new returned back window buf start filled (before + start) limit n ending is opened same h.below c some within (omega (arith, h.counted, same)) noted);
      ordered = omega arith;
      under = e;
    }

module _ (s : Script) (known : Option (List ℕ)) (returned window : List ℕ) (start end filled before limit : ℕ) (ending : Ending) (h : HasNext s known returned window start end filled before limit ending) where
  -- the byte is given
  pub gives_next : (byte : ℕ) → start < end → byte ≡ get_or window start 0 → byte < 256 → Next s (Ok (Some byte)) (reader_script known returned window (start + 1) filled (before + (start + 1)) limit ending)
  gives_next byte lt is small =
      let e : before + (start + 1) ≡ (before + start) + 1 = omega arith in
      let room : before + start < limit = omega (arith, h.under, lt) in
      rw e (gives s known returned window start filled (before + start) limit ending h.ready byte room is small)

  pub sound_next : start < end → IsSoundReader known returned window (start + 1) end filled before limit ending
  sound_next lt =
      rw h.ready.is_open (record {
        ordered = omega (arith, lt);
        within = h.ready.within;
        some = omega (arith, h.ready.some, h.ready.within);
        below = omega (arith, h.under, lt);
        under = h.under;
        counted = omega (arith, h.ready.counted, h.ready.some);
        behind =
            let e : before + (start + 1) ≡ (before + start) + 1 = omega arith in
            ap (λ (m : ℕ). drop m returned) e ∙ sym (drop-drop 1 (before + start) returned)
            ∙ ap (λ (xs : List ℕ). drop 1 xs) (h.ready.behind ∙ held_one window start filled h.ready.some h.ready.within);
        waits = tt;
        ends = tt;
      })

  -- the limit was reached, and the byte is after it
  pub meets_limit : end ≤ start → Next s (Err TooLong) (reader_script known returned window start filled (before + start) limit endings.TooLong)
  meets_limit le = too_long s known returned window start filled (before + start) limit ending h.ready (omega (arith, h.under, h.ready.some, le))

  pub sound_limit : end ≤ start → IsSoundReader known returned window start end filled before limit endings.TooLong
  sound_limit le = record {
    ordered = h.ordered;
    within = h.ready.within;
    some = omega (arith, h.ready.some, h.ready.within);
    below = h.ready.below;
    under = h.under;
    counted = omega (arith, h.ready.counted, h.ready.some);
    behind = h.ready.behind;
    waits = le;
    ends = is_too_long s known returned window start filled (before + start) limit ending h.ready (omega (arith, h.under, h.ready.some, le));
  }

-- The bytes at hand are those of the window that may be given.
length_held : (window : List ℕ) (start end : ℕ) → end ≤ length window → length (slice_range window start end) ≡ end - start
length_held window start end within = omega (arith, length-take (end - start) (drop start window), length-drop start window)

module _ (known : Option (List ℕ)) (returned window : List ℕ) (filled before limit : ℕ) (ending : Ending) where
  -- the source with its next byte there
  script_at : ℕ → Script
  script_at start = reader_script known returned window start filled (before + start) limit ending

  -- one byte at a time
  takes_held : (start end count : ℕ) → IsSoundReader known returned window start end filled before limit ending → count ≤ end - start
      → Consumed (script_at start) (take count (slice_range window start end)) (script_at (start + count))
  unfolding script_at
  takes_held start end zero h le = let e : start + 0 ≡ start = omega arith in rw e (Consumed-none (script_at start))
  takes_held start end (suc count) h le =
      let lt : start < end = omega arith in
      let n = has_byte (script_at start) known returned window start end filled before limit ending refl h lt in
      let room : before + start < limit = omega (arith, h.under, lt) in
      let within : end ≤ length window = omega (arith, h.under, h.within) in
      let next : before + (start + 1) ≡ (before + start) + 1 = omega arith in
      let more : start + suc count ≡ (start + 1) + count = omega arith in
      let byte : Consumed (script_at start) (get_or window start 0 ∷ []) (script_at (start + 1)) =
      rw next (takes_one (script_at start) known returned window start filled (before + start) limit ending n.ready room) in
      let sound = sound_next (script_at start) known returned window start end filled before limit ending n lt in
      rw (held_one window start end lt within, more)
      (Consumed-then (script_at start) (script_at (start + 1)) (script_at ((start + 1) + count)) (get_or window start 0 ∷ [])
      (take count (slice_range window (start + 1) end)) byte (takes_held (start + 1) end count sound (omega arith)))

  -- several bytes at once
  pub reader_skips : (start end count : ℕ) → IsSoundReader known returned window start end filled before limit ending → count ≤ length (slice_range window start end)
      → Consumed (reader_script known returned window start filled (before + start) limit ending) (take count (slice_range window start end))
      (reader_script known returned window (start + count) filled (before + (start + count)) limit ending)
  unfolding script_at
  reader_skips start end count h few =
      let within : end ≤ length window = omega (arith, h.under, h.within) in
      takes_held start end count h (omega (arith, few, length_held window start end within))

  pub sound_skips : (start end count : ℕ) → IsSoundReader known returned window start end filled before limit ending → count ≤ length (slice_range window start end)
      → IsSoundReader known returned window (start + count) end filled before limit ending
  unfolding script_at
  sound_skips start end zero h few = let e : start + 0 ≡ start = omega arith in rw e h
  sound_skips start end (suc count) h few =
      let within : end ≤ length window = omega (arith, h.under, h.within) in
      let lt : start < end = omega (arith, few, length_held window start end within) in
      let more : start + suc count ≡ (start + 1) + count = omega arith in
      let n = has_byte (script_at start) known returned window start end filled before limit ending refl h lt in
      let s = sound_next (script_at start) known returned window start end filled before limit ending n lt in
      rw more
      (sound_skips (start + 1) end count s (omega (arith, few, length_held window start end within, length_held window (start + 1) end within)))
