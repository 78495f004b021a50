use Rattle.std.proofs.Common.{◌≡◌, length, drop, ap, arith}
use Rattle.std.proofs.lemmas.List.{take_at, get_or_read}
use Rattle.std.proofs.lemmas.Grind.{common_steps}
use Rattle.oas_bytes.specs.Readers.{Reading}
use Rattle.oas_bytes.proofs.ReaderLemmas.{HasNext, still_has, has_filled, gives_next, meets_limit, sound_next, sound_limit}
use Rattle.oas_bytes.proofs.readers.ReaderSource.next_window.Goals as goal
use Rattle.oas_bytes.proofs.readers.ReaderSource.next_window.Goals.{then-self+in-Ok, else-self}

pub returns-then-self-2 : goal.returns-then-self-2
returns-then-self-2 g c =
    let h : HasNext c.args.self.now.script (g.R.Read.remaining c.if-self.self-inside.reader.reader) c.if-self.self-inside.reader.returned.bytes c.if-self.self-inside.window.items c.if-self.self-inside.start
    c.if-self.self-inside.end c.if-self.self-inside.filled c.if-self.self-inside.before c.if-self.self-inside.limit c.if-self.self-inside.ending =
    (elim c.if-self.branch [
      | then-self+in-Ok w ↦
          let len : length w.read.new.buf ≡ c.self.inside.window.len = omega (arith, w.deref_mut.ensures.len) in
          rw (w.self-inside-is, take_at w.read.new.buf (drop (length w.read.new.buf) c.self.inside.window.items) c.self.inside.window.len len)
          (has_filled _ _ _ _ _ _ _ _ _ _ _ _ _ _ _ (ap (λ (r : Reading). r.script) c.self.view_is) c.self.invariant c.in-Open.is w.if-self.true w.in-Ok.ensures.bytes.0
          w.in-Ok.n-test.1 w.in-Ok.ensures.bound.0 w.min-self-inside.ensures w.in-Ok.ensures.noted)
      | else-self w ↦ rw w.self-inside-is (still_has _ _ _ _ _ _ _ _ _ _ (ap (λ (r : Reading). r.script) c.self.view_is) c.self.invariant c.in-Open.is w.if-self.false)
    ]) in
    meets_limit c.args.self.now.script (g.R.Read.remaining c.if-self.self-inside.reader.reader) c.if-self.self-inside.reader.returned.bytes c.if-self.self-inside.window.items c.if-self.self-inside.start
    c.if-self.self-inside.end c.if-self.self-inside.filled c.if-self.self-inside.before c.if-self.self-inside.limit c.if-self.self-inside.ending h
    c.if-self-2.true

pub invariant_of-self-then-self-2 : goal.invariant_of-self-then-self-2
invariant_of-self-then-self-2 g c =
    let h : HasNext c.args.self.now.script (g.R.Read.remaining c.if-self.self-inside.reader.reader) c.if-self.self-inside.reader.returned.bytes c.if-self.self-inside.window.items c.if-self.self-inside.start
    c.if-self.self-inside.end c.if-self.self-inside.filled c.if-self.self-inside.before c.if-self.self-inside.limit c.if-self.self-inside.ending =
    (elim c.if-self.branch [
      | then-self+in-Ok w ↦
          let len : length w.read.new.buf ≡ c.self.inside.window.len = omega (arith, w.deref_mut.ensures.len) in
          rw (w.self-inside-is, take_at w.read.new.buf (drop (length w.read.new.buf) c.self.inside.window.items) c.self.inside.window.len len)
          (has_filled _ _ _ _ _ _ _ _ _ _ _ _ _ _ _ (ap (λ (r : Reading). r.script) c.self.view_is) c.self.invariant c.in-Open.is w.if-self.true w.in-Ok.ensures.bytes.0
          w.in-Ok.n-test.1 w.in-Ok.ensures.bound.0 w.min-self-inside.ensures w.in-Ok.ensures.noted)
      | else-self w ↦ rw w.self-inside-is (still_has _ _ _ _ _ _ _ _ _ _ (ap (λ (r : Reading). r.script) c.self.view_is) c.self.invariant c.in-Open.is w.if-self.false)
    ]) in
    sound_limit c.args.self.now.script (g.R.Read.remaining c.if-self.self-inside.reader.reader) c.if-self.self-inside.reader.returned.bytes c.if-self.self-inside.window.items c.if-self.self-inside.start
    c.if-self.self-inside.end c.if-self.self-inside.filled c.if-self.self-inside.before c.if-self.self-inside.limit c.if-self.self-inside.ending h
    c.if-self-2.true

pub invariant_of-self-2 : goal.invariant_of-self-2
invariant_of-self-2 g c =
    let h : HasNext c.args.self.now.script (g.R.Read.remaining c.if-self.self-inside.reader.reader) c.if-self.self-inside.reader.returned.bytes c.if-self.self-inside.window.items c.if-self.self-inside.start
    c.if-self.self-inside.end c.if-self.self-inside.filled c.if-self.self-inside.before c.if-self.self-inside.limit c.if-self.self-inside.ending =
    (elim c.if-self.branch [
      | then-self+in-Ok w ↦
          let len : length w.read.new.buf ≡ c.self.inside.window.len = omega (arith, w.deref_mut.ensures.len) in
          rw (w.self-inside-is, take_at w.read.new.buf (drop (length w.read.new.buf) c.self.inside.window.items) c.self.inside.window.len len)
          (has_filled _ _ _ _ _ _ _ _ _ _ _ _ _ _ _ (ap (λ (r : Reading). r.script) c.self.view_is) c.self.invariant c.in-Open.is w.if-self.true w.in-Ok.ensures.bytes.0
          w.in-Ok.n-test.1 w.in-Ok.ensures.bound.0 w.min-self-inside.ensures w.in-Ok.ensures.noted)
      | else-self w ↦ rw w.self-inside-is (still_has _ _ _ _ _ _ _ _ _ _ (ap (λ (r : Reading). r.script) c.self.view_is) c.self.invariant c.in-Open.is w.if-self.false)
    ]) in
    sound_next c.args.self.now.script (g.R.Read.remaining c.if-self.self-inside.reader.reader) c.if-self.self-inside.reader.returned.bytes c.if-self.self-inside.window.items c.if-self.self-inside.start
    c.if-self.self-inside.end c.if-self.self-inside.filled c.if-self.self-inside.before c.if-self.self-inside.limit c.if-self.self-inside.ending h
    c.if-self-2.false

pub returns : goal.returns
returns g c =
    let h : HasNext c.args.self.now.script (g.R.Read.remaining c.if-self.self-inside.reader.reader) c.if-self.self-inside.reader.returned.bytes c.if-self.self-inside.window.items c.if-self.self-inside.start
    c.if-self.self-inside.end c.if-self.self-inside.filled c.if-self.self-inside.before c.if-self.self-inside.limit c.if-self.self-inside.ending =
    (elim c.if-self.branch [
      | then-self+in-Ok w ↦
          let len : length w.read.new.buf ≡ c.self.inside.window.len = omega (arith, w.deref_mut.ensures.len) in
          rw (w.self-inside-is, take_at w.read.new.buf (drop (length w.read.new.buf) c.self.inside.window.items) c.self.inside.window.len len)
          (has_filled _ _ _ _ _ _ _ _ _ _ _ _ _ _ _ (ap (λ (r : Reading). r.script) c.self.view_is) c.self.invariant c.in-Open.is w.if-self.true w.in-Ok.ensures.bytes.0
          w.in-Ok.n-test.1 w.in-Ok.ensures.bound.0 w.min-self-inside.ensures w.in-Ok.ensures.noted)
      | else-self w ↦ rw w.self-inside-is (still_has _ _ _ _ _ _ _ _ _ _ (ap (λ (r : Reading). r.script) c.self.view_is) c.self.invariant c.in-Open.is w.if-self.false)
    ]) in
    gives_next c.args.self.now.script (g.R.Read.remaining c.if-self.self-inside.reader.reader) c.if-self.self-inside.reader.returned.bytes c.if-self.self-inside.window.items c.if-self.self-inside.start
    c.if-self.self-inside.end c.if-self.self-inside.filled c.if-self.self-inside.before c.if-self.self-inside.limit c.if-self.self-inside.ending h
    c.index-byte.result.now c.if-self-2.false (get_or_read c.if-self.self-inside.window.items _ _ (omega (arith, h.ready.some, h.ready.within))
    c.index-byte.ensures 0) (omega arith)

pub returns-in-Ok-eq0 : goal.returns-in-Ok-eq0
returns-in-Ok-eq0 g c = grind (arith, common_steps)
