use Rattle.std.proofs.Common.{◌-◌, ◌^◌}
use Rattle.oas_long_integers.specs.Shortening.{short_script}
use Rattle.oas_long_integers.proofs.SourceLemmas.{Quiet}
use Rattle.oas_long_integers.proofs.sources.ShortenedSourceSource.next.Given as goal

abbrev pub invariant-loop-byte : goal.invariant-loop-byte
invariant-loop-byte g l = Quiet (short_script g.K.Start.script g.K.Start.first (g.S.Source.script l.fn.self.source.now) l.fn.self.place l.fn.self.kept l.fn.self.ending) (short_script g.K.Start.script g.K.Start.first (g.S.Source.script l.self.source.now) l.self.place l.self.kept l.self.ending)

abbrev pub decreases-loop-byte : goal.decreases-loop-byte
decreases-loop-byte g l = 2 ^ 64 - l.self.kept
