use Rattle.std.proofs.Common.{ap, ◌∙◌}
use Rattle.oas_peek.specs.Named.{named_record}
use Rattle.oas_reader.proofs.SeriesLemmas.{room_kept, lands_kept, series_ok}
use Rattle.oas_reader.proofs.reader.Reader.take_named_series.Goals as goal

pub accept_named_series-requires-clause-room : goal.accept_named_series-requires-clause-room
accept_named_series-requires-clause-room g c = room_kept g.S.CellStore.store c.self.inside.failed c.self.inside.parts c.args.self.now c.args.count c.args.weight c.self.view_is c.requires.room

pub accept_named_series-requires-clause-lands : goal.accept_named_series-requires-clause-lands
accept_named_series-requires-clause-lands g c = lands_kept g.S.CellStore.store c.self.inside.failed c.self.inside.parts c.args.self.now (named_record c.args.last.now) c.self.view_is c.requires.lands

pub accept_named_series-requires-clause-sound : goal.accept_named_series-requires-clause-sound
accept_named_series-requires-clause-sound g c = c.self.invariant (ap (λ v. v.failed) c.self.view_is ∙ c.requires.room.going)

pub returns-in-Ok-clause-taken : goal.returns-in-Ok-clause-taken
returns-in-Ok-clause-taken g c = λ rs series h is. series_ok g.S.CellStore.store c.self.inside.failed c.self.inside.parts c.accept_named_series.new.parts c.args.self.now rs series (named_record c.args.last.now) c.args.count
    c.args.weight c.self.view_is h is c.in-Ok.ensures.new
