use Rattle.std.proofs.Common.{ap, ◌∙◌}
use Rattle.oas_reader.proofs.SeriesLemmas.{room_kept, lands_kept, series_ok}
use Rattle.oas_reader.proofs.reader.Reader.take_series.Goals as goal

pub accept_series-requires-clause-room : goal.accept_series-requires-clause-room
accept_series-requires-clause-room g c = room_kept g.S.CellStore.store c.self.inside.failed c.self.inside.parts c.args.self.now c.args.count c.args.weight c.self.view_is c.requires.room

pub accept_series-requires-clause-lands : goal.accept_series-requires-clause-lands
accept_series-requires-clause-lands g c = lands_kept g.S.CellStore.store c.self.inside.failed c.self.inside.parts c.args.self.now c.args.last c.self.view_is c.requires.lands

pub accept_series-requires-clause-sound : goal.accept_series-requires-clause-sound
accept_series-requires-clause-sound g c = c.self.invariant (ap (λ v. v.failed) c.self.view_is ∙ c.requires.room.going)

pub returns-clause-taken : goal.returns-clause-taken
returns-clause-taken g c = λ rs series h is. series_ok g.S.CellStore.store c.self.inside.failed c.self.inside.parts c.accept_series.new.parts c.args.self.now rs series c.args.last c.args.count c.args.weight c.self.view_is h is
    c.accept_series.ensures.new
