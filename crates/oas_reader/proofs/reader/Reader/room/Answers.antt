use Rattle.std.proofs.Common.{sym, ◌∙◌}
use Rattle.std.proofs.lemmas.Option.{IfSome_then}
use Rattle.oas_reader.proofs.SeriesLemmas.{not_failed, room_seen}
use Rattle.oas_reader.proofs.reader.Reader.room.Goals as goal

pub returns-clause-room : goal.returns-clause-room
returns-clause-room g c =
    IfSome_then c.room_in.result c.room_in.ensures.room
    (λ room h. room_seen g.S.CellStore.store c.self.inside.failed c.self.inside.parts c.args.self.now room.elements room.weight c.self.view_is (not_failed c.self.inside.failed (sym c.is_some.ensures ∙ c.if-is_some.false)) h)
