use Rattle.std.proofs.Common.{List, [], subst, sym}
use Rattle.oas_elements.specs.declared.profile.Profile.{Profile}
use Rattle.oas_runs.specs.Entries.{Entry}
use Rattle.oas_cells.specs.Compact.{Compact}
use Rattle.oas_cells.specs.declared.held.Held.{Held}
use Rattle.oas_cells.specs.Held.{keys_in, waiting_in}
use Rattle.oas_cells.specs.Placing.{Places, AreSoundBy}
use Rattle.oas_cells.proofs.PlaceLemmas.{means, places_none, sound_meant}
use Rattle.oas_cells.proofs.cells.CompactCell.into_run.Goals as goal

pub returns-in-Closed-clause-means : goal.returns-in-Closed-clause-means
returns-in-Closed-clause-means g c = λ ds h.
    means g.P.KeptBy.profile c.args.names.now.named c.args.strings.now.named c.args.self ds c.of_block.result h
    (subst (λ (s : Compact). Places g.P.KeptBy.profile c.args.names.now.named c.args.strings.now.named s.waiting s.keys c.of_block.result) c.self.view_is
    (subst (λ (it : Held). Places g.P.KeptBy.profile c.args.names.now.named c.args.strings.now.named (waiting_in it) (keys_in it) c.of_block.result) (sym c.in-Closed.is)
    (subst (λ (ks : List Entry). Places g.P.KeptBy.profile c.args.names.now.named c.args.strings.now.named [] c.in-Closed.block ks) (sym c.of_block.ensures)
    (places_none g.P.KeptBy.profile c.args.names.now.named c.args.strings.now.named c.in-Closed.block))))

pub returns-in-Closed-clause-sound : goal.returns-in-Closed-clause-sound
returns-in-Closed-clause-sound g c = λ ds h.
    sound_meant c.args.names.now.named c.args.strings.now.named g.P.KeptBy.profile c.args.self ds h
    (subst (λ (s : Compact). AreSoundBy c.args.names.now.named c.args.strings.now.named s.waiting) c.self.view_is
    (subst (λ (it : Held). AreSoundBy c.args.names.now.named c.args.strings.now.named (waiting_in it)) (sym c.in-Closed.is) tt))

pub returns-clause-means : goal.returns-clause-means
returns-clause-means g c = λ ds h.
    means g.P.KeptBy.profile c.args.names.now.named c.args.strings.now.named c.args.self ds c.in_ok-run-in-Open.run' h
    (subst (λ (s : Compact). Places g.P.KeptBy.profile c.args.names.now.named c.args.strings.now.named s.waiting s.keys c.in_ok-run-in-Open.run') c.self.view_is
    (subst (λ (it : Held). Places g.P.KeptBy.profile c.args.names.now.named c.args.strings.now.named (waiting_in it) (keys_in it) c.in_ok-run-in-Open.run') (sym c.in-Open.is)
    (subst (λ (ks : List Entry). Places g.P.KeptBy.profile c.args.names.now.named c.args.strings.now.named c.in-Open.waiting c.in-Open.kept ks) (sym c.in_ok-run-in-Open.ensures.same)
    (subst (λ (p : Profile). Places p c.args.names.now.named c.args.strings.now.named c.in-Open.waiting c.in-Open.kept c.place_all.new.kept) c.profile.ensures
    c.in_ok-place_all-in-Open.ensures.placed))))

pub returns-clause-sound : goal.returns-clause-sound
returns-clause-sound g c = λ ds h.
    sound_meant c.args.names.now.named c.args.strings.now.named g.P.KeptBy.profile c.args.self ds h
    (subst (λ (s : Compact). AreSoundBy c.args.names.now.named c.args.strings.now.named s.waiting) c.self.view_is
    (subst (λ (it : Held). AreSoundBy c.args.names.now.named c.args.strings.now.named (waiting_in it)) (sym c.in-Open.is) c.in_ok-place_all-in-Open.ensures.sound))
