use Rattle.std.proofs.Common.{rules, ◌≡◌, ℕ, List, [], ◌∷◌, subst}
use Rattle.oas_reader.specs.Drawn.{Drawn}
use Rattle.oas_cells.specs.Placing.{AreSoundBy}
use Rattle.oas_cells.proofs.PlaceLemmas.{Placing, placing_more}
use Rattle.oas_cells.proofs.placing.place_counted.Goals as goal

pub loop-drawn-preserved : goal.loop-drawn-preserved
loop-drawn-preserved c =
    let rest : c.loop-drawn.drawn-iterator ≡ (c.in-Some.drawn, c.in-Some.times) ∷ c.next.new.self = search rules in
    placing_more c.args.profile c.args.names.now.named c.args.strings.now.named c.args.kept.now c.loop-drawn.kept c.place_one.new.kept c.args.waiting.entries c.next.new.self
    (c.in-Some.drawn, c.in-Some.times) (
    subst (λ (ps : List (Drawn × ℕ)). Placing c.args.profile c.args.names.now.named c.args.strings.now.named c.args.kept.now c.loop-drawn.kept c.args.waiting.entries ps) rest c.loop-drawn.invariant
    ) c.in_ok-place_one.ensures.placed c.in_ok-place_one.ensures.keys c.in_ok-place_one.ensures.sound

pub returns-clause-sound : goal.returns-clause-sound
returns-clause-sound c =
    let none : c.loop-drawn.drawn-iterator ≡ [] = search rules in
    subst (λ (ps : List (Drawn × ℕ)). AreSoundBy c.args.names.now.named c.args.strings.now.named ps → AreSoundBy c.args.names.now.named c.args.strings.now.named c.args.waiting.entries) none
    c.loop-drawn.invariant.sound tt
