use Rattle.std.proofs.Common.{◌≡◌, [], ◌++◌, ap, ◌∙◌, subst, sym}
use Rattle.oas_runs.specs.declared.growing.Growing.TheInside.{Inside}
use Rattle.oas_runs.specs.Blocks.{joined, NoneEmpty}
use Rattle.oas_runs.specs.Entries.{LastBegins}
use Rattle.oas_runs.proofs.BlockLemmas.{in_last, in_next, none_empty-more, push-some}
use Rattle.oas_runs.proofs.LastLemmas.{begins_next, begins_first}
use Rattle.oas_runs.proofs.growing.Growing.append.Goals as goal
use Rattle.oas_runs.proofs.growing.Growing.append.Goals.{then-has_room+in_ok-append, else-has_room+in_ok-begin_block}

pub returns-clause-ok : goal.returns-clause-ok
returns-clause-ok c = elim c.if-has_room.branch [
  | then-has_room+in_ok-append w ↦ ap (λ (s : Inside). joined s.full ++ s.last) w.self-inside-is
      ∙ in_last c.self.inside.full c.self.inside.last w.append.new.self c.args.self.now (c.args.key.now, c.args.times) w.in_ok-append.ensures.ok c.self.view_is
  | else-has_room+in_ok-begin_block w ↦
      ap (λ (s : Inside). joined s.full ++ s.last) w.self-inside-is
      ∙ in_next c.self.inside.full w.begin_block.new.full c.self.inside.last w.begin_block.new.last c.args.self.now (c.args.key.now, c.args.times)
      w.in_ok-begin_block.ensures.full w.in_ok-begin_block.ensures.last c.self.view_is
]

pub invariant_of-self-2 : goal.invariant_of-self-2
invariant_of-self-2 c = elim c.if-has_room.branch [
  | then-has_room+in_ok-append w ↦
      subst (λ (s : Inside). NoneEmpty s.full × (s.last ≡ [] → s.full ≡ []) × LastBegins s.at s.last) (sym w.self-inside-is) (
        c.self.invariant.0,
        λ e. absurd (push-some c.self.inside.last w.append.new.self (c.args.key.now, c.args.times) w.in_ok-append.ensures.ok e),
        begins_next w.len-at.result c.self.inside.last w.append.new.self (c.args.key.now, c.args.times) w.len-at.ensures w.in_ok-append.ensures.ok,
      )
  | else-has_room+in_ok-begin_block w ↦
      subst (λ (s : Inside). NoneEmpty s.full × (s.last ≡ [] → s.full ≡ []) × LastBegins s.at s.last) (sym w.self-inside-is) (
        subst NoneEmpty (sym w.in_ok-begin_block.ensures.full) (none_empty-more c.self.inside.full c.self.inside.last c.self.invariant.0 (c.has_room.ensures w.if-has_room.false)),
        λ e. absurd (push-some [] w.begin_block.new.last (c.args.key.now, c.args.times) w.in_ok-begin_block.ensures.last e),
        begins_first w.begin_block.new.last (c.args.key.now, c.args.times) w.in_ok-begin_block.ensures.last,
      )
]
