use Rattle.std.proofs.Common.{◌≡◌, ◌-◌, ◌^◌}
use Rattle.oas_num.specs.Script.{Script}
use Rattle.oas_elements.specs.declared.profile.Profile.{Profile}
use Rattle.oas_writing.specs.Stands.{ReaderState}
use Rattle.oas_judge.specs.declared.judge.FileJudge.{FileJudge}
use Rattle.oas_judge.specs.Judged.{HasBegun, HasSeen}
use Rattle.oas_judge.proofs.parts.judge_rest.Given as goal

abbrev pub invariant-parts : goal.invariant-parts
invariant-parts g l = record {
  place : l.at ≡ (g.S.Source.script l.source).given;
  seen : (profile : Profile) (now : Script) (first : ReaderState g.row.C.Denot) (judge : FileJudge) (b : HasBegun g.C.CellStore.store profile l.head now first judge)
      → HasSeen g.C.CellStore.store profile l.head b.begun.start b.origin first (g.S.Source.script l.fn.source) l.fn.reader l.fn.judge
      → HasSeen g.C.CellStore.store profile l.head b.begun.start b.origin first (g.S.Source.script l.source) l.reader l.judge;
}

abbrev pub decreases-parts : goal.decreases-parts
decreases-parts g l = 2 ^ 64 - l.at
