use Rattle.std.proofs.Common.{refl}
use Rattle.std.proofs.lemmas.Option.{IfSome_then}
use Rattle.oas_num.proofs.ReadLemmas.{Consumed-one}
use Rattle.oas_writing.proofs.Refusing.{head_refuses}
use Rattle.oas_judge.proofs.judge.FileJudge.begin_named.Goals as goal

pub returns-in-Err-clause-refused : goal.returns-in-Err-clause-refused
returns-in-Err-clause-refused g c = rw (c.requires.starts, ← c.new-keeping.ensures, c.finish-source.ensures.now) (λ limits. head_refuses _ c.in-Err.ensures)

pub returns-clause-begun : goal.returns-clause-begun
returns-clause-begun g c =
    let read = c.in-Ok.ensures in
    let kept = rw (← c.new-keeping.ensures, c.finish-source.ensures.now) at c.finish-source.ensures.kept in
    rw (c.requires.starts, ← c.new-keeping.ensures, c.finish-source.ensures.now) (record {
      start = read.bytes;
      spelled = read.spelled;
      takes = read.takes;
      judging = record {
        by = refl;
        begins = c.begins_so.ensures read.bytes (IfSome_then c.finish-source.result.1 kept (λ bytes takes. Consumed-one takes read.takes));
        stands = λ told. c.new-2.ensures c.args.profile;
      };
    })
