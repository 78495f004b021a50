use Rattle.std.proofs.Common.{Err}
use Rattle.oas_preparing.proofs.JudgedLemmas.{stops}
use Rattle.oas_preparing.proofs.runs.prepare_telling.Goals as goal

pub returns-in-Ok : goal.returns-in-Ok
returns-in-Ok g c =
    let read = rw c.in-Ok.is at c.in_ok-read.ensures in
    let wrote = c.write_telling.ensures in
    record { again = read.again; last = read.last; gives = read.gives; ran = (wrote.0, wrote.1, wrote.2 c.args.limits c.args.dropping read.again read.last read.ran, wrote.3) }

pub returns-in-Err : goal.returns-in-Err
returns-in-Err g c =
    let read = rw c.in-Err.is at c.in_ok-read.ensures in
    record {
      again = read.again;
      last = read.last;
      gives = read.gives;
      ran = (Err c.in-Err.rejection, c.reject.ensures.status, stops g.W.Device.calls c.args.out.now c.in-Err.rejection read.ran, c.reject.ensures.tells);
    }
