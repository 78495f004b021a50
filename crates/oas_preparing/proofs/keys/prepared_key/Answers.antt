use Rattle.oas_preparing.proofs.AnswerLemmas.{unkeyed}
use Rattle.oas_preparing.proofs.JudgedLemmas.{keys_given}
use Rattle.oas_preparing.proofs.keys.prepared_key.Goals as goal

pub returns-in-Ok : goal.returns-in-Ok
returns-in-Ok g c =
    let read = rw c.in-Ok.is at c.in_ok-read.ensures in
    record { again = read.again; last = read.last; gives = read.gives; ran = keys_given c.in-Ok.given c.in-Ok.report _ c.given_key.ensures read.ran }

pub returns-in-Err : goal.returns-in-Err
returns-in-Err g c =
    let read = rw c.in-Err.is at c.in_ok-read.ensures in
    record { again = read.again; last = read.last; gives = read.gives; ran = unkeyed _ read.ran }
