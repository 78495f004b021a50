use Rattle.std.proofs.Common.{◌≤◌, length, arith}
use Rattle.oas_judge.proofs.GivenLemmas.{left_still, read_on, wants_again}
use Rattle.oas_judge.proofs.joined.read_joined.Goals as goal

pub returns-then-is_left-clause-read : goal.returns-then-is_left-clause-read
returns-then-is_left-clause-read g c =
    wants_again c.args.kept.now c.requires.place c.requires.gave (left_still c.args.kept.now c.requires.kept c.read_layout-read.new.source.joined (omega (arith, c.if-is_left.true)))

pub returns-clause-read : goal.returns-clause-read
returns-clause-read g c =
    let all : length c.args.kept.now ≤ c.read_layout-read.new.source.at = omega (arith, c.if-is_left.false) in
    let read = rw c.new-joined.ensures.gives at c.read_layout-read.ensures in
    read_on c.args.kept.now c.requires.kept c.read_layout-read.new.source.joined c.args.limits c.args.profile c.read_layout-read.result c.requires.gave all read
