use Rattle.std.proofs.Common.{◌≡◌, arith}
use Rattle.oas_shape.proofs.repetitions.read_repetition.Goals as goal

pub returns-in-1 : goal.returns-in-1
returns-in-1 g c = rw c.in-1.is c.read_matrix.ensures

pub returns-in-2 : goal.returns-in-2
returns-in-2 g c = rw c.in-2.is c.read_columns.ensures

pub returns-in-3 : goal.returns-in-3
returns-in-3 g c = rw c.in-3.is c.read_rows.ensures

pub returns-in-4 : goal.returns-in-4
returns-in-4 g c = rw c.in-4.is c.read_listed.ensures

pub returns-in-5 : goal.returns-in-5
returns-in-5 g c = rw c.in-5.is c.read_listed-in-5.ensures

pub returns-in-6 : goal.returns-in-6
returns-in-6 g c = rw c.in-6.is c.read_listed-in-6.ensures

pub returns-in-7 : goal.returns-in-7
returns-in-7 g c = rw c.in-7.is c.read_listed-in-7.ensures

pub returns-in-8 : goal.returns-in-8
returns-in-8 g c = rw c.in-8.is c.read_lattice.ensures

pub returns-in-9 : goal.returns-in-9
returns-in-9 g c = rw c.in-9.is c.read_line.ensures

pub returns-in-10 : goal.returns-in-10
returns-in-10 g c = rw c.in-10.is c.read_listed-in-10.ensures

pub returns-in_default : goal.returns-in_default
returns-in_default g c =
    let e : c.args.kind ≡ 11 = omega arith in
    rw e c.read_listed-in_default.ensures
