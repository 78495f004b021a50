use Rattle.std.proofs.Common.{rules, ◌≡◌, ◌+◌, ◌<◌, ◌^◌, length, refl, arith}
use Rattle.oas_runs.specs.Laws.EntryLaws.{stands, entries-none}
use Rattle.oas_runs.proofs.EntryLemmas.{reads, Reads}
use Rattle.oas_runs.proofs.entry.read_long.Goals as goal
use Rattle.oas_runs.proofs.entry.read_long.Goals.{After-read_number-times, After-part, After-read_number-size}

pub returns-then-is_empty-clause-none : goal.returns-then-is_empty-clause-none
returns-then-is_empty-clause-none c = let none : length c.args.bytes.now ≡ 0 = search rules in entries-none _ none

pub read_number-size-requires-clause-long : goal.read_number-size-requires-clause-long
read_number-size-requires-clause-long c = let some : 0 < length c.args.bytes.now = search rules in (stands c.args.bytes.now some c.requires).long

pub after-requires : goal.after-requires
after-requires c = let some : 0 < length c.args.bytes.now = search rules in omega (arith, (stands c.args.bytes.now some c.requires).after, c.read_number-size.ensures.size)

pub read_number-times-requires-clause-some : goal.read_number-times-requires-clause-some
read_number-times-requires-clause-some c =
    let some : 0 < length c.args.bytes.now = search rules in
    rw (c.after.ensures, c.read_number-size.ensures.size) (stands c.args.bytes.now some c.requires).count

pub read_number-times-requires-clause-long : goal.read_number-times-requires-clause-long
read_number-times-requires-clause-long c =
    let some : 0 < length c.args.bytes.now = search rules in
    rw (c.after.ensures, c.read_number-size.ensures.size) (stands c.args.bytes.now some c.requires).long_count

pub part-requires : goal.part-requires
part-requires c =
    let some : 0 < length c.args.bytes.now = search rules in
    (reads c.args.bytes.now c.after.result.now _ c.read_number-size.result.size c.read_number-size.result.value c.read_number-times.result.size
    c.read_number-times.result.value (stands c.args.bytes.now some c.requires) c.read_number-size.ensures.size c.read_number-size.ensures.value
    c.after.ensures c.read_number-times.ensures.size c.read_number-times.ensures.value refl).within

read : (c : After-part) → Reads c.args.bytes.now c.part.result.now c.read_number-times.result.value (c.read_number-size.result.size + c.read_number-times.result.size + c.read_number-size.result.value)
read c =
    let some : 0 < length c.args.bytes.now = search rules in
    reads c.args.bytes.now c.after.result.now c.part.result.now c.read_number-size.result.size c.read_number-size.result.value c.read_number-times.result.size
    c.read_number-times.result.value (stands c.args.bytes.now some c.requires) c.read_number-size.ensures.size c.read_number-size.ensures.value
    c.after.ensures c.read_number-times.ensures.size c.read_number-times.ensures.value c.part.ensures

pub overflow_add-result : goal.overflow_add-result
overflow_add-result c =
    let most : length c.args.bytes.now < 2 ^ 64 = search rules in
    omega (arith, (read c).within, most)

pub returns-clause-some : goal.returns-clause-some
returns-clause-some c = (read c).some

pub returns-clause-rest : goal.returns-clause-rest
returns-clause-rest c = (read c).rest

pub returns-clause-within : goal.returns-clause-within
returns-clause-within c = (read c).within
