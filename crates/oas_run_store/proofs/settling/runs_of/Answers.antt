use Rattle.std.proofs.Common.{◌+◌, ◌++◌, drop, ap, arith}
use Rattle.std.proofs.lemmas.List.{drop_all}
use Rattle.std.specs.Cmp.Lexicographic.{slice_cmp}
use Rattle.std.specs.Ordering.{nat_cmp}
use Rattle.oas_runs.specs.Blocks.{joined}
use Rattle.oas_runs.specs.Entries.{entries}
use Rattle.oas_run_store.specs.Loose.{first_of, entries_of}
use Rattle.oas_run_store.proofs.PartLemmas.{IsRun-empty}
use Rattle.oas_run_store.proofs.LooseLemmas.{nothing, next_left, begun_same, no_runs, turn_fits, turn_same, turns_fit, turns_same}
use Rattle.oas_run_store.proofs.settling.runs_of.Goals as goal

pub loop-place-init : goal.loop-place-init
loop-place-init c = record {
  run = IsRun-empty (slice_cmp nat_cmp) c.in_ok-summing.summing c.in_ok-summing.ensures;
  are = no_runs (slice_cmp nat_cmp) c.new-runs.result.items c.new-runs.ensures.items;
  same = begun_same c.in_ok-summing.summing (entries_of c.args.bytes.now c.args.sorted.now) c.new-runs.result.items c.in_ok-summing.ensures c.new-runs.ensures.items;
}

pub put_first-requires-clause-fits : goal.put_first-requires-clause-fits
put_first-requires-clause-fits c =
    turn_fits (slice_cmp nat_cmp) (c.loop-place.summing ++ joined c.loop-place.runs.items) (entries_of c.args.bytes.now (drop c.loop-place.place-index c.args.sorted.now))
    (entries_of c.args.bytes.now (drop (c.loop-place.place-index + 1) c.args.sorted.now)) (entries_of c.args.bytes.now c.args.sorted.now)
    (first_of (entries c.left.result.now))
    (next_left c.args.bytes.now c.left.result.now c.args.sorted.now c.loop-place.place-index nothing c.loop-place-test.true c.left.ensures) c.loop-place.invariant.same c.requires.fits

pub loop-place-preserved : goal.loop-place-preserved
loop-place-preserved c = record {
  run = c.in_ok-put_first.ensures.run;
  are = c.in_ok-put_first.ensures.runs;
  same = turn_same (c.loop-place.summing ++ joined c.loop-place.runs.items) (c.put_first.new.summing ++ joined c.put_first.new.runs.items)
      (entries_of c.args.bytes.now (drop c.loop-place.place-index c.args.sorted.now)) (entries_of c.args.bytes.now (drop (c.loop-place.place-index + 1) c.args.sorted.now))
      (entries_of c.args.bytes.now c.args.sorted.now) (first_of (entries c.left.result.now))
      (next_left c.args.bytes.now c.left.result.now c.args.sorted.now c.loop-place.place-index nothing c.loop-place-test.true c.left.ensures) c.in_ok-put_first.ensures.same c.loop-place.invariant.same;
}

pub settle_rising-requires-clause-fits : goal.settle_rising-requires-clause-fits
settle_rising-requires-clause-fits c =
    turns_fit (slice_cmp nat_cmp) (c.loop-place.summing ++ joined c.loop-place.runs.items) (entries_of c.args.bytes.now (drop c.loop-place.place-index c.args.sorted.now))
    (entries_of c.args.bytes.now c.args.sorted.now) c.loop-place.invariant.same c.requires.fits

pub returns-clause-same : goal.returns-clause-same
returns-clause-same c =
    turns_same (c.loop-place.summing ++ joined c.loop-place.runs.items) (entries_of c.args.bytes.now (drop c.loop-place.place-index c.args.sorted.now)) c.settle_rising.new.rising
    (joined c.settle_rising.new.runs.items) (entries_of c.args.bytes.now c.args.sorted.now) c.loop-place.invariant.same
    (ap (entries_of c.args.bytes.now) (drop_all c.loop-place.place-index c.args.sorted.now (omega (arith, c.loop-place-test.false)))) c.in_ok-settle_rising.ensures.ok
    c.in_ok-settle_rising.ensures.same
