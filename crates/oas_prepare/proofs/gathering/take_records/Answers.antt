use Rattle.std.proofs.Common.{ap, arith}
use Rattle.std.proofs.lemmas.Result.{err_from_is_err_and}
use Rattle.oas_narrow.specs.WideRecord.TheVariants.{Block}
use Rattle.oas_prepare.proofs.Blocks.{block_more, block_stops, prepared_by}
use Rattle.oas_prepare.proofs.Gathered.{still_gathered, one_more, one_stops, gather_ends}
use Rattle.oas_prepare.proofs.Items.{wide_onward}
use Rattle.oas_prepare.proofs.gathering.take_records.Goals.{in-Taken, in-Block+in_ok-take_block-in-Block}
use Rattle.oas_prepare.proofs.gathering.take_records.Goals as goal

pub returns-in_err-take_next : goal.returns-in_err-take_next
returns-in_err-take_next g c =
    let p = err_from_is_err_and c.from_residual.result c.from_residual.ensures.1 in
    rw (p.1, p.2) (λ origin b. one_stops (c.records.invariant.gathered origin b) _ c.in_err-take_next.ensures)

pub returns-in-End : goal.returns-in-End
returns-in-End g c =
    let ended = rw c.in-End.is at c.in_ok-take_next.ensures in
    λ origin b. gather_ends (still_gathered ended.1 (c.records.invariant.gathered origin b)) _ _ c.records.invariant.place ended.0

pub returns-in_err-take_block-in-Block : goal.returns-in_err-take_block-in-Block
returns-in_err-take_block-in-Block g c =
    let p = err_from_is_err_and c.from_residual-in_err-take_block-in-Block.result c.from_residual-in_err-take_block-in-Block.ensures.1 in
    let begun = rw c.in-Block.is at c.in_ok-take_next.ensures in
    rw (p.1, p.2) (λ origin b.
    let m = still_gathered begun.1 (c.records.invariant.gathered origin b) in
    block_stops m begun.0 _ c.records.invariant.place _ (c.in_err-take_block-in-Block.ensures m.records m.stands (prepared_by m begun.0)))

pub records-smaller : goal.records-smaller
records-smaller g c = elim c.match-branch-2.branch [
  | in-Taken w ↦
      let read = (rw w.in-Taken.is at c.in_ok-take_next.ensures).read in
      let on = wide_onward c.args.head.flag_in_end _ read.bytes read.spelled.spelled read.takes in
      let same = ap (λ s. (g.S.Source.script s).given) w.source-is in
      omega (arith, on, same, c.at-at-in-records.ensures, c.records.invariant.place)
  | in-Block+in_ok-take_block-in-Block w ↦
      let read = (rw w.in-Block.is at c.in_ok-take_next.ensures).0 in
      let on = wide_onward c.args.head.flag_in_end (Block w.in-Block.block) read.bytes read.spelled read.takes in
      let more = w.in_ok-take_block-in-Block.ensures.0 in
      let same = ap (λ s. (g.S.Source.script s).given) w.source-is in
      omega (arith, on, more, same, c.at-at-in-records.ensures, c.records.invariant.place)
]

pub records-preserved : goal.records-preserved
records-preserved g c = record {
  place = c.at-at-in-records.ensures;
  gathered = λ origin b. elim c.match-branch-2.branch [
    | in-Taken w ↦
        let taken = rw w.in-Taken.is at c.in_ok-take_next.ensures in
        rw (w.source-is, w.preparation-is) (one_more (c.records.invariant.gathered origin b) taken)
    | in-Block+in_ok-take_block-in-Block w ↦
        let begun = rw w.in-Block.is at c.in_ok-take_next.ensures in
        let m = still_gathered begun.1 (c.records.invariant.gathered origin b) in
        rw (w.source-is, w.preparation-is) (block_more m begun.0 (w.in_ok-take_block-in-Block.ensures.1 m.records m.stands (prepared_by m begun.0)))
  ];
}
