use Rattle.std.proofs.Common.{None, sym, subst, ◌∙◌, arith}
use Rattle.std.proofs.lemmas.Result.{err_from_is_err_and}
use Rattle.oas_num.specs.Script.{Script}
use Rattle.oas_prepare.proofs.Inner.{HasSome, some_none, some_all, some_kept, kept_at, some_pads, some_more}
use Rattle.oas_prepare.proofs.InnerStops.{some_inside}
use Rattle.oas_prepare.proofs.inside.take_data.Goals as goal

pub records-init : goal.records-init
records-init g c = record {
  some = λ records stands prepared.
      subst (λ (s : Script). HasSome g.C.CellStore.store c.args.flag_in_end c.args.preparation.now records c.args.plain.now.items s c.args.preparation.now None) (sym c.new-source.ensures)
      (some_none g.C.CellStore.store c.args.flag_in_end c.args.preparation.now records c.args.plain.now.items stands prepared);
}

pub returns-then-within-length : goal.returns-then-within-length
returns-then-within-length g c = λ records stands prepared. some_all (c.records.invariant.some records stands prepared) (sym c.at-within.ensures ∙ c.if-within-length.true ∙ c.len-length.ensures)

pub returns-in_err-take_inside : goal.returns-in_err-take_inside
returns-in_err-take_inside g c =
    let p = err_from_is_err_and c.from_residual.result c.from_residual.ensures.1 in
    let none = rw c.if-pads-eq0.true at c.skip_zeros-pads.ensures.takes in
    rw (p.1, p.2) (λ records stands prepared.
    some_inside (some_kept (c.records.invariant.some records stands prepared) none) (λ e. c.if-within-length.false (kept_at c.at-within.ensures none ∙ e ∙ sym c.len-length.ensures)) _ c.in_err-take_inside.ensures)

pub records-preserved-in_ok-take_inside : goal.records-preserved-in_ok-take_inside
records-preserved-in_ok-take_inside g c =
    let none = rw c.if-pads-eq0.true at c.skip_zeros-pads.ensures.takes in
    let o = c.in_ok-take_inside.ensures in
    record {
      some = λ records stands prepared.
          let m = some_kept (c.records.invariant.some records stands prepared) none in
          some_more m _ (kept_at c.at-within.ensures none) (c.skip_zeros-pads.ensures.stops (omega arith)) o.read _ (o.taken _ m.made.stands) o.same;
    }

pub records-preserved : goal.records-preserved
records-preserved g c = record {
  some = λ records stands prepared.
      let skip = c.skip_zeros-pads.ensures in
      some_pads (c.records.invariant.some records stands prepared) _ c.at-within.ensures c.skip_zeros-pads.result (omega arith) skip.few skip.takes skip.stops;
}
