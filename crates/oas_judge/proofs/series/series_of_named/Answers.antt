use Rattle.std.proofs.lemmas.Result.{err_from_is_err_and}
use Rattle.oas_judge.proofs.SeriesSteps.{series_within, series_room, series_lands, end_far, last_within, early_place, last_place, series_judged, series_refused}
use Rattle.oas_judge.proofs.series.series_of_named.Goals as goal

pub take_named_series-taken-requires-clause-room : goal.take_named_series-taken-requires-clause-room
take_named_series-taken-requires-clause-room g c = series_room ((rw c.ahead.ensures at c.in-Some-gather_named.ensures).some) c.in-Some.ensures.room

pub take_named_series-taken-requires-clause-lands : goal.take_named_series-taken-requires-clause-lands
take_named_series-taken-requires-clause-lands g c = series_lands ((rw c.ahead.ensures at c.in-Some-gather_named.ensures).some) c.in-Some.ensures.room

pub skip-requires : goal.skip-requires
skip-requires g c = series_within ((rw c.ahead.ensures at c.in-Some-gather_named.ensures).some)

pub returns-in_err-taken : goal.returns-in_err-taken
returns-in_err-taken g c =
    let p = err_from_is_err_and c.from_residual.result c.from_residual.ensures.1 in
    let e = (rw c.ahead.ensures at c.in-Some-gather_named.ensures).some in
    rw (p.1, p.2) (series_refused c.in-Some.ensures.room e c.skip.ensures _ (early_place e c.skip.ensures _ _ _ c.at.ensures c.saturating_add-at.ensures c.at-end.ensures c.at-end.type_inv) _ c.in_err-taken.ensures.refused)

pub overflow_sub-series : goal.overflow_sub-series
overflow_sub-series g c = last_within ((rw c.ahead.ensures at c.in-Some-gather_named.ensures).some)

pub overflow_sub-result : goal.overflow_sub-result
overflow_sub-result g c = end_far ((rw c.ahead.ensures at c.in-Some-gather_named.ensures).some) c.skip.ensures c.at-end.result c.at-end.ensures

pub returns : goal.returns
returns g c =
    let e = (rw c.ahead.ensures at c.in-Some-gather_named.ensures).some in
    series_judged c.in-Some.ensures.room e c.skip.ensures _ (last_place e c.skip.ensures _ c.at-end.ensures) _ c.in_ok-taken.ensures.taken c.in_ok-taken.ensures.unit c.in_ok-taken.ensures.limits c.in_ok-taken.ensures.profile
