use Rattle.oas_judge.proofs.SeriesSteps.{series_within, series_room, series_lands, end_far, last_place, series_judged}
use Rattle.oas_judge.proofs.series.series_of_rectangles.Goals as goal

pub skip-requires : goal.skip-requires
skip-requires g c = series_within ((rw c.ahead.ensures at c.in-Some-gather_rectangles.ensures).some)

pub take_series-requires-clause-room : goal.take_series-requires-clause-room
take_series-requires-clause-room g c = series_room ((rw c.ahead.ensures at c.in-Some-gather_rectangles.ensures).some) c.in-Some.ensures.room

pub take_series-requires-clause-lands : goal.take_series-requires-clause-lands
take_series-requires-clause-lands g c = series_lands ((rw c.ahead.ensures at c.in-Some-gather_rectangles.ensures).some) c.in-Some.ensures.room

pub overflow_sub-result : goal.overflow_sub-result
overflow_sub-result g c = end_far ((rw c.ahead.ensures at c.in-Some-gather_rectangles.ensures).some) c.skip.ensures c.at.result c.at.ensures

pub returns : goal.returns
returns g c =
    let e = (rw c.ahead.ensures at c.in-Some-gather_rectangles.ensures).some in
    series_judged c.in-Some.ensures.room e c.skip.ensures _ (last_place e c.skip.ensures c.at.result c.at.ensures) _ c.take_series.ensures.taken c.take_series.ensures.unit c.take_series.ensures.limits c.take_series.ensures.profile
