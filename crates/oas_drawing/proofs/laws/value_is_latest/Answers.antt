use Rattle.oas_drawing.proofs.Latest.{finds_latest}
use Rattle.oas_drawing.proofs.laws.value_is_latest.Goals as goal

pub returns : goal.returns
returns c =
    record {
      numbers = finds_latest;
      lengths = finds_latest;
      modes = finds_latest;
      cells = finds_latest;
      strings = finds_latest;
      point_lists = finds_latest;
      repetitions = finds_latest;
    }
