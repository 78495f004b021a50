use Rattle.oas_shape.specs.Laws.PointListLaws.{PrefixFree-point_list, OneSpelling-point_list, IsWithin-point_list, HasSome-point_list}
use Rattle.oas_shape.proofs.laws.point_lists.Goals as goal

pub returns : goal.returns
returns c = record { front = PrefixFree-point_list; one = OneSpelling-point_list; within = IsWithin-point_list; some = HasSome-point_list }
