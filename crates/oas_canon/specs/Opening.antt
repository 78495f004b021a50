-- What a source is before a run.
use Rattle.std.specs.Prelude.{◌≡◌, [], None}
use Rattle.oas_num.specs.Script.{Script}
use Rattle.oas_elements.specs.declared.limits.Limits.{Limits}

-- it gave nothing yet, did not fail, and is to give as many bytes as the limits allow at most
pub record IsOpened (limits : Limits) (s : Script) : Type 0 where
  pub none : s.history ≡ []
  pub fresh : s.given ≡ 0
  pub limit : s.limit ≡ limits.input
  pub failures : s.failures ≡ 0
  pub unsettled : s.settled ≡ None
