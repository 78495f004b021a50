-- The layout that is made of a meaning.
use Rattle.std.specs.Prelude.{◌≡◌}
use Rattle.oas_elements.specs.declared.limits.Limits.{Limits}
use Rattle.oas_elements.specs.declared.profile.Profile.{Profile}
use Rattle.oas_elements.specs.Contents.{Contents, IsLayout, meaning_of}
use Rattle.oas_elements.specs.Meaning.{Meaning, SameLayout}

-- it is the same as the meaning, has these limits, and is kept by this profile
pub record IsLayoutOf (profile : Profile) (limits : Limits) (m : Meaning) (l : Contents) : Type 0 where
  pub same : SameLayout profile m (meaning_of l)
  pub layout : IsLayout l
  pub within : l.limits ≡ limits
  pub by : l.profile ≡ profile
