-- What is reported about a layout.
use Rattle.std.specs.Prelude.{◌≡◌, length}
use Rattle.oas_elements.specs.Meaning.{Meaning}
use Rattle.oas_info.specs.Facts.{AreFacts}
use Rattle.oas_writing.specs.Bytes.{canonical_bytes}
use Rattle.oas_info.specs.declared.info.Info.{Info}

-- its facts, and the length of its canonical form
pub record IsInfo (m : Meaning) (i : Info) : Type 0 where
  pub facts : AreFacts m i.facts
  pub size : i.size ≡ length (canonical_bytes m)
