-- What the command `info` finds and writes.
use Rattle.std.specs.Prelude.{◌≡◌, ℕ, List, Result, Ok, Err}
use Rattle.oas_num.specs.declared.refusals.Refusal.{Refusal}
use Rattle.oas_num.specs.declared.refusals.Why.TheVariants.{Memory}
use Rattle.oas_num.specs.Script.{Script}
use Rattle.oas_elements.specs.Contents.{Contents, meaning_of}
use Rattle.oas_info.specs.declared.info.Info.{Info}
use Rattle.oas_info.specs.Info.{IsInfo}
use Rattle.oas_info.specs.declared.form.Form.{Form}
use Rattle.oas_info.specs.Form.{form_text}
use Rattle.oas_command.specs.Lines.{line_of}

-- The facts of the layout that was read, or out of memory for them or for their text, at the end of what was read. Where no
-- layout was read, why not.
abbrev pub Informs : Script → Result Contents Refusal → Result Info Refusal → Type 0
Informs new (Ok layout) (Ok info) = IsInfo (meaning_of layout) info
Informs new (Ok layout) (Err refusal) = (refusal.why ≡ Memory) × (refusal.at ≡ new.given)
Informs new (Err refusal) found = found ≡ Err refusal

-- the text of the facts in a format, with the end of its last line
abbrev pub info_lines : Form → Info → List ℕ
info_lines form info = line_of (form_text form info)
