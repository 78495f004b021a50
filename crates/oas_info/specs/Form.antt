-- The formats of a layout's facts.
use Rattle.std.specs.Prelude.{ℕ, List}
use Rattle.oas_info.specs.declared.form.Form.{Form}
use Rattle.oas_info.specs.declared.form.Form.TheVariants.{Text, Json}
use Rattle.oas_info.specs.declared.info.Info.{Info}
use Rattle.oas_info.specs.Text.{info_text}
use Rattle.oas_info.specs.Json.{info_json}

-- the text in a format; the last line's end is still to come
abbrev pub form_text : Form → Info → List ℕ
form_text Text info = info_text info
form_text Json info = info_json info
