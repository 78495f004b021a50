use Rattle.std.proofs.Common.{rules}
use Rattle.oas_info.proofs.form.text_in.Goals as goal

pub returns-in-Text : goal.returns-in-Text
returns-in-Text c = search rules
