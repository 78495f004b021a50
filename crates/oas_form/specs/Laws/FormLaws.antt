-- The laws of canonical forms.
use Rattle.oas_num.specs.Style.{Shortest}
use Rattle.oas_file.specs.Laws.FileLaws.{file_of}
use Rattle.oas_form.specs.Canonical.{FormIsAccepted}

pub form_is_accepted : FormIsAccepted
form_is_accepted limits profile c f = record { head = f.head; records = f.records; file = file_of Shortest f.head f.records c f.file; allowed = f.allowed; whole = f.whole }
