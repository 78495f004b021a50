-- What a task comes to: which run, on which files, and to which output.
use Rattle.std.specs.Prelude.{◌≡◌, ◌&&◌, ℕ, Bool, true, false, List, Option, None, Some, is_none}
use Rattle.std.specs.Borrow.{Bor}
use Rattle.oas_explain.specs.Label.{Label}
use Rattle.oas_explain.specs.CommandWork.{Work}
use Rattle.oas_explain.specs.CommandWork.TheVariants as work
use Rattle.oas_explain.specs.PairWork.{PairWork}
use Rattle.oas_explain.specs.PairWork.TheVariants as pair
use Rattle.oas_explain.specs.Form.{Form}
use Rattle.oas_explain.specs.Form.TheVariants.{Text, Json}
use Rattle.oas_request.specs.DiffOptions.{Options}
use Rattle.oas_explain.specs.Existing.{Existing}
use Rattle.oas_explain.specs.Existing.TheVariants.{Replaced, Kept}
use Rattle.oas_request.specs.declared.commands.Task.{Task}
use Rattle.oas_request.specs.declared.commands.Task.TheVariants as task
use Rattle.oas_request.specs.declared.differences.Asked.{Asked}
use Rattle.oas_request.specs.declared.differences.Markers.{Markers}
use Rattle.oas_request.specs.declared.questions.Inputs.{Inputs}
use Rattle.oas_request.specs.declared.questions.Inputs.TheVariants.{One, Named, Listed}
use Rattle.oas_request.specs.declared.questions.Question.{Question}
use Rattle.oas_request.specs.declared.questions.Question.TheVariants.{Check, Key}
use Rattle.oas_request.specs.Options.{AreOptions}
use Rattle.oascanon.specs.declared.plan.OneFile.{OneFile}
use Rattle.oascanon.specs.declared.plan.TwoFiles.{TwoFiles}
use Rattle.oascanon.specs.declared.plan.Plan.{Plan}
use Rattle.oascanon.specs.declared.plan.Plan.TheVariants as plan

-- ---- by one option

-- `--no-clobber`: a file under the output's name is kept
abbrev pub existing_of : Bool → Existing
existing_of true = Kept
existing_of false = Replaced

-- `--json`
abbrev pub form_of : Bool → Form
form_of true = Json
form_of false = Text

-- ---- questions

-- in a line without a name
abbrev pub unnamed : Question → Work
unnamed Check = work.Check
unnamed (Key ending) = work.Key

-- in a line that names the file so
abbrev pub named : Question → Label → Work
named Check label = work.NamedCheck label
named (Key ending) label = work.NamedKey label

-- ---- runs

-- on one file, with this output, where this happens to a file of its name
abbrev pub writing : Work → Option (Bor (List ℕ)) → Option (Bor (List ℕ)) → Existing → OneFile
writing work input output existing = record { work = work; input = input; output = output; existing = existing }

-- on one file, with its output to standard output
abbrev pub reading : Work → Option (Bor (List ℕ)) → OneFile
reading work input = writing work input None Replaced

-- on two files
abbrev pub comparing : PairWork → Option (Bor (List ℕ)) → Option (Bor (List ℕ)) → TwoFiles
comparing work first second = record { work = work; first = first; second = second }

-- a question of one file, without its name; of each of several, or of those in a list, with their names
abbrev pub IsAskedOf : Question → Inputs → Plan → Type 0
IsAskedOf question (One input) asked = asked ≡ plan.OneFile (reading (unnamed question) input)
IsAskedOf question (Named paths) asked = (each : Bor (List (Option (Bor (List ℕ))))) × (each.now ≡ paths.items) × (asked ≡ plan.Each question each)
IsAskedOf question (Listed list) asked = asked ≡ plan.EachListed question list

-- the difference of the first from the second, by what is asked of it; and its markers, where a file for them is named
abbrev pub IsComparedBy : Option (Bor (List ℕ)) → Option (Bor (List ℕ)) → Asked → Option Markers → Plan → Type 0
IsComparedBy first second asked None compared =
    (options : Options) × AreOptions asked options × (compared ≡ plan.TwoFiles (comparing (pair.Diff options) first second))
IsComparedBy first second asked (Some markers) compared =
    (options : Options) × AreOptions asked options × (compared ≡ plan.Marking (record { options = options; first = first; second = second; markers = markers }))

-- ---- a file on standard output

abbrev pub writes_file : Work → Bool
writes_file work.Canon = true
writes_file work.Rekey = true
writes_file _ = false

abbrev pub is_binary : Plan → Bool
is_binary (plan.OneFile one) = is_none one.output && writes_file one.work
is_binary _ = false

-- ---- by the task

abbrev pub IsPlanOf : Task → Plan → Type 0
IsPlanOf (task.Canon input output keeps_old) come = come ≡ plan.OneFile (writing work.Canon input output (existing_of keeps_old))
IsPlanOf (task.Ask question inputs) come = IsAskedOf question inputs come
IsPlanOf (task.CheckKeys list ending is_quiet) come = come ≡ plan.CheckKeys (record { list = list; ending = ending; is_quiet = is_quiet })
IsPlanOf (task.Same first second) come = come ≡ plan.TwoFiles (comparing pair.Same first second)
IsPlanOf (task.Diff first second asked markers) come = IsComparedBy first second asked markers come
IsPlanOf (task.Show input) come = come ≡ plan.OneFile (reading work.Show input)
IsPlanOf (task.Keys input) come = come ≡ plan.OneFile (reading work.CellKeys input)
IsPlanOf (task.Info input is_json) come = come ≡ plan.OneFile (reading (work.Info (form_of is_json)) input)
IsPlanOf (task.Rekey old new) come = come ≡ plan.OneFile (writing work.Rekey old new Replaced)
IsPlanOf (task.Explain number) come = come ≡ plan.Explain number
