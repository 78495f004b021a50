-- What a draft refuses, in a line.
use Rattle.std.specs.Prelude.{ℕ, List, ◌++◌, codes, decimal}
use Rattle.oas_num.specs.declared.refusals.Why.{Why}
use Rattle.oas_num.specs.Refusals.{number_of, name_of}

-- the number and the name of the reason
abbrev pub refused_text : Why → List ℕ
refused_text why = codes "refused " ++ (decimal (number_of why) ++ (codes ": " ++ name_of why))
