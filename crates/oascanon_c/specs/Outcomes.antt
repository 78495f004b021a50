-- How C is told of an answer.
use Rattle.std.specs.Prelude.{zero, suc}
use Rattle.oas_num.specs.Refusals.{number_of}
use Rattle.oas_prepare.specs.Which.TheVariants.{First, Second}
use Rattle.oascanon_c.specs.declared.answers.Answer.{Answer}
use Rattle.oascanon_c.specs.declared.answers.Answer.TheVariants.{Done, No, TooSmall, NotLimits, Refused}
use Rattle.oascanon_c.specs.declared.answers.Outcome.{Outcome}

abbrev pub outcome_of : Answer → Outcome
outcome_of (Done n) = record { status = 0; file = 0; at = 0; length = n }
outcome_of (No n) = record { status = 64; file = 0; at = 0; length = n }
outcome_of (TooSmall n) = record { status = 65; file = 0; at = 0; length = n }
outcome_of NotLimits = record { status = 66; file = 0; at = 0; length = 0 }
outcome_of (Refused First refusal) = record { status = number_of refusal.why; file = 1; at = refusal.at; length = 0 }
outcome_of (Refused Second refusal) = record { status = number_of refusal.why; file = 2; at = refusal.at; length = 0 }

-- what is said of lines of what differs that are put: yes where there are none, and no where there are
abbrev pub answer_by_lines : Answer → Answer
answer_by_lines (Done zero) = Done 0
answer_by_lines (Done (suc n)) = No (suc n)
answer_by_lines (No n) = No n
answer_by_lines (TooSmall n) = TooSmall n
answer_by_lines NotLimits = NotLimits
answer_by_lines (Refused which refusal) = Refused which refusal
