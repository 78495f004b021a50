-- What the calls that put facts or differences promise of the bytes that they were given.
use Rattle.std.specs.Prelude.{◌≡◌, ◌≢◌, ℕ, List, [], ◌∷◌, ◌++◌, length, ◌⊎◌, None}
use Rattle.oas_num.specs.declared.refusals.Refusal.{Refusal}
use Rattle.oas_num.specs.declared.refusals.Why.TheVariants.{Memory}
use Rattle.oas_elements.specs.declared.limits.Limits.{Limits}
use Rattle.oas_elements.specs.declared.profile.Profile.TheVariants.{Two}
use Rattle.oas_elements.specs.Contents.{Contents, meaning_of}
use Rattle.oas_elements.specs.Limits.{IsLimits}
use Rattle.oas_difference.specs.Difference.{difference}
use Rattle.oas_difference.specs.FormatConstants.{PLAIN}
use Rattle.oas_info.specs.declared.info.Info.{Info}
use Rattle.oas_info.specs.Info.{IsInfo}
use Rattle.oas_info.specs.Json.{info_json}
use Rattle.oas_prepare.specs.Which.TheVariants.{First, Second}
use Rattle.oascanon_c.specs.declared.answers.Answer.{Answer}
use Rattle.oascanon_c.specs.declared.answers.Answer.TheVariants.{Done, No, TooSmall, NotLimits, Refused}
use Rattle.oascanon_c.specs.declared.bounds.Bounds.{Bounds}
use Rattle.oascanon_c.specs.Buffers.{IsReadFrom, IsRefusedFor, IsTaken, Tells, Within}
use Rattle.oascanon_c.specs.Rooms.{Puts}

-- ---- facts

-- a text, and the line's end
abbrev pub line_of : List ℕ → List ℕ
line_of text = text ++ 10 ∷ []

-- the facts of the layout that is read of the bytes
abbrev pub AreFactsOf : Limits → List ℕ → Info → Type 0
AreFactsOf limits bytes info = (l : Contents) × IsReadFrom limits bytes l × IsInfo (meaning_of l) info

-- the bytes are taken, and memory for their facts is refused at their end
pub record LacksMemory (limits : Limits) (bytes : List ℕ) (refusal : Refusal) : Type 0 where
  pub taken : IsTaken limits bytes
  pub why : refusal.why ≡ Memory
  pub place : refusal.at ≡ length bytes

-- the text of the facts is put; a file is refused as it is read, or for lack of memory behind it
abbrev pub Informs : Bounds → List ℕ → List ℕ → Answer → List ℕ → Type 0
Informs b bytes old (Refused First refusal) new = Within b (λ limits. IsRefusedFor limits bytes refusal ⊎ LacksMemory limits bytes refusal) × (new ≡ old)
Informs b bytes old answer new =
    Tells b bytes (new ≡ old) (λ limits a. (info : Info) × AreFactsOf limits bytes info × Puts (line_of (info_json info)) old a new) answer

-- ---- differences

-- the lines of what differs between the layouts that are read of two files
pub record Differences (limits : Limits) (one other lines : List ℕ) : Type 0 where
  pub before : Contents
  pub after : Contents
  pub first : IsReadFrom limits one before
  pub second : IsReadFrom limits other after
  pub is : lines ≡ difference None PLAIN Two (meaning_of before) (meaning_of after)

abbrev pub Differing : Bounds → List ℕ → List ℕ → (List ℕ → Type 0) → Type 0
Differing b one other P = Within b (λ limits. (lines : List ℕ) × Differences limits one other lines × P lines)

-- Nothing differs, and nothing is put; or the lines of what differs are put. A refusal is that of the file that it names, and
-- of the second where the first is taken. Without an answer the room is as it was.
abbrev pub Differs : Bounds → List ℕ → List ℕ → List ℕ → Answer → List ℕ → Type 0
Differs b one other old (Done n) new = Differing b one other (λ lines. lines ≡ []) × (n ≡ 0) × (new ≡ old)
Differs b one other old (No n) new = Differing b one other (λ lines. (lines ≢ []) × Puts lines old (Done n) new)
Differs b one other old (TooSmall n) new = Differing b one other (λ lines. (lines ≢ []) × Puts lines old (TooSmall n) new)
Differs b one other old NotLimits new = (IsLimits b.elements b.weight b.input → ⊥) × (new ≡ old)
Differs b one other old (Refused First refusal) new = Within b (λ limits. IsRefusedFor limits one refusal) × (new ≡ old)
Differs b one other old (Refused Second refusal) new = Within b (λ limits. IsTaken limits one × IsRefusedFor limits other refusal) × (new ≡ old)
