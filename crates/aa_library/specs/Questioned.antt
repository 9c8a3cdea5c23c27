-- What a call that asks a question leaves in the buffers of its caller, and its status.
-- Source: own.
use Rattle.std.specs.Prelude.{ℕ, ◌≡◌, ◌<◌, ◌≤◌, List, length, codes, Result}
use Rattle.aa_command.specs.Printed.{Printed}
use Rattle.aa_question.specs.declared.question.QuestionFault.{QuestionFault}
use Rattle.aa_question.specs.Answers.{IsAnswer}
use Rattle.aa_library.specs.declared.handing.Sizes.{Sizes}
use Rattle.aa_library.specs.Answered.{put, front_of}

-- how many bytes are printed on standard output and on standard error
abbrev pub sizes_of : Printed → Sizes
sizes_of out = record { text = length out.answers; fault = length out.faults }

-- what is printed is handed out: the answers whole, the front of the faults and the exit status; or where the answers have no room nothing, with status 5
pub data HandsPrinted (out : Printed) (before after fault_before fault_after : List ℕ) (told : ℕ) : Type 0 where
  Whole : length out.answers ≤ length before → after ≡ put out.answers before → fault_after ≡ front_of out.faults fault_before → told ≡ out.status
      → HandsPrinted out before after fault_before fault_after told
  Short : length before < length out.answers → after ≡ before → fault_after ≡ fault_before → told ≡ 5 → HandsPrinted out before after fault_before fault_after told

-- the same, and the sizes are told
pub record Hands (out : Printed) (before after fault_before fault_after : List ℕ) (sizes : Sizes) (told : ℕ) : Type 0 where
  pub handed : HandsPrinted out before after fault_before fault_after told
  pub sizes_are : sizes ≡ sizes_of out

-- what is left where memory ran out: status 3, and a line
pub record HandsNothing (before after fault_before fault_after : List ℕ) (sizes : Sizes) (told : ℕ) : Type 0 where
  pub kept : after ≡ before
  pub said : fault_after ≡ front_of (codes "no memory\n") fault_before
  pub sizes_are : sizes ≡ record { text = 0; fault = 10 }
  pub status : told ≡ 3

-- the question that bytes are is answered by what a command prints, or the bytes are refused, or memory ran out
pub data IsQuestioned {Q : Type 0} (reads : List ℕ → Result Q QuestionFault) (IsOf : Q → Printed → Type 0)
    (bytes before after fault_before fault_after : List ℕ) (sizes : Sizes) (told : ℕ) : Type 0 where
  Answered : (out : Printed) → IsAnswer reads IsOf bytes out → Hands out before after fault_before fault_after sizes told
      → IsQuestioned reads IsOf bytes before after fault_before fault_after sizes told
  NoMemory : HandsNothing before after fault_before fault_after sizes told → IsQuestioned reads IsOf bytes before after fault_before fault_after sizes told
