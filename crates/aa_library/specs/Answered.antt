-- What a call leaves in the buffers of its caller, and its status.
-- Source: own.
use Rattle.std.specs.Prelude.{ℕ, ◌≡◌, ◌<◌, ◌≤◌, ◌++◌, List, length, take, drop}
use Rattle.aa_engine.specs.declared.fault.RunFault.{RunFault}
use Rattle.aa_engine.specs.Engines.{Explains}
use Rattle.aa_engine.specs.Faults.{exit_status}
use Rattle.aa_library.specs.declared.handing.Sizes.{Sizes}
use Rattle.aa_library.specs.Lines.{fault_line}

-- a buffer with a text at its front; behind it stands what stood there before
abbrev pub put : List ℕ → List ℕ → List ℕ
put text buffer = text ++ drop (length text) buffer

-- a text is handed out whole, with its status, or where the buffer has no room for it, nothing is written, with status 5
pub data HandsOut (text : List ℕ) (status : ℕ) (before after : List ℕ) (told : ℕ) : Type 0 where
  Whole : length text ≤ length before → after ≡ put text before → told ≡ status → HandsOut text status before after told
  Short : length before < length text → after ≡ before → told ≡ 5 → HandsOut text status before after told

-- as much of a line is handed out as there is room for
abbrev pub front_of : List ℕ → List ℕ → List ℕ
front_of line buffer = put (take (length buffer) line) buffer

-- what is left where nothing is answered for that cause: the buffer for texts as it was, and in that for lines the front of the line; its size and the
-- exit status are told
pub record Refuses (why : RunFault) (before after fault_before fault_after : List ℕ) (sizes : Sizes) (told : ℕ) : Type 0 where
  pub kept : after ≡ before
  pub said : fault_after ≡ front_of (fault_line why) fault_before
  pub sizes_are : sizes ≡ record { text = 0; fault = length (fault_line why) }
  pub status : told ≡ exit_status why

-- what is left where a text answers: that text, if it has room, its size, and the buffer for lines as it was
pub record Answers (text before after fault_before fault_after : List ℕ) (sizes : Sizes) (told : ℕ) : Type 0 where
  pub handed : HandsOut text 0 before after told
  pub said : fault_after ≡ fault_before
  pub sizes_are : sizes ≡ record { text = length text; fault = 0 }

-- a job is answered by the text that a command writes for it, or refused for a cause that the job explains
pub data IsAnswered (IsText : List ℕ → List ℕ → Type 0) (job before after fault_before fault_after : List ℕ) (sizes : Sizes) (told : ℕ) : Type 0 where
  Answered : (text : List ℕ) → IsText job text → Answers text before after fault_before fault_after sizes told
      → IsAnswered IsText job before after fault_before fault_after sizes told
  Refused : (why : RunFault) → Explains why job → Refuses why before after fault_before fault_after sizes told
      → IsAnswered IsText job before after fault_before fault_after sizes told
