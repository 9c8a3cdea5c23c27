-- What is handed out answers the question, or tells of memory.
use Rattle.std.proofs.Common.{List, ℕ, Result, Ok, Err}
use Rattle.std.specs.Prelude.{IfOk, MatchResult}
use Rattle.aa_text.specs.declared.memory.NoMemory.{NoMemory}
use Rattle.aa_command.specs.declared.output.Output.{Output}
use Rattle.aa_command.specs.Printed.{Printed, printed}
use Rattle.aa_question.specs.declared.question.QuestionFault.{QuestionFault}
use Rattle.aa_question.specs.Answers.{IsAnswer}
use Rattle.aa_library.specs.declared.handing.Sizes.{Sizes}
use Rattle.aa_library.specs.Questioned.{Hands, HandsNothing, IsQuestioned}

pub questioned : {Q : Type 0} (reads : List ℕ → Result Q QuestionFault) (IsOf : Q → Printed → Type 0) (bytes : List ℕ) (made : Result Output NoMemory)
    (before after fault_before fault_after : List ℕ) (sizes : Sizes) (told : ℕ) → IfOk made (λ (out : Output). IsAnswer reads IsOf bytes (printed out))
    → MatchResult made (λ (out : Output). Hands (printed out) before after fault_before fault_after sizes told) (λ (why : NoMemory). HandsNothing before after fault_before fault_after sizes told)
    → IsQuestioned reads IsOf bytes before after fault_before fault_after sizes told
questioned reads IsOf bytes (Ok out) before after fault_before fault_after sizes told is handed = IsQuestioned.Answered (printed out) is handed
questioned reads IsOf bytes (Err why) before after fault_before fault_after sizes told is handed = IsQuestioned.NoMemory handed
