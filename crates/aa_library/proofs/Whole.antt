-- What is handed out answers the job or refuses it.
use Rattle.std.proofs.Common.{List, ℕ, Result, Ok, Err}
use Rattle.std.specs.Prelude.{String, IfOk, IfErr, MatchResult}
use Rattle.std.specs.Global.{Global}
use Rattle.std.specs.String.{string_bytes}
use Rattle.aa_engine.specs.declared.fault.RunFault.{RunFault}
use Rattle.aa_engine.specs.Engines.{Explains}
use Rattle.aa_library.specs.declared.handing.Sizes.{Sizes}
use Rattle.aa_library.specs.Answered.{Answers, IsAnswered, Refuses}

pub answered : (IsText : List ℕ → List ℕ → Type 0) (job : List ℕ) (made : Result (String Global) RunFault) (before after fault_before fault_after : List ℕ) (sizes : Sizes) (told : ℕ)
    → IfOk made (λ (text : String Global). IsText job (string_bytes text)) → IfErr made (λ (why : RunFault). Explains why job)
    → MatchResult made (λ (text : String Global). Answers (string_bytes text) before after fault_before fault_after sizes told)
    (λ (why : RunFault). (given : List ℕ) → Explains why given → (cause : RunFault) × Explains cause given × Refuses cause before after fault_before fault_after sizes told)
    → IsAnswered IsText job before after fault_before fault_after sizes told
answered IsText job (Ok text) before after fault_before fault_after sizes told is cause handed = IsAnswered.Answered (string_bytes text) is handed
answered IsText job (Err why) before after fault_before fault_after sizes told is cause handed =
    let refused = handed job cause in
    IsAnswered.Refused refused.0 refused.1 refused.2
