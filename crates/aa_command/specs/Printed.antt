-- What a command prints.
-- Source: own.
use Rattle.std.specs.Prelude.{ℕ, ◌==◌, List, [], ◌++◌, length, codes, if◌then◌else◌}
use Rattle.aa_text.specs.declared.fault.FaultReport.{FaultReport}
use Rattle.aa_text.specs.Faults.{fault_text, json_fault}
use Rattle.aa_command.specs.declared.output.Output.{Output}

-- what stands on standard output and on standard error, the fault in JSON for which nothing is answered, if there is one, and the exit status
pub record Printed : Type 0 where
  pub answers : List ℕ
  pub faults : List ℕ
  pub refusal : List ℕ
  pub status : ℕ

-- what a command prints, without where it lies in memory
abbrev pub printed : Output → Printed
printed o = record { answers = o.answers.items; faults = o.faults.items; refusal = o.refusal.items; status = o.status }

-- answers, and nothing on standard error
abbrev pub answers_alone : List ℕ → ℕ → Printed
answers_alone text status = record { answers = text; faults = []; refusal = []; status = status }

-- why nothing is answered
abbrev pub faults_alone : List ℕ → ℕ → Printed
faults_alone text status = record { answers = []; faults = text; refusal = []; status = status }

-- the fault for which nothing is answered
abbrev pub fault_alone : FaultReport → ℕ → Printed
fault_alone fault status = record { answers = []; faults = fault_text fault; refusal = json_fault fault; status = status }

-- a fault in JSON as the member of an object, and a line end; nothing where there is none
unfoldable pub refusal_line : List ℕ → List ℕ
refusal_line fault = if length fault == 0 then [] else codes "{\"fault\":" ++ (fault ++ codes "}\n")
