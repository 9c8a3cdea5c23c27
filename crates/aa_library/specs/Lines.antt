-- What the commands say of a fault on standard error, without the line's end.
-- Source: own.
use Rattle.std.specs.Prelude.{ℕ, List, [], ◌++◌, codes, decimal, ◌==◌, if◌then◌else◌}
use Rattle.aa_base.specs.declared.fault.PolicyFault.{PolicyFault}
use Rattle.aa_base.specs.Kinds.{kind_number, kind_name}
use Rattle.aa_jobs.specs.declared.job_fault.JobFault.{JobFault}
use Rattle.aa_jobs.specs.declared.job_fault.JobFault.TheVariants as faults
use Rattle.aa_jobs.specs.Steps.{fault_number}
use Rattle.aa_policies.specs.declared.refused.RefusedPolicy.{RefusedPolicy}
use Rattle.aa_engine.specs.declared.fault.RunFault.{RunFault}
use Rattle.aa_engine.specs.declared.fault.RunFault.TheVariants as causes

-- the name under which a job's fault is said
abbrev pub job_fault_name : JobFault → List ℕ
job_fault_name faults.NoMemory = codes "NoMemory"
job_fault_name faults.NotJson = codes "NotJson"
job_fault_name faults.BadShape = codes "BadShape"
job_fault_name faults.BadRequest = codes "BadRequest"
job_fault_name faults.TooLarge = codes "TooLarge"

-- a job's fault: its number and its name
unfoldable pub job_line : JobFault → List ℕ
job_line fault = codes "job " ++ decimal (fault_number fault) ++ codes " " ++ job_fault_name fault

-- which policy of a list it is, of all but the first
unfoldable pub policy_number_word : ℕ → List ℕ
policy_number_word policy = if policy == 0 then [] else codes "policy " ++ decimal policy ++ codes " "

-- a policy's fault: the number and the name of its kind, and the file and the byte at which it lies
unfoldable pub refused_line : PolicyFault → List ℕ
refused_line fault = codes "refused " ++ decimal (kind_number fault.kind) ++ codes " " ++ kind_name fault.kind ++ codes " " ++ (decimal fault.at.file ++ (codes ":" ++ decimal fault.at.byte))

-- the fault of a policy of a list
abbrev pub policy_line : RefusedPolicy → List ℕ
policy_line refused = policy_number_word refused.policy ++ refused_line refused.fault

-- a task whose label names no profile
unfoldable pub task_line : ℕ → List ℕ
task_line task = codes "task " ++ decimal task ++ codes " has no profile"

-- what is said of a fault
abbrev pub fault_line : RunFault → List ℕ
fault_line causes.NoMemory = codes "no memory"
fault_line causes.Read = codes "read failed"
fault_line causes.Write = codes "write failed"
fault_line (causes.Job fault) = job_line fault
fault_line (causes.Policy refused) = policy_line refused
fault_line (causes.UnknownProfile task) = task_line task
