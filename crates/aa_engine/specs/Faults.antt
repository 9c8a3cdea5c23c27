-- Why an engine gives up, and with which exit status.
-- Source: own.
use Rattle.std.specs.Prelude.{ℕ}
use Rattle.aa_base.specs.declared.fault.PolicyKind.{PolicyKind}
use Rattle.aa_base.specs.declared.fault.PolicyKind.TheVariants as kinds
use Rattle.aa_policies.specs.declared.refused.RefusedPolicy.{RefusedPolicy}
use Rattle.aa_jobs.specs.declared.job_fault.JobFault.{JobFault}
use Rattle.aa_jobs.specs.declared.job_fault.JobFault.TheVariants as faults
use Rattle.aa_engine.specs.declared.tasks.MediateFault.{MediateFault}
use Rattle.aa_engine.specs.declared.tasks.MediateFault.TheVariants as mediates
use Rattle.aa_engine.specs.declared.fault.RunFault.{RunFault}
use Rattle.aa_engine.specs.declared.fault.RunFault.TheVariants as causes

-- want of memory while a job is read is want of memory; another fault is the job's
abbrev pub job_cause : JobFault → RunFault
job_cause faults.NoMemory = causes.NoMemory
job_cause faults.NotJson = causes.Job faults.NotJson
job_cause faults.BadShape = causes.Job faults.BadShape
job_cause faults.BadRequest = causes.Job faults.BadRequest
job_cause faults.TooLarge = causes.Job faults.TooLarge

-- why a job is refused whose policy is: want of memory, or that fault
abbrev pub cause_by_kind : PolicyKind → RefusedPolicy → RunFault
cause_by_kind kinds.NoMemory refused = causes.NoMemory
cause_by_kind _ refused = causes.Policy refused

-- want of memory while a policy is read is want of memory; another fault is the policy's
abbrev pub policy_cause : RefusedPolicy → RunFault
policy_cause refused = cause_by_kind refused.fault.kind refused

-- want of memory while requests are decided, or the task whose label names no profile
abbrev pub mediate_cause : MediateFault → RunFault
mediate_cause mediates.NoMemory = causes.NoMemory
mediate_cause (mediates.UnknownProfile task) = causes.UnknownProfile task

-- 1 where the job is at fault, else 3
abbrev pub exit_status : RunFault → ℕ
exit_status causes.NoMemory = 3
exit_status causes.Read = 3
exit_status causes.Write = 3
exit_status (causes.Job fault) = 1
exit_status (causes.Policy fault) = 1
exit_status (causes.UnknownProfile task) = 1

-- why an input wasn't read: want of memory, or the reader
abbrev pub IsReadCause : RunFault → Type 0
IsReadCause causes.NoMemory = Unit {0}
IsReadCause causes.Read = Unit {0}
IsReadCause _ = ⊥
