-- What the engines write for a job's bytes, and why they don't.
-- Source: own.
use Rattle.std.specs.Prelude.{ℕ, ◌≡◌, ◌≢◌, List, Option, Some, Ok, Err, IfSome}
use Rattle.aa_model.specs.declared.policy.Policy.{Policy}
use Rattle.aa_jobs.specs.declared.job.Job.{Job}
use Rattle.aa_engine.specs.declared.fault.RunFault.{RunFault}
use Rattle.aa_engine.specs.declared.fault.RunFault.TheVariants as causes
use Rattle.aa_base.specs.declared.fault.PolicyKind.TheVariants.{NoMemory}
use Rattle.aa_policies.specs.declared.refused.RefusedPolicy.{RefusedPolicy}
use Rattle.aa_policies.specs.Policies.{sources_of, ArePoliciesOf, IsRefusedBy}
use Rattle.aa_jobs.specs.Jobs.{job_of}
use Rattle.aa_engine.specs.Answers.{first_unknown}
use Rattle.aa_engine.specs.Output.{run_text, check_text}
use Rattle.aa_engine.specs.Replay.{replay_text}

-- the bytes hand in this job, and its texts these policies, each of which compiles
pub record HandsIn (input : List ℕ) (job : Job) (policies : List Policy) : Type 0 where
  pub read : job_of input ≡ Ok job
  pub spelled : ArePoliciesOf (sources_of job.includes) job.states job.policies policies

-- what a command writes for the bytes of a job, where it is known which text is that of a job and its policies
pub record IsOutput (IsText : Job → List Policy → List ℕ → Type 0) (input text : List ℕ) : Type 0 where
  pub job : Job
  pub policies : List Policy
  pub asked : HandsIn input job policies
  pub written : IsText job policies text

-- what `check` writes for the bytes of a job
abbrev pub IsCheckOutput : List ℕ → List ℕ → Type 0
IsCheckOutput = IsOutput (λ job policies text. text ≡ check_text job.several policies)

-- what `run` writes for the bytes of a job
abbrev pub IsRunOutput : List ℕ → List ℕ → Type 0
IsRunOutput = IsOutput (λ job policies text. run_text job.several policies job.tasks ≡ Some text)

-- what `replay` writes for the bytes of a job
abbrev pub IsReplayOutput : List ℕ → List ℕ → Type 0
IsReplayOutput = IsOutput (λ job policies text. replay_text job.several policies job.capacity job.tasks job.events ≡ Some text)

-- the bytes decide the text: no two texts are what a command writes for the same bytes
abbrev pub IsDecided : (List ℕ → List ℕ → Type 0) → Type 0
IsDecided IsText = (input text other : List ℕ) → IsText input text → IsText input other → text ≡ other

-- the bytes are a job, and its policies are refused so, not for want of memory
pub record HasBadPolicy (input : List ℕ) (refused : RefusedPolicy) : Type 0 where
  pub job : Job
  pub read : job_of input ≡ Ok job
  pub lasting : refused.fault.kind ≢ NoMemory
  pub cause : IsRefusedBy (sources_of job.includes) job.states job.policies refused

-- the bytes are a job, its policies compile, and of its tasks that one is the first whose label names no profile
pub record HasUnknownTask (input : List ℕ) (task : ℕ) : Type 0 where
  pub job : Job
  pub policies : List Policy
  pub asked : HandsIn input job policies
  pub unknown : first_unknown policies job.tasks ≡ Some task

-- what the input says where an engine gives up: the cause is there, and is not want of memory by another name
abbrev pub Explains : RunFault → List ℕ → Type 0
Explains causes.NoMemory input = Unit {0}
Explains causes.Read input = Unit {0}
Explains causes.Write input = Unit {0}
Explains (causes.Job fault) input = job_of input ≡ Err fault
Explains (causes.Policy refused) input = HasBadPolicy input refused
Explains (causes.UnknownProfile task) input = HasUnknownTask input task

-- a reader gives these bytes; where it isn't known what it gives, they may be any
abbrev pub IsInput : Option (List ℕ) → List ℕ → Type 0
IsInput known input = IfSome known (λ bytes. bytes ≡ input)

-- what a reader gave says why an engine gave up
abbrev pub IsExplained : Option (List ℕ) → RunFault → Type 0
IsExplained known fault = (input : List ℕ) × IsInput known input × Explains fault input
