-- An input is kept as far as it decides what it is.
use Rattle.std.proofs.Common.{◌≡◌, ℕ, ◌<◌, ◌≤◌, inl, inr, List, [], length, take, Option, Some, None, Result, Ok, Err, refl, ap, sym, subst, ◌∙◌, arith}
use Rattle.std.specs.Prelude.{nat_le, false, ◌≢◌, IfSome, IfErr, OnOk, OnErr, IsErrOf}
use Rattle.std.specs.Io.KnownBytes.{Appends}
use Rattle.std.proofs.lemmas.Bool.{cases_lt, lt-leb}
use Rattle.std.proofs.lemmas.List.{take_all, length-take}
use Rattle.aa_base.specs.declared.fault.PolicyKind.{PolicyKind}
use Rattle.aa_base.specs.declared.fault.PolicyKind.TheVariants as kinds
use Rattle.aa_policies.specs.declared.refused.RefusedPolicy.{RefusedPolicy}
use Rattle.aa_policies.specs.Policies.{sources_of, IsRefusedBy}
use Rattle.aa_jobs.specs.declared.job_fault.JobFault.TheVariants.{TooLarge}
use Rattle.aa_engine.specs.declared.fault.RunFault.{RunFault}
use Rattle.aa_engine.specs.declared.fault.RunFault.TheVariants as causes
use Rattle.aa_engine.specs.declared.tasks.MediateFault.{MediateFault}
use Rattle.aa_engine.specs.declared.tasks.MediateFault.TheVariants as mediates
use Rattle.aa_engine.specs.Answers.{first_unknown}
use Rattle.aa_engine.specs.Faults.{IsReadCause, mediate_cause, cause_by_kind, policy_cause}
use Rattle.aa_jobs.specs.Jobs.{job_of}
use Rattle.aa_model.specs.declared.policy.Policy.{Policy}
use Rattle.aa_jobs.specs.declared.job.Job.{Job}
use Rattle.aa_engine.specs.Engines.{HandsIn, IsOutput, HasBadPolicy, Explains, IsInput, IsExplained}

-- more bytes than a job may have
too_long : (input : List ℕ) → 16777216 < length input → job_of input ≡ Err TooLarge
unfolding job_of
too_long input lt = let over : nat_le (length input) 16777216 ≡ false = lt-leb (length input) 16777216 lt in rw over refl

-- what is kept of an input is the same job
pub kept_same : (input : List ℕ) → job_of (take 16777217 input) ≡ job_of input
kept_same input = elim (cases_lt 16777216 (length input)) [
  | inl long ↦ too_long (take 16777217 input) (omega (arith, length-take 16777217 input)) ∙ sym (too_long input long)
  | inr short ↦ ap job_of (take_all 16777217 input (omega arith))
]

asked_kept : (input : List ℕ) (job : Job) (policies : List Policy) → HandsIn (take 16777217 input) job policies → HandsIn input job policies
asked_kept input job policies asked = record { read = sym (kept_same input) ∙ asked.read; spelled = asked.spelled }

output_kept : (P : Job → List Policy → List ℕ → Type 0) (input text : List ℕ) → IsOutput P (take 16777217 input) text → IsOutput P input text
output_kept P input text o = record { job = o.job; policies = o.policies; asked = asked_kept input o.job o.policies o.asked; written = o.written }

explains_kept : (cause : RunFault) (input : List ℕ) → Explains cause (take 16777217 input) → Explains cause input
explains_kept causes.NoMemory input h = tt
explains_kept causes.Read input h = tt
explains_kept causes.Write input h = tt
explains_kept (causes.Job fault) input h = sym (kept_same input) ∙ h
explains_kept (causes.Policy refused) input h = record { job = h.job; read = sym (kept_same input) ∙ h.read; lasting = h.lasting; cause = h.cause }
explains_kept (causes.UnknownProfile task) input h = record { job = h.job; policies = h.policies; asked = asked_kept input h.job h.policies h.asked; unknown = h.unknown }

-- ---- what the engines say of the bytes that a reader gives

abbrev Kept : Option (List ℕ) → List ℕ → Type 0
Kept known bytes = IfSome known (λ input. bytes ≡ take 16777217 input)

pub unread : (known : Option (List ℕ)) (cause : RunFault) → IsReadCause cause → IsExplained known cause
unread None causes.NoMemory h = ([], tt, tt)
unread None causes.Read h = ([], tt, tt)
unread None _ h = absurd h
unread (Some input) causes.NoMemory h = (input, refl, tt)
unread (Some input) causes.Read h = (input, refl, tt)
unread (Some input) _ h = absurd h

pub explained : (known : Option (List ℕ)) (bytes : List ℕ) (cause : RunFault) → Kept known bytes → Explains cause bytes → IsExplained known cause
explained None bytes cause kept h = (bytes, tt, h)
explained (Some input) bytes cause kept h = (input, refl, explains_kept cause input (subst (Explains cause) kept h))

pub unwritten : (known : Option (List ℕ)) (cause : RunFault) → cause ≡ causes.Write → IsExplained known cause
unwritten None cause e = ([], tt, subst (λ (x : RunFault). Explains x []) (sym e) tt)
unwritten (Some input) cause e = (input, refl, subst (λ (x : RunFault). Explains x input) (sym e) tt)

pub wrote : (P : Job → List Policy → List ℕ → Type 0) (known old new : Option (List ℕ)) (bytes text : List ℕ) → Kept known bytes → IsOutput P bytes text → Appends old new text
    → (input : List ℕ) × (written : List ℕ) × IsInput known input × IsOutput P input written × Appends old new written
wrote P None old new bytes text kept h a = (bytes, text, tt, h, a)
wrote P (Some input) old new bytes text kept h a = (input, text, refl, output_kept P input text (subst (λ (x : List ℕ). IsOutput P x text) kept h), a)

pub wrote_front : (P : Job → List Policy → List ℕ → Type 0) (known old new : Option (List ℕ)) (bytes text : List ℕ) → Kept known bytes → IsOutput P bytes text
    → (n : ℕ) × (n ≤ length text) × Appends old new (take n text)
    → (input : List ℕ) × (written : List ℕ) × (n : ℕ) × IsInput known input × IsOutput P input written × (n ≤ length written) × Appends old new (take n written)
wrote_front P None old new bytes text kept h a = (bytes, text, a.0, tt, h, a.1, a.2)
wrote_front P (Some input) old new bytes text kept h a = (input, text, a.0, refl, output_kept P input text (subst (λ (x : List ℕ). IsOutput P x text) kept h), a.1, a.2)

-- a fault that is handed on
pub handed_on : {T : Type 0} (r : Result T RunFault) (e f : RunFault) (P : RunFault → Type 0) → r ≡ Err e → e ≡ f → P f → IfErr r P
handed_on {T} r e f P eq same h = subst (λ (x : Result T RunFault). IfErr x P) (sym eq) (subst P (sym same) h)

by_kind : (input : List ℕ) (kind : PolicyKind) (refused : RefusedPolicy) → (kind ≢ kinds.NoMemory → HasBadPolicy input refused) → Explains (cause_by_kind kind refused) input
by_kind input kinds.NoMemory refused h = tt
by_kind input _ refused h = h (λ e. cc)

-- a refused policy explains itself, unless memory was wanting
pub policy_explained : (input : List ℕ) (job : Job) (refused : RefusedPolicy) → job_of input ≡ Ok job
    → (refused.fault.kind ≢ kinds.NoMemory → IsRefusedBy (sources_of job.includes) job.states job.policies refused) → Explains (policy_cause refused) input
policy_explained input job refused read h = by_kind input refused.fault.kind refused (λ lasting. record { job = job; read = read; lasting = lasting; cause = h lasting })

ok_err : {x : Unit {0}} {f : RunFault} → Ok x ≡ Err f → ⊥
ok_err e = cc

-- what a write says, whichever way it ended
pub on_ok : (r : Result (Unit {0}) RunFault) (P Q : Type 0) → (P → Q) → OnOk r P → OnOk r Q
on_ok (Ok x) P Q f h = f h
on_ok (Err e) P Q f h = tt

pub on_err : (r : Result (Unit {0}) RunFault) (P Q : Type 0) → (P → Q) → OnErr r P → IsErrOf r causes.Write → Q
on_err (Ok x) P Q f h e = absurd (ok_err e)
on_err (Err e) P Q f h is = f h

pub if_err : (r : Result (Unit {0}) RunFault) (P : RunFault → Type 0) → ((e : RunFault) → e ≡ causes.Write → P e) → IfErr r (λ e. e ≡ causes.Write) → IfErr r P
if_err (Ok x) P f h = tt
if_err (Err e) P f h = f e h

-- the task whose label names no profile, where the bytes are a job and its policy compiles
pub unknown_explained : (input : List ℕ) (job : Job) (policies : List Policy) (fault : MediateFault) → HandsIn input job policies
    → ((task : ℕ) → fault ≡ mediates.UnknownProfile task → first_unknown policies job.tasks ≡ Some task) → Explains (mediate_cause fault) input
unknown_explained input job policies mediates.NoMemory asked first = tt
unknown_explained input job policies (mediates.UnknownProfile task) asked first = record { job = job; policies = policies; asked = asked; unknown = first task refl }
