-- Where executions lead that find a profile by an attachment which accounts for a difference.
-- Source: own.
use Rattle.std.specs.Prelude.{ℕ, ◌≡◌, List, Some}
use Rattle.aa_model.specs.declared.policy.Policy.{Policy}
use Rattle.aa_model.specs.declared.label.Label.{Label}
use Rattle.aa_model.specs.declared.label.Label.TheVariants.{Confined}
use Rattle.aa_model.specs.declared.request.Request.TheVariants.{Exec}
use Rattle.aa_model.specs.Requests.{RequestedExec}
use Rattle.aa_compile.specs.Labels.{policy_number}
use Rattle.aa_mediate.specs.Reply.{reply}
use Rattle.aa_changed_rules.specs.Attachments.{attached_alone}

-- the profile that is found so is the one in which the task goes on
abbrev pub AttachedAreLedTo : Type 0
AttachedAreLedTo =
    (ps qs : List Policy) (l m : Label) (e : RequestedExec) (n : ℕ) → attached_alone ps qs l m (Exec e) ≡ Some n
    → (reply ps l (Exec e)).label ≡ Confined (policy_number l) n
