-- What a request is answered.
-- Source: apparmor.d(5), "Access Modes", "change_profile rules"; own.
use Rattle.std.specs.Prelude.{ℕ, List, Bool, true, false, Option, Some, None, option_map, is_some}
use Rattle.std.specs.Option.{option_map_or, option_and_then}
use Rattle.std.specs.List.{slice_get}
use Rattle.aa_model.specs.declared.policy.Policy.{Policy}
use Rattle.aa_model.specs.declared.policy.Profile.{Profile}
use Rattle.aa_compile.specs.declared.transition.Transition.{Transition}
use Rattle.aa_compile.specs.declared.transition.Transition.TheVariants.{To}
use Rattle.aa_compile.specs.Transitions.{named, transition}
use Rattle.aa_model.specs.declared.label.Label.{Label}
use Rattle.aa_model.specs.declared.label.Label.TheVariants.{Unconfined, Confined}
use Rattle.aa_model.specs.Requests.{RequestedExec}
use Rattle.aa_model.specs.declared.request.Request.{Request}
use Rattle.aa_model.specs.declared.request.Request.TheVariants.{File, Link, Exec, Cap, Net, Change, Reload}
use Rattle.aa_model.specs.declared.answer.Answer.{Answer}
use Rattle.aa_compile.specs.Labels.{policy_number, label_named}
use Rattle.aa_mediate.specs.declared.bits.RequestBits.{RequestBits}
use Rattle.aa_mediate.specs.Attachments.{attached_in}
use Rattle.aa_mediate.specs.Held.{cap_verdict, net_verdict, change_verdict}
use Rattle.aa_mediate.specs.Bits.{plain_bits, file_bits, exec_bits, change_bits}
use Rattle.aa_mediate.specs.Links.{link_bits}
use Rattle.aa_mediate.specs.Decided.{answered, decided, without_perms}

-- the label of a profile of policy k, or of none
abbrev pub label_by : ℕ → Option ℕ → Label
label_by k profile = option_map_or (Confined k) profile (Unconfined k)

-- the label after an execution that is granted: where it leads, in the same policy, if it leads anywhere
abbrev pub label_after : ℕ → ℕ → Transition → Label
label_after k n (To next scrub) = label_by k next
label_after k n _ = Confined k n

-- the execution scrubs the environment
abbrev pub scrubs : Transition → Bool
scrubs (To next scrub) = scrub
scrubs _ = false

-- the label that was found, else this one
abbrev pub found_or : Label → Option Label → Label
found_or label found = option_map_or (λ (next : Label). next) found label

-- granted with the label that is found, else refused; never a note
abbrev pub goes_to : Label → Option Label → Answer
goes_to label found = answered (is_some found) false (found_or label found) None

-- unconfined, by the policy of that number if it is there
abbrev pub free_in : List Policy → ℕ → Option Label
free_in policies m = option_map (λ (p : Policy). Unconfined m) (slice_get policies m)

-- the profile with that full name in the policy of that number, if there are both
abbrev pub confined_in : List Policy → ℕ → List ℕ → Option Label
confined_in policies m name = option_and_then (λ (p : Policy). option_map (Confined m) (named p.profiles name)) (slice_get policies m)

-- an unconfined task, by policy k: everything is granted, but for a label that isn't there; an execution leads to the attached profile
abbrev pub reply_free : List Policy → ℕ → Request → Answer
reply_free policies k (Exec r) = answered true false (label_by k (attached_in policies k r.path)) None
reply_free policies k (Change name) = goes_to (Unconfined k) (label_named policies k name)
reply_free policies k (Reload m) = goes_to (Unconfined k) (free_in policies m)
reply_free policies k _ = answered true false (Unconfined k) None

-- a request that doesn't move a task in profile n of policy k
abbrev pub kept : ℕ → ℕ → Profile → RequestBits → Answer
kept k n p bits = decided p (Confined k n) (Confined k n) false bits

-- an execution leads where its transition does
abbrev pub exec_reply : ℕ → List Profile → ℕ → Profile → RequestedExec → Answer
exec_reply k profiles n p r =
    let t = transition profiles n p r.path r.owned in
    decided p (Confined k n) (label_after k n t) (scrubs t) (exec_bits p.files r t)

-- a change leads to the label of that name, if one is found
abbrev pub change_reply : ℕ → ℕ → Profile → List ℕ → Option Label → Answer
change_reply k n p name found = without_perms (decided p (Confined k n) (found_or (Confined k n) found) false (change_bits (change_verdict p.changes name) (is_some found)))

-- a task in profile n, which is p, of policy k
abbrev pub reply_in : List Policy → ℕ → List Profile → ℕ → Profile → Request → Answer
reply_in policies k profiles n p (File r) = kept k n p (file_bits p.files r)
reply_in policies k profiles n p (Link r) = kept k n p (link_bits p.files r)
reply_in policies k profiles n p (Exec r) = exec_reply k profiles n p r
reply_in policies k profiles n p (Cap c) = without_perms (kept k n p (plain_bits 1 (cap_verdict p.caps c)))
reply_in policies k profiles n p (Net f s) = without_perms (kept k n p (plain_bits 1 (net_verdict p.nets f s)))
reply_in policies k profiles n p (Change name) = change_reply k n p name (label_named policies k name)
reply_in policies k profiles n p (Reload m) = goes_to (Confined k n) (confined_in policies m p.name)

-- in a profile that isn't there, everything is refused
abbrev pub reply_at : List Policy → ℕ → List Profile → ℕ → Option Profile → Request → Answer
reply_at policies k profiles n (Some p) request = reply_in policies k profiles n p request
reply_at policies k profiles n None request = goes_to (Confined k n) None

-- by a policy that isn't there, everything is refused
abbrev pub reply_by : List Policy → Label → Option Policy → Request → Answer
reply_by policies (Unconfined k) (Some policy) request = reply_free policies k request
reply_by policies (Confined k n) (Some policy) request = reply_at policies k policy.profiles n (slice_get policy.profiles n) request
reply_by policies label None request = goes_to label None

-- the answer to a request of a task with that label: the policy that the label names decides it
unfoldable pub reply : List Policy → Label → Request → Answer
reply policies label request = reply_by policies label (slice_get policies (policy_number label)) request
