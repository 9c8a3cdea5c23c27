-- The profile that an execution finds by an attachment, where another policy attaches none of its name.
-- Source: apparmor.d(5), "Profile Head", "Access Modes"; own.
use Rattle.std.specs.Prelude.{ℕ, List, [], Bool, Option, Some, None, is_some, if◌then◌else◌}
use Rattle.std.specs.Option.{option_map_or, option_and_then}
use Rattle.std.specs.List.{slice_get}
use Rattle.std.specs.Str.{bytes_eq}
use Rattle.aa_model.specs.declared.rule.ExecKind.{ExecKind}
use Rattle.aa_model.specs.declared.rule.ExecKind.TheVariants.{Inherit, Unconfined as Leave, Profile as Named, Child}
use Rattle.aa_model.specs.declared.rule.Exec.{Exec}
use Rattle.aa_model.specs.declared.policy.Policy.{Policy}
use Rattle.aa_model.specs.declared.policy.Profile.{Profile}
use Rattle.aa_model.specs.declared.label.Label.{Label}
use Rattle.aa_model.specs.declared.label.Label.TheVariants.{Unconfined, Confined}
use Rattle.aa_model.specs.declared.request.Request.{Request}
use Rattle.aa_model.specs.declared.request.Request.TheVariants.{Exec as Execute}
use Rattle.aa_model.specs.Requests.{RequestedExec}
use Rattle.aa_model.specs.Lawful.{has_exec}
use Rattle.aa_compile.specs.FileRules.{file_verdict, chosen, way_of}
use Rattle.aa_compile.specs.Labels.{policy_number}
use Rattle.aa_compile.specs.Attached.{attached}
use Rattle.aa_compile.specs.Transitions.{tops, attached_below}
use Rattle.aa_changed_rules.specs.declared.attachments.Range.{Range}
use Rattle.aa_changed_rules.specs.declared.attachments.Range.TheVariants.{Tops, Children}

-- among which profiles a kind of execution looks for an attached one: it looks for none where a profile is named, and a child has no children
abbrev pub range_by : ExecKind → Bool → Bool → Option Range
range_by Named is_named is_child = if is_named then None else Some Tops
range_by Child is_named is_child = if is_named then None else (if is_child then None else Some Children)
range_by Inherit is_named is_child = None
range_by Leave is_named is_child = None

-- the same of an execution by a task in a profile, where no rule denies it
abbrev pub range_in : RequestedExec → Profile → Option Range
range_in e p =
    if has_exec (file_verdict p.files e.path e.owned).deny then None
    else option_and_then (λ (w : Exec). range_by w.kind (is_some w.target) (is_some p.parent)) (way_of (chosen p.files e.path e.owned))

-- the same at a label: an unconfined task gets to profiles of the top level
abbrev pub range_at : Policy → Label → RequestedExec → Option Range
range_at q (Unconfined k) e = Some Tops
range_at q (Confined k n) e = option_and_then (range_in e) (slice_get q.profiles n)

-- the one of these profiles that is attached to the path
abbrev pub attached_among : Policy → Label → Range → List ℕ → Option ℕ
attached_among q l Tops path = attached q.profiles (tops q.profiles) path
attached_among q (Confined k n) Children path = attached_below n path q
attached_among q (Unconfined k) Children path = None

-- the full name of the profile with that number
abbrev pub name_of : Policy → ℕ → List ℕ
name_of q n = option_map_or (λ (p : Profile). p.name) (slice_get q.profiles n) []

-- the number, unless the other policy's profile is called alike
abbrev pub unless_alike : Policy → Policy → ℕ → Option ℕ → Option ℕ
unless_alike q o n (Some m) = if bytes_eq (name_of q n) (name_of o m) then None else Some n
unless_alike q o n None = Some n

-- the profile of these that is attached to the path in a policy, unless one of that name is in the other
abbrev pub alone_among : Policy → Policy → Label → Label → List ℕ → Range → Option ℕ
alone_among q o l m path range = option_and_then (λ (n : ℕ). unless_alike q o n (attached_among o m range path)) (attached_among q l range path)

-- the profile that an execution finds so by a policy, in which the task has the label l, and m in the other
abbrev pub found_alone : Policy → Policy → Label → Label → RequestedExec → Option ℕ
found_alone q o l m e = option_and_then (alone_among q o l m e.path) (range_at q l e)

-- the same of any request, by lists of policies
unfoldable pub attached_alone : List Policy → List Policy → Label → Label → Request → Option ℕ
attached_alone ps qs l m (Execute e) =
    option_and_then (λ (q : Policy). option_and_then (λ (o : Policy). found_alone q o l m e) (slice_get qs (policy_number m))) (slice_get ps (policy_number l))
attached_alone ps qs l m _ = None
