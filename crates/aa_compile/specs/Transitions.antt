-- Where an execution leads.
-- Source: apparmor.d(5), "Profile Head", "Access Modes".
use Rattle.std.specs.Prelude.{ℕ, List, [], ◌∷◌, ◌++◌, map, Bool, false, if◌then◌else◌, Option, Some, None, is_some, position}
use Rattle.std.specs.Option.{option_map_or, option_and_then}
use Rattle.std.specs.List.{slice_get}
use Rattle.std.specs.Str.{bytes_eq}
use Rattle.aa_model.specs.declared.rule.ExecKind.{ExecKind}
use Rattle.aa_model.specs.declared.rule.ExecKind.TheVariants.{Inherit, Unconfined, Profile as Named, Child}
use Rattle.aa_model.specs.declared.rule.Fallback.{Fallback}
use Rattle.aa_model.specs.declared.rule.Fallback.TheVariants.{Refuse, Inherit as Stay, Unconfined as Leave}
use Rattle.aa_model.specs.declared.rule.Exec.{Exec}
use Rattle.aa_model.specs.declared.rule.FileRule.{FileRule}
use Rattle.aa_model.specs.declared.policy.Policy.{Policy}
use Rattle.aa_model.specs.declared.policy.Profile.{Profile}
use Rattle.aa_model.specs.Lawful.{has_exec}
use Rattle.aa_compile.specs.FileRules.{file_verdict, chosen, way_of}
use Rattle.aa_compile.specs.Attached.{attached, numbers_below}
use Rattle.aa_compile.specs.declared.targets.Targets.{Targets}
use Rattle.aa_compile.specs.declared.transition.Transition.{Transition}
use Rattle.aa_compile.specs.declared.transition.Transition.TheVariants.{Denied, Nowhere, To}

-- the numbers of the children of a profile
abbrev pub children : List Profile → ℕ → List ℕ
children profiles number = numbers_below (Some number) 0 profiles

-- the numbers of the top-level profiles
abbrev pub tops : List Profile → List ℕ
tops profiles = numbers_below None 0 profiles

-- the child of a profile that is attached to a path, if there is that profile
abbrev pub attached_below : ℕ → List ℕ → Policy → Option ℕ
attached_below parent path policy =
    option_and_then (λ (q : Profile). attached policy.profiles (children policy.profiles parent) path) (slice_get policy.profiles parent)

-- the profile with that full name
abbrev pub named : List Profile → List ℕ → Option ℕ
named profiles name = position (λ p. bytes_eq name p.name) profiles

-- the full name of a child
abbrev pub child_name : List ℕ → List ℕ → List ℕ
child_name parent name = parent ++ (47 ∷ 47 ∷ []) ++ name

-- the child of that name; a child has none
abbrev pub named_child : List Profile → Profile → List ℕ → Option ℕ
named_child profiles p name = if is_some p.parent then None else named profiles (child_name p.name name)

-- the profile that a kind of execution leads to, by the name behind the arrow or by the path, if it is found
abbrev pub found_by : List Profile → ℕ → Profile → List ℕ → ExecKind → Option (List ℕ) → Option ℕ
found_by profiles n p path Named (Some name) = named profiles name
found_by profiles n p path Named None = attached profiles (tops profiles) path
found_by profiles n p path Child (Some name) = named_child profiles p name
found_by profiles n p path Child None = if is_some p.parent then None else attached profiles (children profiles n) path
found_by profiles n p path Inherit _ = None
found_by profiles n p path Unconfined _ = None

-- where an execution leads that finds no profile
abbrev pub falls : Fallback → Bool → ℕ → Transition
falls Refuse scrub n = Nowhere
falls Stay scrub n = To (Some n) false
falls Leave scrub n = To None scrub

-- where an execution leads that finds this profile, or none
abbrev pub goes : Fallback → Bool → ℕ → Option ℕ → Transition
goes fallback scrub n (Some m) = To (Some m) scrub
goes fallback scrub n None = falls fallback scrub n

-- where it leads from profile n, when that profile was found
abbrev pub leads : ExecKind → Fallback → Bool → ℕ → Option ℕ → Transition
leads Inherit fallback scrub n found = To (Some n) false
leads Unconfined fallback scrub n found = To None scrub
leads Named fallback scrub n found = goes fallback scrub n found
leads Child fallback scrub n found = goes fallback scrub n found

-- where a rule's way of execution leads
abbrev pub leads_by : List Profile → ℕ → Profile → List ℕ → Exec → Transition
leads_by profiles n p path e = leads e.kind e.fallback e.scrub n (found_by profiles n p path e.kind e.target)

-- an execution by a task in profile n
abbrev pub transition : List Profile → ℕ → Profile → List ℕ → Bool → Transition
transition profiles n p path owned =
    if has_exec (file_verdict p.files path owned).deny then Denied
    else option_map_or (leads_by profiles n p path) (way_of (chosen p.files path owned)) Nowhere

-- the profiles that a name stands for
abbrev pub targets_named : List Profile → Profile → List ℕ → Targets
targets_named profiles p name = record { profile = named profiles name; child = named_child profiles p name }

-- no profile is named
abbrev pub no_targets : Targets
no_targets = record { profile = None; child = None }

-- the name that a rule's arrow points at
abbrev pub target_of : FileRule → Option (List ℕ)
target_of r = option_and_then (λ (e : Exec). e.target) r.exec

-- the profiles that a rule's arrow can mean
abbrev pub targets_of_rule : List Profile → Profile → FileRule → Targets
targets_of_rule profiles p r = option_map_or (targets_named profiles p) (target_of r) no_targets

-- the same of each rule of a profile
abbrev pub targets_by : List Profile → Profile → List Targets
targets_by profiles p = map (targets_of_rule profiles p) p.files
