-- Where a numbered way leads.
use Rattle.std.specs.Prelude.{ℕ, List, if◌then◌else◌, Option, Some, None, is_some}
use Rattle.std.specs.Option.{option_map_or}
use Rattle.std.specs.List.{slice_get}
use Rattle.aa_model.specs.declared.rule.ExecKind.{ExecKind}
use Rattle.aa_model.specs.declared.rule.ExecKind.TheVariants.{Inherit, Unconfined, Profile as Named, Child}
use Rattle.aa_model.specs.declared.policy.Profile.{Profile}
use Rattle.aa_compile.specs.declared.mark.Way.{Way}
use Rattle.aa_compile.specs.Attached.{attached}
use Rattle.aa_compile.specs.declared.targets.Targets.{Targets}
use Rattle.aa_compile.specs.Transitions.{children, tops, targets_by, no_targets}

-- what the target with that number leads to
abbrev pub targets_at : List Targets → ℕ → Targets
targets_at targets t = option_map_or (λ (x : Targets). x) (slice_get targets t) no_targets

-- the profile that an execution of that kind finds
abbrev pub found_at : List Profile → ℕ → Profile → List ℕ → ExecKind → Option ℕ → Option ℕ
found_at profiles n p path Named (Some t) = (targets_at (targets_by profiles p) t).profile
found_at profiles n p path Named None = attached profiles (tops profiles) path
found_at profiles n p path Child (Some t) = (targets_at (targets_by profiles p) t).child
found_at profiles n p path Child None = if is_some p.parent then None else attached profiles (children profiles n) path
found_at profiles n p path Inherit _ = None
found_at profiles n p path Unconfined _ = None

-- the profile that an execution in that way finds
abbrev pub found_in : List Profile → ℕ → Profile → List ℕ → Way → Option ℕ
found_in profiles n p path w = found_at profiles n p path w.kind w.target
