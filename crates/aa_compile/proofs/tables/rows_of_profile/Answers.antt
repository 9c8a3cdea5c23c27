use Rattle.std.proofs.Common.{◌+◌, ◌≤◌, Some, length, sym, subst, ◌∙◌}
use Rattle.aa_auto.specs.Tables.{HasPlaces}
use Rattle.aa_compile.specs.FileRules.{Conflicts}
use Rattle.aa_compile.specs.Patterns.{HasAutomaton}
use Rattle.aa_compile.specs.Rows.{patterns_of}
use Rattle.aa_compile.specs.Attached.{attachments_by}
use Rattle.aa_compile.specs.Checks.{attached_patterns}
use Rattle.aa_compile.proofs.Counts.{attachments_few}
use Rattle.aa_compile.proofs.CheckLemmas.{files_fail, children_fail}
use Rattle.aa_compile.proofs.tables.rows_of_profile.Goals as goal

pub returns-in-Err-clause-fails : goal.returns-in-Err-clause-fails
returns-in-Err-clause-fails c =
    let e = c.as_slice.ensures in
    files_fail c.args.profiles.now c.args.limit c.args.number c.args.profile.now c.build.result c.in-Err.fault _ c.fault_of_rows.ensures c.in-Err.is
    (λ h. subst Conflicts e (c.build.ensures.conflict h))
    (λ h. subst (λ fs. HasAutomaton (patterns_of fs) c.args.limit) e (c.build.ensures.fitted h))
    (λ h. subst (λ fs. HasPlaces (patterns_of fs) (c.args.limit + 1)) e (c.build.ensures.too_many h))

pub build-requires-2-clause-few : goal.build-requires-2-clause-few
build-requires-2-clause-few c =
    let e = c.group_at-below.ensures ∙ c.requires.group in
    subst (λ ns. length (attachments_by c.args.profiles.now ns) ≤ 65535) (sym e) (attachments_few c.args.profiles.now (Some c.args.number) c.requires.limits)

pub returns-clause-passes : goal.returns-clause-passes
returns-clause-passes c =
    let e = c.as_slice.ensures in
    record {
      files = subst (λ fs. HasAutomaton (patterns_of fs) c.args.limit) e c.in-Ok.ensures.fits;
      free = subst (λ fs. Conflicts fs → ⊥) e c.in-Ok.ensures.free;
      below = subst (λ ns. HasAutomaton (attached_patterns c.args.profiles.now ns) c.args.limit) (c.group_at-below.ensures ∙ c.requires.group) c.in-Ok-build.ensures.fits;
    }

pub returns-in-Err-build-clause-fails : goal.returns-in-Err-build-clause-fails
returns-in-Err-build-clause-fails c =
    let e = c.as_slice.ensures in
    children_fail c.args.profiles.now c.args.limit c.args.number c.args.profile.now c.build-2.result c.in-Err-build.fault _ c.fault_of_states.ensures c.in-Err-build.is
    (subst (λ fs. HasAutomaton (patterns_of fs) c.args.limit) e c.in-Ok.ensures.fits)
    (subst (λ fs. Conflicts fs → ⊥) e c.in-Ok.ensures.free)
    (λ h. subst (λ ns. HasPlaces (attached_patterns c.args.profiles.now ns) (c.args.limit + 1)) (c.group_at-below.ensures ∙ c.requires.group) (c.build-2.ensures.too_many h))
