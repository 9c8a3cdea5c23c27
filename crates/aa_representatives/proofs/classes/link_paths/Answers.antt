use Rattle.std.proofs.Common.{◌≡◌, ◌<◌, ◌≤◌, length, None, Some, refl, ap, ◌∙◌, arith}
use Rattle.std.specs.List.{slice_get}
use Rattle.std.proofs.lemmas.Option.{slice_get_past, slice_get_read}
use Rattle.aa_model.specs.declared.policy.Policy.{Policy}
use Rattle.aa_representatives.proofs.Linking.{no_paths, free_says, absent_says, missing_says, some_profile, label_paths}
use Rattle.aa_representatives.proofs.classes.link_paths.Goals as goal
use Rattle.aa_regions.proofs.Paths.{ok_then}

pub returns-in_default : goal.returns-in_default
returns-in_default c =
    let policies = c.args.policies.now in
    ok_then c.one_path.result c.one_path.ensures (λ ps e. no_paths policies c.args.label ps.items e (free_says policies c.args.label c.in_default.field-0 c.in_default.is))

pub returns-in_default-get : goal.returns-in_default-get
returns-in_default-get c =
    let policies = c.args.policies.now in
    let none : slice_get policies c.in-Confined.policy ≡ None = slice_get_past policies c.in-Confined.policy c.in_default-get.ensures.lookup.3 in
    ok_then c.one_path-in_default-get.result c.one_path-in_default-get.ensures
    (λ ps e. no_paths policies c.args.label ps.items e (absent_says policies c.args.label c.in-Confined.policy c.in-Confined.number c.in-Confined.is none))

pub returns-then-number-as_slice : goal.returns-then-number-as_slice
returns-then-number-as_slice c =
    let policies = c.args.policies.now in
    let policy = c.in-Some.compiled.now in
    let found = c.in-Some.ensures.lookup in
    let there : slice_get policies c.in-Confined.policy ≡ Some policy = slice_get_read policies (length policies) c.in-Confined.policy policy refl found.3.0 found.1 in
    let long : length c.as_slice.result.now ≡ length policy.profiles = ap length (c.as_slice.ensures ∙ ap (λ (q : Policy). q.profiles) c.policy.ensures) in
    let past : length policy.profiles ≤ c.in-Confined.number = omega (arith, long, c.if-number-as_slice.true) in
    ok_then c.one_path-then-number-as_slice.result c.one_path-then-number-as_slice.ensures
    (λ ps e. no_paths policies c.args.label ps.items e (missing_says policies c.args.label c.in-Confined.policy c.in-Confined.number policy c.in-Confined.is there past))

pub returns : goal.returns
returns c =
    let policies = c.args.policies.now in
    let policy = c.in-Some.compiled.now in
    let found = c.in-Some.ensures.lookup in
    let there : slice_get policies c.in-Confined.policy ≡ Some policy = slice_get_read policies (length policies) c.in-Confined.policy policy refl found.3.0 found.1 in
    let long : length c.as_slice.result.now ≡ length policy.profiles = ap length (c.as_slice.ensures ∙ ap (λ (q : Policy). q.profiles) c.policy.ensures) in
    let within : c.in-Confined.number < length policy.profiles = omega (arith, long, c.if-number-as_slice.false) in
    let p = some_profile policy.profiles c.in-Confined.number within in
    ok_then c.paths_in_profile.result c.paths_in_profile.ensures
    (λ ps of. label_paths policies c.args.label c.in-Confined.policy c.in-Confined.number policy p.0 c.args.regions.now ps.items c.in-Confined.is there p.1 c.requires (of p.0 p.1))
