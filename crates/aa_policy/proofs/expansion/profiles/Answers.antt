use Rattle.std.proofs.Common.{List, [], ◌∷◌, ◌++◌, subst}
use Rattle.std.proofs.lemmas.List.{take_all}
use Rattle.std.proofs.lemmas.Result.{err_from_is_err_and}
use Rattle.aa_policy.specs.declared.tree.ProfileTree.{ProfileTree}
use Rattle.aa_policy.specs.Expansion.{IsFirstRefused}
use Rattle.aa_policy.specs.Bodies.{profile_data, tree_data}
use Rattle.aa_policy.specs.Spelling.{MeansProfile, MeansProfiles, profile_paths}
use Rattle.aa_policy.proofs.Expanded.{refused_at, passed_at}
use Rattle.aa_policy.proofs.Meaning.{profiles_more, profile_expands}
use Rattle.aa_policy.proofs.Refusals.{handed_on}
use Rattle.aa_policy.proofs.expansion.profiles.Goals as goal

pub loop-one-init : goal.loop-one-init
loop-one-init c = record { profiles = ([], tt, c.in_ok-found.ensures); left = λ e h. h }

pub returns-in_err-profile-clause-refused : goal.returns-in_err-profile-clause-refused
returns-in_err-profile-clause-refused c =
    let r = c.from_residual-in_err-profile in
    let q = err_from_is_err_and r.result r.ensures.1 in
    handed_on r.result _ _ _ q.1 q.2 (λ h. c.loop-one.invariant.left _ (refused_at c.args.vars.now profile_paths profile_data c.args.tree.now c.loop-one.one-index c.one-item.result _ c.loop-one-test.true
    (subst (λ (t : ProfileTree). IsFirstRefused c.args.vars.now (profile_paths (profile_data t)) c.in_err-profile.field-0.0) c.one-item.is (c.in_err-profile.ensures.refused h))))

pub loop-one-preserved : goal.loop-one-preserved
loop-one-preserved c =
    let before = c.loop-one.invariant.profiles in
    let read = c.in_ok-profile.ensures.profile in
    let means = subst (λ (t : ProfileTree). MeansProfile c.args.vars.now (profile_data t) read.0) c.one-item.is read.1 in
    record {
      profiles = (
        before.0 ++ read.0 ∷ [],
        profiles_more c.args.vars.now c.args.tree.now c.loop-one.one-index c.one-item.result before.0 read.0 c.loop-one-test.true before.1 means,
        c.in_ok-push_profile.ensures before.0 read.0 before.2 read.2,
      );
      left = λ e h. c.loop-one.invariant.left e (passed_at c.args.vars.now profile_paths profile_data c.args.tree.now c.loop-one.one-index c.one-item.result e c.loop-one-test.true (profile_expands c.args.vars.now _ _ means) h);
    }

pub returns-clause-profiles : goal.returns-clause-profiles
returns-clause-profiles c =
    let all = c.loop-one.invariant.profiles in
    (all.0, subst (λ (ts : List ProfileTree). MeansProfiles c.args.vars.now (tree_data ts) all.0) (take_all c.loop-one.one-index c.args.tree.now c.loop-one-test.false) all.1, all.2)
