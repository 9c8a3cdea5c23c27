use Rattle.std.proofs.Common.{ap, ◌∙◌, sym, subst, add-one}
use Rattle.std.specs.Prelude.{IfSome, ◌≤◌, ◌+◌}
use Rattle.aa_model.specs.declared.policy.Profile.{Profile}
use Rattle.aa_load.specs.Joined.{moved}
use Rattle.aa_load.proofs.Moves.{not_yet, one_more}
use Rattle.aa_load.proofs.moving.move_profiles.Goals as goal

pub move_profile-requires : goal.move_profile-requires
move_profile-requires c =
    subst (λ (p : Profile). IfSome p.parent (λ n. n + c.args.before ≤ 65535))
    (sym (not_yet (moved c.args.before) c.args.profiles.now c.loop-profile.profiles c.loop-profile.profile-index c.profile-item.result c.loop-profile.invariant c.loop-profile-test.true))
    (c.requires c.loop-profile.profile-index c.profile-item.result c.loop-profile-test.true)

pub loop-profile-preserved : goal.loop-profile-preserved
loop-profile-preserved c =
    rw add-one (one_more (moved c.args.before) c.args.profiles.now c.loop-profile.profiles c.loop-profile.profile-index c.profile-item.result c.move_profile.new.profile c.loop-profile.invariant c.loop-profile-test.true
    (c.move_profile.ensures ∙ ap (moved c.args.before)
    (not_yet (moved c.args.before) c.args.profiles.now c.loop-profile.profiles c.loop-profile.profile-index c.profile-item.result c.loop-profile.invariant c.loop-profile-test.true)))
