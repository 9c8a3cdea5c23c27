use Rattle.std.proofs.Common.{◌≡◌, take, false}
use Rattle.std.specs.List.{list_any}
use Rattle.aa_model.specs.declared.policy.Profile.{Profile}
use Rattle.aa_assert.specs.Names.{names}
use Rattle.aa_assert.proofs.scope.is_profile.Given as goal

abbrev pub invariant-loop-profile : goal.invariant-loop-profile
invariant-loop-profile l = list_any (λ (p : Profile). names l.word p.name) (take l.profile-index l.profiles) ≡ false
