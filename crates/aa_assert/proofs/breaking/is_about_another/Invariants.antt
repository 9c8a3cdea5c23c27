use Rattle.std.proofs.Common.{◌≡◌, take, false}
use Rattle.std.specs.Prelude.{◌&&◌, not}
use Rattle.std.specs.List.{list_any}
use Rattle.std.specs.Str.{bytes_eq}
use Rattle.aa_model.specs.declared.policy.Profile.{Profile}
use Rattle.aa_assert.specs.Scope.{is_about}
use Rattle.aa_assert.proofs.breaking.is_about_another.Given as goal

abbrev pub invariant-loop-profile : goal.invariant-loop-profile
invariant-loop-profile l =
    list_any (λ (q : Profile). is_about l.words q.name && not (bytes_eq q.name l.name)) (take l.profile-index l.profiles) ≡ false
