use Rattle.std.proofs.Common.{◌≡◌, ℕ, List, subst, arith}
use Rattle.aa_model.specs.declared.policy.Profile.{Profile}
use Rattle.aa_model.specs.declared.request.Request.{Request}
use Rattle.aa_representatives.specs.Askable.{IsChange}
use Rattle.aa_representatives.specs.Representatives.{HasChange}
use Rattle.aa_representatives.proofs.Adding.{adds_both, adds_keep}
use Rattle.aa_representatives.proofs.Linking.{elements_more}
use Rattle.aa_reachability.specs.Single.{IsChangeTo}
use Rattle.aa_reachability.proofs.Single.{adds_weaker, to_one}
use Rattle.aa_reachability.proofs.changes.add_names.Goals as goal

pub loop-profile-preserved : goal.loop-profile-preserved
loop-profile-preserved c =
    let was = c.loop-profile.requests.items in
    let now = c.add_change.new.requests.items in
    let made = c.in_ok-add_change.ensures in
    let more = adds_weaker (IsChangeTo c.as_slice.result.now) IsChange was now (to_one c.as_slice.result.now) made.adds in
    record {
      adds = adds_both IsChange c.args.requests.now.items was now c.loop-profile.invariant.adds more;
      has = elements_more c.args.profiles.now c.loop-profile.profile-index c.profile-item.result (λ (p : Profile). HasChange p.name was)
          (λ (p : Profile). HasChange p.name now) c.loop-profile-test.true c.profile-item.is (λ p has wanted. adds_keep IsChange was now more _ (has wanted))
          (subst (λ (s : List ℕ). HasChange s now) c.as_slice.ensures made.has) c.loop-profile.invariant.has;
    }
