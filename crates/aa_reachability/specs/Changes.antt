-- Changes from a profile.
-- Source: own.
use Rattle.std.specs.Prelude.{◌≡◌, List, Bool, false, Contains}
use Rattle.std.specs.List.{list_all}
use Rattle.aa_model.specs.declared.rule.ChangeRule.{ChangeRule}
use Rattle.aa_model.specs.declared.policy.Profile.{Profile}
use Rattle.aa_model.specs.declared.request.Request.{Request}
use Rattle.aa_representatives.specs.Askable.{IsChange}
use Rattle.aa_reachability.specs.Granted.{allows_change}
use Rattle.aa_reachability.specs.Single.{IsChangeOfOne, HasChangesOfRule, HasNames}

-- they are those to the names that its rules name one by one, where it is in enforce mode, and it is said whether none denies any;
-- or those to all names
pub data AreChangesBy (profiles : List Profile) (p : Profile) (rs : List Request) (said : Bool) : Type 0 where
  ByRules : p.complain ≡ false → ((r : Request) → Contains rs r → IsChangeOfOne p.changes r) → ((r : ChangeRule) → Contains p.changes r → HasChangesOfRule rs r)
      → said ≡ list_all allows_change p.changes → AreChangesBy profiles p rs said
  ByNames : ((r : Request) → Contains rs r → IsChange r) → HasNames profiles rs → said ≡ false → AreChangesBy profiles p rs said
