-- Requests for the files and the names that rules name one by one.
-- Source: own.
use Rattle.std.specs.Prelude.{◌≡◌, ℕ, List, true, false, codes, Contains}
use Rattle.aa_pattern.specs.declared.pattern.Pattern.{Pattern}
use Rattle.aa_pattern.specs.Matching.{is_match}
use Rattle.aa_model.specs.declared.rule.FileRule.{FileRule}
use Rattle.aa_model.specs.declared.rule.ChangeRule.{ChangeRule}
use Rattle.aa_model.specs.declared.policy.Profile.{Profile}
use Rattle.aa_model.specs.declared.request.Request.{Request}
use Rattle.aa_model.specs.declared.request.Request.TheVariants.{Change}
use Rattle.aa_compile.specs.FileRules.{says_how}
use Rattle.aa_compile.specs.Holding.{change_holds}
use Rattle.aa_regions.specs.Regions.{IsAsked}
use Rattle.aa_representatives.specs.Askable.{IsChange}
use Rattle.aa_representatives.specs.Representatives.{HasExecs, HasChange}

-- among the requests are those to execute each file that the pattern matches and that can be asked for
abbrev pub HasExecsOf : List Request → Pattern → Type 0
HasExecsOf rs p = (s : List ℕ) → is_match p.items.items s ≡ true → IsAsked s → HasExecs s rs

-- so of each pattern of the rule, where it says how a program is executed
abbrev pub HasExecsOfRule : List Request → FileRule → Type 0
HasExecsOfRule rs r = says_how r ≡ true → (p : Pattern) → Contains r.patterns p → HasExecsOf rs p

-- to change to that name, which can be asked for
abbrev pub IsChangeTo : List ℕ → Request → Type 0
IsChangeTo name (Change s) = (s ≡ name) × IsChange (Change s)
IsChangeTo name _ = ⊥

-- to change to a name, which can be asked for, and for which the rule holds, which doesn't deny
abbrev pub IsChangeOf : ChangeRule → Request → Type 0
IsChangeOf r (Change s) = IsChange (Change s) × (r.deny ≡ false) × (change_holds s r ≡ true)
IsChangeOf r _ = ⊥

-- so for one of the rules
abbrev pub IsChangeOfOne : List ChangeRule → Request → Type 0
IsChangeOfOne rules q = (r : ChangeRule) × Contains rules r × IsChangeOf r q

-- among the requests is that to change to each name for which the rule holds, unless it denies that
abbrev pub HasChangesOfRule : List Request → ChangeRule → Type 0
HasChangesOfRule rs r = r.deny ≡ false → (s : List ℕ) → change_holds s r ≡ true → HasChange s rs

-- among the requests are those to change to the full name of each profile, and to unconfined
pub record HasNames (profiles : List Profile) (rs : List Request) : Type 0 where
  pub free : HasChange (codes "unconfined") rs
  pub names : (p : Profile) → Contains profiles p → HasChange p.name rs
