-- When two policies are the same.
use Rattle.std.specs.Prelude.{◌≡◌, List, Option, Some, None}
use Rattle.std.specs.List.{AllZip}
use Rattle.aa_pattern.specs.declared.pattern.Pattern.{Pattern}
use Rattle.aa_pattern.specs.Sameness.{SameItems}
use Rattle.aa_model.specs.declared.rule.ChangeRule.{ChangeRule}
use Rattle.aa_model.specs.declared.rule.FileRule.{FileRule}
use Rattle.aa_model.specs.declared.policy.Profile.{Profile}
use Rattle.aa_model.specs.declared.policy.Policy.{Policy}

-- as many patterns, each of the same items in its place, wherever these lie in memory
abbrev pub SamePatterns : List Pattern → List Pattern → Type 0
SamePatterns patterns others = AllZip (λ p q. SameItems p.items.items q.items.items) patterns others

-- file rules that are equal but for where their patterns lie
pub record SameRule (r s : FileRule) : Type 0 where
  pub audit : r.audit ≡ s.audit
  pub deny : r.deny ≡ s.deny
  pub owner : r.owner ≡ s.owner
  pub perms : r.perms ≡ s.perms
  pub exec : r.exec ≡ s.exec
  pub patterns : SamePatterns r.patterns s.patterns

-- no pattern twice, or two patterns of the same items in their place
abbrev pub SameIfAny : Option Pattern → Option Pattern → Type 0
SameIfAny None None = Unit {0}
SameIfAny (Some p) (Some q) = SameItems p.items.items q.items.items
SameIfAny _ _ = ⊥

-- rules on changes of profile that are equal but for where their patterns lie
pub record SameChange (r s : ChangeRule) : Type 0 where
  pub audit : r.audit ≡ s.audit
  pub deny : r.deny ≡ s.deny
  pub pattern : SameIfAny r.pattern s.pattern

-- profiles that are equal but for where patterns lie
pub record SameProfile (p q : Profile) : Type 0 where
  pub at : p.at ≡ q.at
  pub name : p.name ≡ q.name
  pub parent : p.parent ≡ q.parent
  pub attachments : SamePatterns p.attachments q.attachments
  pub complain : p.complain ≡ q.complain
  pub audit : p.audit ≡ q.audit
  pub files : AllZip SameRule p.files q.files
  pub caps : p.caps ≡ q.caps
  pub nets : p.nets ≡ q.nets
  pub changes : AllZip SameChange p.changes q.changes

-- policies that are equal but for where patterns lie
pub record SamePolicy (p q : Policy) : Type 0 where
  pub profiles : AllZip SameProfile p.profiles q.profiles
  pub passed_over : p.passed_over ≡ q.passed_over
