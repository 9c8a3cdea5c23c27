-- What is found of a profile.
-- Source: own.
use Rattle.std.specs.Prelude.{◌≡◌, ◌⊎◌, ℕ, List, [], ◌++◌, Option, Some, None}
use Rattle.std.specs.List.{slice_get}
use Rattle.aa_model.specs.declared.policy.Policy.{Policy}
use Rattle.aa_model.specs.declared.policy.Profile.{Profile}
use Rattle.aa_findings.specs.declared.fault.FindingsFault.{FindingsFault}
use Rattle.aa_findings.specs.declared.finding.Finding.{Finding}
use Rattle.aa_findings.specs.declared.rows.Row.{Row}
use Rattle.aa_findings.specs.Faults.{IsFaultOf}
use Rattle.aa_findings.specs.Rows.{AreRows, HasNoRows}
use Rattle.aa_compile.specs.Attached.{numbers_below}
use Rattle.aa_findings.specs.Attached.{AddsTie, patterns_at}
use Rattle.aa_findings.specs.Gathered.{of_rules}

-- of profile n, which is p: that it ties, and then what is found of its rules by rows that stand for all files
pub record AreFindings (profiles : List Profile) (n : ℕ) (p : Profile) (found : List Finding) : Type 0 where
  pub ties : List Finding
  pub are_ties : AddsTie profiles (numbers_below p.parent 0 profiles) n [] ties
  pub rows : List Row
  pub are_rows : AreRows p.files rows
  pub are : found ≡ ties ++ of_rules rows p

-- why nothing can be found: the attachments beside the profile's, or the patterns of its rules, are too many or need more states than the limit
abbrev pub HasNoFindings : List Profile → Profile → ℕ → FindingsFault → Type 0
HasNoFindings profiles p limit e = IsFaultOf (patterns_at profiles (numbers_below p.parent 0 profiles)) limit e ⊎ HasNoRows p.files limit e

-- nothing, where there is no such profile
abbrev pub AreFindingsIn : List Profile → ℕ → Option Profile → List Finding → Type 0
AreFindingsIn profiles n None found = found ≡ []
AreFindingsIn profiles n (Some p) found = AreFindings profiles n p found

-- of the profile with that number in the first policy
abbrev pub AreFindingsBy : Option Policy → ℕ → List Finding → Type 0
AreFindingsBy None n found = found ≡ []
AreFindingsBy (Some policy) n found = AreFindingsIn policy.profiles n (slice_get policy.profiles n) found

-- where these policies are
abbrev pub AreFindingsAt : List Policy → ℕ → List Finding → Type 0
AreFindingsAt policies n found = AreFindingsBy (slice_get policies 0) n found

-- it is there, and nothing can be found
abbrev pub HasNoFindingsIn : List Profile → Option Profile → ℕ → FindingsFault → Type 0
HasNoFindingsIn profiles None limit e = ⊥
HasNoFindingsIn profiles (Some p) limit e = HasNoFindings profiles p limit e

-- so of the profile with that number in the first policy
abbrev pub HasNoFindingsBy : Option Policy → ℕ → ℕ → FindingsFault → Type 0
HasNoFindingsBy None n limit e = ⊥
HasNoFindingsBy (Some policy) n limit e = HasNoFindingsIn policy.profiles (slice_get policy.profiles n) limit e

-- where these policies are
abbrev pub HasNoFindingsAt : List Policy → ℕ → ℕ → FindingsFault → Type 0
HasNoFindingsAt policies n limit e = HasNoFindingsBy (slice_get policies 0) n limit e
