-- What is found of all profiles.
-- Source: own.
use Rattle.std.specs.Prelude.{◌≡◌, ℕ, zero, suc, List, [], ◌∷◌, ◌++◌, codes, map, Option, Some, None}
use Rattle.aa_model.specs.declared.policy.Profile.{Profile}
use Rattle.aa_compile.specs.Labels.{profile_in, first_profiles}
use Rattle.aa_findings.specs.declared.fault.FindingsFault.{FindingsFault}
use Rattle.aa_findings.specs.declared.fault.FindingsFault.TheVariants.{NoMemory, TooManyPatterns, TooManyStates}
use Rattle.aa_findings.specs.declared.finding.Finding.{Finding}
use Rattle.aa_findings.specs.Found.{AreFindingsAt, HasNoFindingsAt}
use Rattle.aa_command.specs.declared.decided.Decided.{Decided}
use Rattle.aa_lint.specs.declared.gathering.Lint.{Lint}
use Rattle.aa_lint.specs.Telling.{Telling, telling, all_told}
use Rattle.aa_command.specs.Untold.{Untelling, untelling}
use Rattle.aa_lint.specs.Untold.{untold_text}

-- what is told, and the profiles of which nothing can be found
pub record AllTold : Type 0 where
  pub told : List Telling
  pub untold : List Untelling

-- the same of what the code keeps
abbrev pub lint_data : Lint → AllTold
lint_data l = record { told = map telling l.told.items; untold = map untelling l.untold.items }

-- what is found of profile n, which is p, is added, but for what is left out
abbrev pub with_found : Decided → List (List ℕ) → ℕ → Profile → List Finding → AllTold → AllTold
with_found d except n p found was = record { told = was.told ++ all_told d except (first_profiles d.policies.now) n p found; untold = was.untold }

-- that nothing can be found of a profile is added, and why
abbrev pub with_untold : Profile → List ℕ → AllTold → AllTold
with_untold p why was = record { told = was.told; untold = was.untold ++ record { profile = p.name; text = untold_text p.name why } ∷ [] }

-- so by what stands against it; where memory ran out, nothing is told
abbrev pub AddsWhy : Profile → FindingsFault → AllTold → AllTold → Type 0
AddsWhy p NoMemory was now = ⊥
AddsWhy p TooManyPatterns was now = now ≡ with_untold p (codes "there are more than 65535 patterns") was
AddsWhy p TooManyStates was now = now ≡ with_untold p (codes "its patterns need too many states together; --states allows more") was

-- what is found of profile n, which is p, is added, or why nothing can be
pub data AddsOf (d : Decided) (limit : ℕ) (except : List (List ℕ)) (n : ℕ) (p : Profile) (was now : AllTold) : Type 0 where
  Found : (found : List Finding) → AreFindingsAt d.policies.now n found → now ≡ with_found d except n p found was → AddsOf d limit except n p was now
  Unfound : (e : FindingsFault) → HasNoFindingsAt d.policies.now n limit e → AddsWhy p e was now → AddsOf d limit except n p was now

-- so of the profile with that number, if it is there
abbrev pub AddsAt : Decided → ℕ → List (List ℕ) → ℕ → Option Profile → AllTold → AllTold → Type 0
AddsAt d limit except n None was now = now ≡ was
AddsAt d limit except n (Some p) was now = AddsOf d limit except n p was now

-- in the first policy
abbrev pub AddsLint : Decided → ℕ → List (List ℕ) → ℕ → AllTold → AllTold → Type 0
AddsLint d limit except n was now = AddsAt d limit except n (profile_in d.policies.now 0 n) was now

-- what is told of the first n profiles, in order
abbrev pub AreTold : Decided → ℕ → List (List ℕ) → ℕ → AllTold → Type 0
AreTold d limit except zero all = all ≡ record { told = []; untold = [] }
AreTold d limit except (suc n) all = (before : AllTold) × AreTold d limit except n before × AddsLint d limit except n before all
