use Rattle.std.proofs.Common.{List, take, drop}
use Rattle.aa_base.specs.declared.fault.PolicyFault.{PolicyFault}
use Rattle.aa_model.specs.declared.policy.Profile.{Profile}
use Rattle.aa_policy.specs.Expansion.{IsFirstRefused}
use Rattle.aa_policy.specs.Keeping.{KeepsProfiles}
use Rattle.aa_policy.specs.Bodies.{tree_data}
use Rattle.aa_policy.specs.Spelling.{MeansProfiles, paths_of}
use Rattle.aa_policy.proofs.expansion.profiles.Given as goal

abbrev pub invariant-loop-one : goal.invariant-loop-one
invariant-loop-one l = record {
  profiles : (ps : List Profile) × MeansProfiles l.vars (tree_data (take l.one-index l.tree)) ps × KeepsProfiles ps l.found;
  left : (e : PolicyFault) → IsFirstRefused l.vars (paths_of (tree_data (drop l.one-index l.tree))) e → IsFirstRefused l.vars (paths_of (tree_data l.tree)) e;
}
