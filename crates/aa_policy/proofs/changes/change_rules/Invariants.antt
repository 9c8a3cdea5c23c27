use Rattle.std.proofs.Common.{take, drop, map, List}
use Rattle.std.specs.Prelude.{flat_map}
use Rattle.std.specs.List.{AllZip}
use Rattle.aa_base.specs.declared.fault.PolicyFault.{PolicyFault}
use Rattle.aa_glob.specs.Variables.{Variable}
use Rattle.aa_policy.specs.Expansion.{IsFirstRefused}
use Rattle.aa_rules.specs.Reading.{rule_data}
use Rattle.aa_policy.specs.Spelling.{MeansChange, changes_of, change_paths}
use Rattle.aa_policy.proofs.changes.change_rules.Given as goal

abbrev pub invariant-loop-rule : goal.invariant-loop-rule
invariant-loop-rule l = record {
  rules : AllZip MeansChange (changes_of (map rule_data (take l.rule-index l.rules))) l.found.items;
  left : (vars : List Variable) (e : PolicyFault) → IsFirstRefused vars (flat_map change_paths (map rule_data (drop l.rule-index l.rules))) e → IsFirstRefused vars (flat_map change_paths (map rule_data l.rules)) e;
}
