use Rattle.std.proofs.Common.{List, take, drop, map}
use Rattle.std.specs.Prelude.{flat_map}
use Rattle.std.specs.List.{AllZip}
use Rattle.aa_base.specs.declared.fault.PolicyFault.{PolicyFault}
use Rattle.aa_model.specs.declared.rule.FileRule.{FileRule}
use Rattle.aa_policy.specs.Expansion.{IsFirstRefused}
use Rattle.aa_policy.specs.Keeping.{KeepsRules}
use Rattle.aa_rules.specs.Reading.{rule_data}
use Rattle.aa_policy.specs.Spelling.{MeansRule, files_of, rule_paths}
use Rattle.aa_policy.proofs.expansion.file_rules.Given as goal

abbrev pub invariant-loop-rule : goal.invariant-loop-rule
invariant-loop-rule l = record {
  rules : (rs : List FileRule) × AllZip (MeansRule l.vars) (files_of (map rule_data (take l.rule-index l.rules))) rs × KeepsRules rs l.found;
  left : (e : PolicyFault) → IsFirstRefused l.vars (flat_map rule_paths (map rule_data (drop l.rule-index l.rules))) e → IsFirstRefused l.vars (flat_map rule_paths (map rule_data l.rules)) e;
}
