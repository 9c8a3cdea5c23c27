use Rattle.std.proofs.Common.{◌≡◌, ◌++◌, take, string_bytes}
use Rattle.std.specs.Prelude.{flat_map}
use Rattle.aa_engine.specs.Output.{passed_over_line}
use Rattle.aa_engine.proofs.output.push_all_passed_over.Given as goal

abbrev pub invariant-loop-rule : goal.invariant-loop-rule
invariant-loop-rule l = string_bytes l.out ≡ string_bytes l.fn.out ++ flat_map (passed_over_line l.policy.profiles) (take l.rule-index l.rule-items)
