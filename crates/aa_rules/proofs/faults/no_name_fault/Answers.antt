use Rattle.std.proofs.Common.{◌+◌, ◌∙◌}
use Rattle.aa_rules.specs.Reading.{rest_of}
use Rattle.aa_rules.proofs.Places.{behind_here}
use Rattle.aa_rules.proofs.faults.no_name_fault.Goals as goal

pub returns-clause-fails : goal.returns-clause-fails
returns-clause-fails c = record {
  rest = rest_of c.args.words.now (c.args.at + 1);
  fails = (behind_here c.args.words.now c.args.at, c.fault-2.ensures.kind ∙ c.naming_fault.ensures.kind);
  at_is = c.fault-2.ensures.spot;
}
