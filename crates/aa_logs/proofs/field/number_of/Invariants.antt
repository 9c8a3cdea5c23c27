use Rattle.std.proofs.Common.{◌≡◌, drop}
use Rattle.aa_logs.specs.Fields.{number_from, number_in}
use Rattle.aa_logs.proofs.field.number_of.Given as goal

abbrev pub invariant-loop-b : goal.invariant-loop-b
invariant-loop-b l = number_from l.number (drop l.b-index l.text) ≡ number_in l.text
