use Rattle.aa_who.proofs.Enforcing.{there_are_enforcing, rules_enforced}
use Rattle.aa_who.proofs.Clearing.{counts_enforced}
use Rattle.aa_who.proofs.laws.who_asks_as_enforced.Goals as goal

pub returns : goal.returns
returns c = record { there = there_are_enforcing; rules = rules_enforced; counts = counts_enforced }
