use Rattle.std.proofs.Common.{arith}
use Rattle.std.proofs.lemmas.Grind.{common_steps}
use Rattle.aa_pattern.proofs.PlaceLaws.{decide_next}
use Rattle.aa_auto.proofs.LawLemmas.{same_bytes}
use Rattle.aa_auto.proofs.automaton.Automaton.build.Goals as goal

pub returns-in_err-push-clause-places_stay : goal.returns-in_err-push-clause-places_stay
returns-in_err-push-clause-places_stay c = decide_next c.args.patterns.now

pub returns-in_err-push-clause-bytes_lead_alike : goal.returns-in_err-push-clause-bytes_lead_alike
returns-in_err-push-clause-bytes_lead_alike c = same_bytes c.args.patterns.now

pub returns-clause-places_stay : goal.returns-clause-places_stay
returns-clause-places_stay c = decide_next c.args.patterns.now

pub returns-clause-bytes_lead_alike : goal.returns-clause-bytes_lead_alike
returns-clause-bytes_lead_alike c = same_bytes c.args.patterns.now

pub loop-pattern-preserved : goal.loop-pattern-preserved
loop-pattern-preserved c = grind (arith, common_steps)

pub of-requires-clause-patterns : goal.of-requires-clause-patterns
of-requires-clause-patterns c = grind (arith, common_steps)

pub returns-clause-automaton : goal.returns-clause-automaton
returns-clause-automaton c = grind (arith, common_steps)

pub returns-clause-too_many : goal.returns-clause-too_many
returns-clause-too_many c = grind (arith, common_steps)
