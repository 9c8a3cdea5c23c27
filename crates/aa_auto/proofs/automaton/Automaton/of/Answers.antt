use Rattle.std.proofs.Common.{subst, ◌+◌, IfOk}
use Rattle.aa_auto.specs.Tables.{IsAutomaton, HasPlaces}
use Rattle.aa_pattern.proofs.PlaceLaws.{decide_next}
use Rattle.aa_auto.proofs.LawLemmas.{same_bytes}
use Rattle.aa_auto.specs.Nodes.{pointed}
use Rattle.aa_auto.proofs.automaton.Automaton.of.Goals as goal

pub returns-in_err-net-clause-places_stay : goal.returns-in_err-net-clause-places_stay
returns-in_err-net-clause-places_stay c = decide_next (pointed c.args.patterns.now)

pub returns-in_err-net-clause-bytes_lead_alike : goal.returns-in_err-net-clause-bytes_lead_alike
returns-in_err-net-clause-bytes_lead_alike c = same_bytes (pointed c.args.patterns.now)

pub returns-clause-automaton : goal.returns-clause-automaton
returns-clause-automaton c = subst (λ ps. IfOk c.of_net.result (IsAutomaton ps)) c.in_ok-net.ensures.patterns c.of_net.ensures.automaton

pub returns-clause-too_many : goal.returns-clause-too_many
returns-clause-too_many c = λ e. subst (λ ps. HasPlaces ps (c.args.limit + 1)) c.in_ok-net.ensures.patterns (c.of_net.ensures.too_many e)

pub returns-clause-places_stay : goal.returns-clause-places_stay
returns-clause-places_stay c = decide_next (pointed c.args.patterns.now)

pub returns-clause-bytes_lead_alike : goal.returns-clause-bytes_lead_alike
returns-clause-bytes_lead_alike c = same_bytes (pointed c.args.patterns.now)
