use Rattle.std.proofs.Common.{◌∷◌, ◌+◌, [], arith, length-append}
use Rattle.aa_auto.proofs.FewLemmas.{places_left}
use Rattle.aa_representatives.specs.Alike.{filing}
use Rattle.aa_representatives.proofs.Making.{err_from}
use Rattle.aa_representatives.proofs.regions.filing_regions_and_within.Goals as goal

pub regions_within-requires-clause-built : goal.regions_within-requires-clause-built
regions_within-requires-clause-built c =
    (c.args.more.now ∷ filing c.args.policies.now c.args.label, omega (arith, c.filing_count-count.ensures), c.in_ok-automaton.ensures.built)

pub returns-clause-regions : goal.returns-clause-regions
returns-clause-regions c =
    c.in_ok-regions.ensures.regions (c.args.more.now ∷ filing c.args.policies.now c.args.label) c.in_ok-automaton.ensures.built
    (omega (arith, c.filing_count-count.ensures))

pub returns-clause-few_patterns : goal.returns-clause-few_patterns
returns-clause-few_patterns c =
    omega (arith, length-append (filing c.args.policies.now c.args.label) (c.args.pattern.now ∷ []), c.filing_count-count.ensures)

pub returns-clause-few_states : goal.returns-clause-few_states
returns-clause-few_states c =
    c.in_ok-regions.ensures.few_states (c.args.more.now ∷ filing c.args.policies.now c.args.label) c.in_ok-automaton.ensures.built
    (omega (arith, c.filing_count-count.ensures))

pub returns-in_err-automaton-clause-many_states : goal.returns-in_err-automaton-clause-many_states
returns-in_err-automaton-clause-many_states c = λ e.
    places_left (c.args.more.now ∷ filing c.args.policies.now c.args.label) (c.args.pattern.now ∷ []) (c.args.limit + 1)
    (c.in_err-automaton.ensures.too_many (err_from c.from_residual.result _ c.from_residual.ensures.1 e))

pub returns-in_err-regions-clause-many_states : goal.returns-in_err-regions-clause-many_states
returns-in_err-regions-clause-many_states c = λ e.
    c.in_err-regions.ensures.many_states (err_from c.from_residual-in_err-regions.result _ c.from_residual-in_err-regions.ensures.1 e)
    (c.args.more.now ∷ filing c.args.policies.now c.args.label) c.in_ok-automaton.ensures.built
