use Rattle.std.proofs.Common.{◌++◌, ◌∷◌, ◌+◌, ◌≤◌, [], length, sym, subst, arith}
use Rattle.aa_pattern.specs.Limits.{most_patterns}
use Rattle.aa_auto.specs.Tables.{HasPlaces}
use Rattle.aa_regions.specs.Automata.{ArePathRegionsWithin}
use Rattle.aa_representatives.proofs.Making.{err_from, no_filing}
use Rattle.aa_representatives.proofs.regions.filing_within.Goals as goal

pub filing_within_this-requires-clause-there : goal.filing_within_this-requires-clause-there
filing_within_this-requires-clause-there c = c.has_profile.ensures.0 c.if-has_profile.true

pub returns-clause-regions : goal.returns-clause-regions
returns-clause-regions c =
    let none = no_filing c.args.compiled.now.profiles c.args.number c.has_profile.result c.has_profile.ensures c.if-has_profile.false in
    subst (λ ps. ArePathRegionsWithin ps c.args.pattern.now c.in_ok-regions.regions.items) (sym none) c.in_ok-regions.ensures.regions

pub returns-clause-few_patterns : goal.returns-clause-few_patterns
returns-clause-few_patterns c =
    let none = no_filing c.args.compiled.now.profiles c.args.number c.has_profile.result c.has_profile.ensures c.if-has_profile.false in
    subst (λ ps. length (ps ++ c.args.pattern.now ∷ []) ≤ most_patterns) (sym none) (omega arith)

pub returns-clause-few_states : goal.returns-clause-few_states
returns-clause-few_states c = λ h.
    let none = no_filing c.args.compiled.now.profiles c.args.number c.has_profile.result c.has_profile.ensures c.if-has_profile.false in
    c.in_ok-regions.ensures.few_states (subst (λ ps. HasPlaces (ps ++ c.args.pattern.now ∷ []) (c.args.limit + 1)) none h)

pub returns-in_err-regions-clause-many_states : goal.returns-in_err-regions-clause-many_states
returns-in_err-regions-clause-many_states c = λ e.
    let none = no_filing c.args.compiled.now.profiles c.args.number c.has_profile.result c.has_profile.ensures c.if-has_profile.false in
    subst (λ ps. HasPlaces (ps ++ c.args.pattern.now ∷ []) (c.args.limit + 1)) (sym none)
    (c.in_err-regions.ensures.many_states (err_from c.from_residual.result _ c.from_residual.ensures.1 e))
