use Rattle.std.proofs.Common.{◌+◌, ◌<◌, ◌≤◌, ◌++◌, ◌∷◌, [], IfOk, length, refl, sym, subst}
use Rattle.std.proofs.lemmas.Option.{slice_get_read}
use Rattle.aa_pattern.specs.Limits.{most_patterns}
use Rattle.aa_auto.specs.Tables.{HasPlaces}
use Rattle.aa_regions.specs.Automata.{ArePathRegionsWithin}
use Rattle.aa_representatives.proofs.Making.{filing_found, filing_lost}
use Rattle.aa_representatives.proofs.regions.filing_regions_within.Goals as goal

pub returns-in_default-get-clause-few_states : goal.returns-in_default-get-clause-few_states
returns-in_default-get-clause-few_states c = λ h.
    let none = filing_lost c.args.policies.now c.args.label c.in-Confined.policy c.in-Confined.number c.in-Confined.is c.in_default-get.ensures.lookup.3 in
    c.in_ok-regions_of_one-2.ensures.few_states (subst (λ ps. HasPlaces (ps ++ c.args.pattern.now ∷ []) (c.args.limit + 1)) none h)

pub returns-clause-regions : goal.returns-clause-regions
returns-clause-regions c =
    let found = c.in-Some.ensures.lookup in
    let there = slice_get_read c.args.policies.now (length c.args.policies.now) c.in-Confined.policy c.in-Some.compiled.now refl found.3.0 found.1 in
    let is = filing_found c.args.policies.now c.args.label c.in-Confined.policy c.in-Confined.number c.in-Some.compiled.now c.in-Confined.is there in
    subst (λ ps. IfOk c.filing_within.result (λ rs. ArePathRegionsWithin ps c.args.pattern.now rs.items)) (sym is) c.filing_within.ensures.regions

pub returns-clause-many_patterns : goal.returns-clause-many_patterns
returns-clause-many_patterns c = λ e.
    let found = c.in-Some.ensures.lookup in
    let there = slice_get_read c.args.policies.now (length c.args.policies.now) c.in-Confined.policy c.in-Some.compiled.now refl found.3.0 found.1 in
    let is = filing_found c.args.policies.now c.args.label c.in-Confined.policy c.in-Confined.number c.in-Some.compiled.now c.in-Confined.is there in
    subst (λ ps. most_patterns < length (ps ++ c.args.pattern.now ∷ [])) (sym is) (c.filing_within.ensures.many_patterns e)

pub returns-clause-few_patterns : goal.returns-clause-few_patterns
returns-clause-few_patterns c =
    let found = c.in-Some.ensures.lookup in
    let there = slice_get_read c.args.policies.now (length c.args.policies.now) c.in-Confined.policy c.in-Some.compiled.now refl found.3.0 found.1 in
    let is = filing_found c.args.policies.now c.args.label c.in-Confined.policy c.in-Confined.number c.in-Some.compiled.now c.in-Confined.is there in
    subst (λ ps. IfOk c.filing_within.result (λ rs. length (ps ++ c.args.pattern.now ∷ []) ≤ most_patterns)) (sym is) c.filing_within.ensures.few_patterns

pub returns-clause-many_states : goal.returns-clause-many_states
returns-clause-many_states c = λ e.
    let found = c.in-Some.ensures.lookup in
    let there = slice_get_read c.args.policies.now (length c.args.policies.now) c.in-Confined.policy c.in-Some.compiled.now refl found.3.0 found.1 in
    let is = filing_found c.args.policies.now c.args.label c.in-Confined.policy c.in-Confined.number c.in-Some.compiled.now c.in-Confined.is there in
    subst (λ ps. HasPlaces (ps ++ c.args.pattern.now ∷ []) (c.args.limit + 1)) (sym is) (c.filing_within.ensures.many_states e)

pub returns-clause-few_states : goal.returns-clause-few_states
returns-clause-few_states c =
    let found = c.in-Some.ensures.lookup in
    let there = slice_get_read c.args.policies.now (length c.args.policies.now) c.in-Confined.policy c.in-Some.compiled.now refl found.3.0 found.1 in
    let is = filing_found c.args.policies.now c.args.label c.in-Confined.policy c.in-Confined.number c.in-Some.compiled.now c.in-Confined.is there in
    subst (λ ps. IfOk c.filing_within.result (λ rs. HasPlaces (ps ++ c.args.pattern.now ∷ []) (c.args.limit + 1) → ⊥)) (sym is)
    c.filing_within.ensures.few_states
