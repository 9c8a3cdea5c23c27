use Rattle.std.proofs.Common.{◌++◌, ◌∷◌, ◌+◌, ◌≤◌, [], length, sym, subst, arith, length-append}
use Rattle.aa_pattern.specs.Limits.{most_patterns}
use Rattle.aa_auto.specs.Tables.{HasPlaces}
use Rattle.aa_regions.specs.Automata.{ArePathRegionsWithin}
use Rattle.aa_compile.specs.Rows.{patterns_of}
use Rattle.aa_compile.proofs.HeldLemmas.{profile_there}
use Rattle.aa_representatives.proofs.Making.{err_from, filing_is}
use Rattle.aa_representatives.proofs.regions.filing_within_this.Goals as goal

pub regions_within-requires-clause-built : goal.regions_within-requires-clause-built
regions_within-requires-clause-built c =
    let there = profile_there c.args.compiled.now.profiles c.args.number c.requires.there in
    (patterns_of there.0.files, sym (c.file_patterns-count.ensures.count there.0 there.1), c.file_automaton-automaton.ensures there.0 there.1)

pub returns-clause-regions : goal.returns-clause-regions
returns-clause-regions c =
    let there = profile_there c.args.compiled.now.profiles c.args.number c.requires.there in
    subst (λ ps. ArePathRegionsWithin ps c.args.pattern.now c.in_ok-regions.regions.items)
    (sym (filing_is c.args.compiled.now.profiles c.args.number there.0 there.1))
    (c.in_ok-regions.ensures.regions (patterns_of there.0.files) (c.file_automaton-automaton.ensures there.0 there.1)
    (sym (c.file_patterns-count.ensures.count there.0 there.1)))

pub returns-clause-few_patterns : goal.returns-clause-few_patterns
returns-clause-few_patterns c =
    let there = profile_there c.args.compiled.now.profiles c.args.number c.requires.there in
    subst (λ ps. length (ps ++ c.args.pattern.now ∷ []) ≤ most_patterns) (sym (filing_is c.args.compiled.now.profiles c.args.number there.0 there.1))
    (omega (arith, length-append (patterns_of there.0.files) (c.args.pattern.now ∷ []), c.file_patterns-count.ensures.count there.0 there.1))

pub returns-clause-few_states : goal.returns-clause-few_states
returns-clause-few_states c = λ h.
    let there = profile_there c.args.compiled.now.profiles c.args.number c.requires.there in
    c.in_ok-regions.ensures.few_states (patterns_of there.0.files) (c.file_automaton-automaton.ensures there.0 there.1)
    (sym (c.file_patterns-count.ensures.count there.0 there.1))
    (subst (λ ps. HasPlaces (ps ++ c.args.pattern.now ∷ []) (c.args.limit + 1)) (filing_is c.args.compiled.now.profiles c.args.number there.0 there.1) h)

pub returns-in_err-regions-clause-many_states : goal.returns-in_err-regions-clause-many_states
returns-in_err-regions-clause-many_states c = λ e.
    let there = profile_there c.args.compiled.now.profiles c.args.number c.requires.there in
    subst (λ ps. HasPlaces (ps ++ c.args.pattern.now ∷ []) (c.args.limit + 1)) (sym (filing_is c.args.compiled.now.profiles c.args.number there.0 there.1))
    (c.in_err-regions.ensures.many_states (err_from c.from_residual.result _ c.from_residual.ensures.1 e) (patterns_of there.0.files)
    (c.file_automaton-automaton.ensures there.0 there.1))
