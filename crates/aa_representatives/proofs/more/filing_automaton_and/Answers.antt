use Rattle.std.proofs.Common.{◌+◌, ◌<◌, ◌∷◌, IfOk, length, refl, sym, subst}
use Rattle.std.proofs.lemmas.Option.{slice_get_read}
use Rattle.aa_pattern.specs.Limits.{most_patterns}
use Rattle.aa_auto.specs.Pairs.{IsBuilt}
use Rattle.aa_auto.specs.Tables.{HasPlaces}
use Rattle.aa_representatives.proofs.Making.{filing_found}
use Rattle.aa_representatives.proofs.more.filing_automaton_and.Goals as goal

pub filing_in_and-requires-clause-few : goal.filing_in_and-requires-clause-few
filing_in_and-requires-clause-few c =
    let found = c.in-Some.ensures.lookup in
    let there = slice_get_read c.args.policies.now (length c.args.policies.now) c.in-Confined.policy c.in-Some.compiled.now refl found.3.0 found.1 in
    let is = filing_found c.args.policies.now c.args.label c.in-Confined.policy c.in-Confined.number c.in-Some.compiled.now c.in-Confined.is there in
    subst (λ ps. length ps < most_patterns) is c.requires.few

pub returns-clause-built : goal.returns-clause-built
returns-clause-built c =
    let found = c.in-Some.ensures.lookup in
    let there = slice_get_read c.args.policies.now (length c.args.policies.now) c.in-Confined.policy c.in-Some.compiled.now refl found.3.0 found.1 in
    let is = filing_found c.args.policies.now c.args.label c.in-Confined.policy c.in-Confined.number c.in-Some.compiled.now c.in-Confined.is there in
    subst (λ ps. IfOk c.filing_in_and.result (IsBuilt (c.args.more.now ∷ ps))) (sym is) c.filing_in_and.ensures.built

pub returns-clause-too_many : goal.returns-clause-too_many
returns-clause-too_many c = λ e.
    let found = c.in-Some.ensures.lookup in
    let there = slice_get_read c.args.policies.now (length c.args.policies.now) c.in-Confined.policy c.in-Some.compiled.now refl found.3.0 found.1 in
    let is = filing_found c.args.policies.now c.args.label c.in-Confined.policy c.in-Confined.number c.in-Some.compiled.now c.in-Confined.is there in
    subst (λ ps. HasPlaces (c.args.more.now ∷ ps) (c.args.limit + 1)) (sym is) (c.filing_in_and.ensures.too_many e)
