use Rattle.std.proofs.Common.{◌+◌, Bor, length, sym, ap, ◌∙◌, subst, arith, rules}
use Rattle.std.proofs.lemmas.List.{length-map}
use Rattle.aa_pattern.specs.declared.pattern.Pattern.{Pattern}
use Rattle.aa_auto.specs.Nodes.{pointed}
use Rattle.aa_auto.specs.Tables.{HasPlaces}
use Rattle.aa_regions.specs.Regions.{AreTextRegions}
use Rattle.aa_regions.proofs.Collecting.{automaton_lists}
use Rattle.aa_explain.specs.Clashes.{AreOwners}
use Rattle.aa_explain.proofs.Owning.{executing_few}
use Rattle.aa_explain.proofs.Searching.{none_then, free}
use Rattle.aa_explain.proofs.search.clash_of.Goals as goal

pub of-requires-clause-patterns : goal.of-requires-clause-patterns
of-requires-clause-patterns c =
    let ps = c.in_ok-ways.ways.patterns.items in
    omega (arith, executing_few c.args.rules.now c.requires.few, length-map ps (λ (p : Bor Pattern). p.now), ap length c.in_ok-ways.ensures.patterns, ap length c.as_slice.ensures.value)

pub returns-in_err-automaton-clause-too_many : goal.returns-in_err-automaton-clause-too_many
returns-in_err-automaton-clause-too_many c = λ e.
    let ps = pointed c.as_slice.result.now in
    let many : HasPlaces ps (c.args.limit + 1) = search rules in
    subst (λ qs. HasPlaces qs (c.args.limit + 1)) (ap pointed c.as_slice.ensures.value ∙ c.in_ok-ways.ensures.patterns) many

pub text_regions_of-requires : goal.text_regions_of-requires
text_regions_of-requires c = automaton_lists (pointed c.as_slice.result.now) c.in_ok-automaton.automaton c.in_ok-automaton.ensures.automaton

pub returns-clause-none : goal.returns-clause-none
returns-clause-none c =
    let rules' = c.args.rules.now in
    let ps = pointed c.as_slice.result.now in
    let are = subst (λ qs. AreOwners rules' (length rules') (pointed qs) c.as_slice-2.result.now) (sym c.as_slice.ensures.value)
    (subst (λ os. AreOwners rules' (length rules') (pointed c.in_ok-ways.ways.patterns.items) os) (sym c.as_slice-2.ensures.value) c.in_ok-ways.ensures.owners) in
    let regions = subst (AreTextRegions ps) (sym c.as_slice-3.ensures.value) (c.in_ok-regions.ensures ps c.in_ok-automaton.ensures.automaton) in
    none_then c.in_ok-found.found c.in_ok-found.ensures.none (free rules' ps c.as_slice-2.result.now are c.as_slice-3.result.now regions)
