use Rattle.std.proofs.Common.{◌+◌, [], length, ap, ◌∙◌, subst, arith}
use Rattle.aa_auto.specs.Nodes.{pointed}
use Rattle.aa_auto.specs.Tables.{HasPlaces}
use Rattle.aa_representatives.proofs.Making.{built_from}
use Rattle.aa_representatives.proofs.automata.of_none.Goals as goal

pub of-requires-clause-patterns : goal.of-requires-clause-patterns
of-requires-clause-patterns c = omega (arith, ap length (c.as_slice.ensures.value ∙ c.new-pointers.ensures.items))

pub returns-clause-built : goal.returns-clause-built
returns-clause-built c =
    built_from c.of.result (pointed c.as_slice.result.now) [] (ap pointed (c.as_slice.ensures.value ∙ c.new-pointers.ensures.items))
    c.of.ensures.automaton c.of.ensures.bytes

pub returns-clause-too_many : goal.returns-clause-too_many
returns-clause-too_many c = λ e. subst (λ ps. HasPlaces ps (c.args.limit + 1)) (ap pointed (c.as_slice.ensures.value ∙ c.new-pointers.ensures.items))
    (c.of.ensures.too_many e)
