use Rattle.std.proofs.Common.{◌+◌, ◌++◌, List, [], ◌∷◌, Bor, length, ap, ◌∙◌, subst, arith}
use Rattle.aa_pattern.specs.declared.pattern.Pattern.{Pattern}
use Rattle.aa_auto.specs.Nodes.{pointed}
use Rattle.aa_auto.specs.Tables.{HasPlaces}
use Rattle.aa_representatives.proofs.Making.{built_from}
use Rattle.aa_representatives.proofs.automata.of_one.Goals as goal

pub of-requires-clause-patterns : goal.of-requires-clause-patterns
of-requires-clause-patterns c =
    let is = c.as_slice.ensures.value ∙ c.in_ok-push.ensures.items ∙ ap (λ (l : List (Bor Pattern)). l ++ c.args.pattern ∷ [])
    c.new-pointers.ensures.items in
    omega (arith, ap length is)

pub returns-clause-built : goal.returns-clause-built
returns-clause-built c =
    let is = c.as_slice.ensures.value ∙ c.in_ok-push.ensures.items ∙ ap (λ (l : List (Bor Pattern)). l ++ c.args.pattern ∷ [])
    c.new-pointers.ensures.items in
    built_from c.of.result (pointed c.as_slice.result.now) (c.args.pattern.now ∷ []) (ap pointed is) c.of.ensures.automaton c.of.ensures.bytes

pub returns-clause-too_many : goal.returns-clause-too_many
returns-clause-too_many c = λ e.
    let is = c.as_slice.ensures.value ∙ c.in_ok-push.ensures.items ∙ ap (λ (l : List (Bor Pattern)). l ++ c.args.pattern ∷ [])
    c.new-pointers.ensures.items in
    subst (λ ps. HasPlaces ps (c.args.limit + 1)) (ap pointed is) (c.of.ensures.too_many e)
