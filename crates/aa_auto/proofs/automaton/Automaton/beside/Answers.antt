use Rattle.std.proofs.Common.{None, ◌+◌}
use Rattle.std.proofs.lemmas.Result.{IfOk-weaker}
use Rattle.aa_auto.proofs.ProductLemmas.{beside_built, pairs_places}
use Rattle.aa_auto.proofs.automaton.Automaton.beside.Goals as goal

pub returns-clause-automaton : goal.returns-clause-automaton
returns-clause-automaton c =
    IfOk-weaker c.product.result _ _ (λ t is ps qs a b count. beside_built c.args.count c.args.one.now c.args.other.now t c.product.ensures.sides is ps qs a b count) c.product.ensures.product

pub returns-clause-too_many : goal.returns-clause-too_many
returns-clause-too_many c = λ e ps qs a b. pairs_places None c.args.one.now c.args.other.now (c.args.limit + 1) (c.product.ensures.too_many e) ps qs a b
