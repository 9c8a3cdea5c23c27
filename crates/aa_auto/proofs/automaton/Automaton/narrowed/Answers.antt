use Rattle.std.proofs.Common.{[], ◌∷◌, ◌+◌}
use Rattle.std.proofs.lemmas.Result.{IfOk-weaker}
use Rattle.aa_auto.proofs.ProductLemmas.{narrowed_is, pairs_places}
use Rattle.aa_auto.proofs.automaton.Automaton.narrowed.Goals as goal

pub returns-clause-narrowed : goal.returns-clause-narrowed
returns-clause-narrowed c =
    IfOk-weaker c.product.result _ _ (λ t is ps q a b count. narrowed_is c.dead_row.result c.args.count c.args.one.now c.args.last.now t c.product.ensures.sides is ps q a b count)
    c.product.ensures.product

pub returns-clause-too_many : goal.returns-clause-too_many
returns-clause-too_many c = λ e ps q a b. pairs_places c.dead_row.result c.args.one.now c.args.last.now (c.args.limit + 1) (c.product.ensures.too_many e) ps (q ∷ []) a b
