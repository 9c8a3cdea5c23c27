use Rattle.std.proofs.Common.{◌≤◌, ℕ, List, Vec, length, ap, ◌∙◌, arith}
use Rattle.std.specs.declared.alloc.Global.{Global}
use Rattle.std.proofs.lemmas.List.{take_all}
use Rattle.aa_files.specs.Texts.{texts}
use Rattle.aapolicy_tests.proofs.Orders.{order_kept}
use Rattle.aapolicy_tests.proofs.names.Names.copied.Goals as goal

pub returns-clause-ordered : goal.returns-clause-ordered
returns-clause-ordered c =
    let names = c.args.self.now.list.items in
    let whole : length names ≤ c.loop-name.name-index = omega (arith, c.loop-name-test.false) in
    order_kept names c.loop-name.copy.items (c.loop-name.invariant ∙ ap (λ (ns : List (Vec ℕ Global)). texts ns) (take_all c.loop-name.name-index names whole)) c.args.self.now.ordered
