use Rattle.std.proofs.Common.{ℕ, List, sym, subst}
use Rattle.std.proofs.lemmas.Result.{err_from_is_err_and}
use Rattle.aa_files.specs.Texts.{texts}
use Rattle.aa_files.specs.Roots.{folder_of}
use Rattle.aa_files.specs.RootFaults.{IsArgumentFault, IsRootFault}
use Rattle.aa_files.proofs.Faulted.{handed_on}
use Rattle.aa_files.proofs.Rooted.{root_fault}
use Rattle.aa_files.proofs.roots.roots_of.Goals as goal

pub returns-in_err-push_argument-clause-fault : goal.returns-in_err-push_argument-clause-fault
returns-in_err-push_argument-clause-fault g c =
    let files = g.T.Tree.files c.args.tree.now in
    let taken = g.T.Tree.taken c.args.tree.now in
    let base = c.args.base.now in
    let now = texts c.loop-argument.roots.paths.items in
    let p = err_from_is_err_and c.from_residual.result c.from_residual.ensures.1 in
    handed_on c.from_residual.result _ _ (IsRootFault files taken base (texts c.args.arguments.now)) p.1 p.2
    (root_fault files taken base now c.args.arguments.now c.loop-argument.argument-index c.argument-item.result c.loop-argument-test.true (sym c.argument-item.is) c.loop-argument.invariant.paths _
    (subst (λ (a : List ℕ). IsArgumentFault files taken (λ a f. folder_of f a) base a now c.in_err-push_argument.field-0.0) c.as_slice.ensures.value (c.in_err-push_argument.ensures.fault c.loop-argument.invariant.few)))
