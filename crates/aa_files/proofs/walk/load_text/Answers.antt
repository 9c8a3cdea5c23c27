use Rattle.std.proofs.Common.{◌<◌, ℕ, List, length, subst, arith}
use Rattle.std.specs.Prelude.{◌≢◌}
use Rattle.std.proofs.lemmas.Result.{err_from_is_err_and}
use Rattle.aa_files.specs.declared.unit.UnitFault.TheVariants.{NoMemory}
use Rattle.aa_files.specs.UnitFaults.{IsWalkFault}
use Rattle.aa_files.proofs.Faulted.{handed_on}
use Rattle.aa_files.specs.Texts.{slices}
use Rattle.aa_files.proofs.Walked.{walked_all}
use Rattle.aa_files.proofs.walk.load_text.Goals as goal

pub returns-in_err-walk_text-clause-fault : goal.returns-in_err-walk_text-clause-fault
returns-in_err-walk_text-clause-fault g c =
    let files = g.T.Tree.files c.args.tree.now in
    let folders = slices c.args.folders.now in
    let inv = c.loop-number.invariant in
    let u = c.loop-number.unit in
    let e = c.in_err-walk_text.field-0.0 in
    let p = err_from_is_err_and c.from_residual.result c.from_residual.ensures.1 in
    handed_on c.from_residual.result _ _ (λ f. f ≢ NoMemory → IsWalkFault files folders c.args.path.items c.args.text.items f) p.1 p.2
    (λ other. subst (λ (t : List ℕ). IsWalkFault files folders c.args.path.items t e) inv.text_is
    (subst (λ (q : List ℕ). IsWalkFault files folders q u.text.items e) inv.path_is (c.in_err-walk_text.ensures.fault other)))

pub returns-clause-unit : goal.returns-clause-unit
returns-clause-unit g c =
    let inv = c.loop-number.invariant in
    let u = c.loop-number.unit in
    let past : length u.sources.items < c.loop-number.number = omega (arith, inv.walk.few, c.loop-number-test.false) in
    record {
      path_is = inv.path_is;
      text_is = inv.text_is;
      walk = inv.walk;
      closed = walked_all (g.T.Tree.files c.args.tree.now) (slices c.args.folders.now) c.args.path.items c.args.text.items c.loop-number.number u past inv;
      sorted = c.in_ok-unit.ensures.sorted;
      order = c.in_ok-unit.ensures.order;
    }
