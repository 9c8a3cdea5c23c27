use Rattle.std.proofs.Common.{◌≡◌, ℕ, List, Err, IfErr, subst, ◌∙◌}
use Rattle.std.specs.Prelude.{◌≢◌}
use Rattle.aa_files.specs.Texts.{slices}
use Rattle.aa_files.specs.FilesData.{IsMain, IsMainText}
use Rattle.aa_files.specs.declared.unit.UnitFault.TheVariants.{NoMemory}
use Rattle.aa_files.specs.UnitFaults.{IsLoadFault}
use Rattle.aa_files.specs.UnitFaults.IsLoadFault.{OfMain}
use Rattle.aa_files.proofs.Faulted.{load_fault}
use Rattle.aa_files.proofs.walk.load.Goals as goal

pub returns-in-Ok-clause-fault : goal.returns-in-Ok-clause-fault
returns-in-Ok-clause-fault g c =
    let files = g.T.Tree.files c.args.tree.now in
    let input = g.T.Tree.input c.args.tree.now in
    let folders = slices c.args.folders.now in
    let path = c.in_ok-path.path.items in
    let main : IsMainText files input path c.in-Ok.text.items = subst (λ (p : List ℕ). IsMainText files input p c.in-Ok.text.items) c.as_slice.ensures.value c.in-Ok.ensures in
    subst (λ (p : List ℕ). IfErr c.load_text.result (λ e. e ≢ NoMemory → IsLoadFault files input folders p e)) c.in_ok-path.ensures.items
    (load_fault files input folders path c.in-Ok.text.items c.load_text.result main c.load_text.ensures.fault)

pub returns-in-Err-clause-fault : goal.returns-in-Err-clause-fault
returns-in-Err-clause-fault g c =
    let files = g.T.Tree.files c.args.tree.now in
    let input = g.T.Tree.input c.args.tree.now in
    let same : c.as_slice.result.now ≡ c.args.path.now = c.as_slice.ensures.value ∙ c.in_ok-path.ensures.items in
    λ other. OfMain c.in_ok-path.path c.in-Err.why c.in_ok-path.ensures.items c.fault_at.ensures (subst (λ (p : List ℕ). IsMain files input p (Err c.in-Err.why)) same c.in-Err.ensures)
