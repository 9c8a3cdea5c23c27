use Rattle.std.proofs.lemmas.Grind.{common_steps}
use Rattle.std.proofs.Common.{ℕ, List, ◌≡◌, Contains, Vec, Some, IfSome, ◌++◌, sym, subst, arith, rules}
use Rattle.std.specs.declared.alloc.Global.{Global}
use Rattle.std.proofs.lemmas.Result.{err_from_is_err_and}
use Rattle.aa_files.specs.Texts.{texts}
use Rattle.aa_files.specs.Files.{listed}
use Rattle.aa_files.specs.Files.Lying.{Folder}
use Rattle.aa_files.specs.RootFaults.{IsFaultOf, looked_paths, IsLookedFor, IsBeyondWith}
use Rattle.aa_files.specs.Roots.{wanted_path}
use Rattle.std.specs.List.{slice_get}
use Rattle.aa_files.proofs.Faulted.{handed_on}
use Rattle.aa_files.proofs.Rooted.{folder_fault}
use Rattle.aa_files.proofs.roots.push_folder.Goals as goal

pub returns-in_err-push_file-clause-fault : goal.returns-in_err-push_file-clause-fault
returns-in_err-push_file-clause-fault g c few =
    let files = g.T.Tree.files c.args.tree.now in
    let taken = g.T.Tree.taken c.args.tree.now in
    let base = c.args.base.now in
    let folder = c.args.folder.now in
    let before = texts c.args.roots.now.paths.items in
    let now = texts c.loop-name.roots.paths.items in
    let names = c.deref-name-items.result.now in
    let name = c.name-item.result in
    let p = err_from_is_err_and c.from_residual-in_err-push_file.result c.from_residual-in_err-push_file.ensures.1 in
    let lies : IfSome files (λ f. f folder ≡ Some (Folder (texts names))) = subst
    (λ (vs : List (Vec ℕ Global)). IfSome files (λ f. f folder ≡ Some (Folder (texts vs))))
    (sym c.deref-name-items.ensures.value) c.in-Ok.ensures.listed in
    handed_on c.from_residual-in_err-push_file.result _ _ (IsFaultOf (IsLookedFor files (λ f. listed (f folder)) base folder) (IsBeyondWith files taken (λ f. listed (f folder)) base folder before)) p.1 p.2
    (folder_fault files taken base folder before now names c.loop-name.name-index name c.loop-name-test.true (sym c.name-item.is) lies c.loop-name.invariant.paths _
    (subst (λ (n : List ℕ). IsFaultOf (Contains (looked_paths base n))
    (λ q. IfSome taken (λ t. slice_get (now ++ wanted_path t base folder n) 4096 ≡ Some q)) c.in_err-push_file.field-0.0) c.as_slice.ensures.value
    (c.in_err-push_file.ensures.fault (c.loop-name.invariant.few few))))

pub loop-name-preserved : goal.loop-name-preserved
loop-name-preserved g c = grind (arith, common_steps)

pub returns-in-Err-clause-fault : goal.returns-in-Err-clause-fault
returns-in-Err-clause-fault g c = search rules

pub returns-clause-warnings : goal.returns-clause-warnings
returns-clause-warnings g c = grind (arith, common_steps)

pub returns-clause-paths : goal.returns-clause-paths
returns-clause-paths g c = grind (arith, common_steps)
