use Rattle.std.proofs.Common.{ℕ, List, ◌≡◌, ◌++◌, Contains, Vec, length, Some, IfSome, arith, true, ◌∙◌}
use Rattle.std.specs.List.{slice_get}
use Rattle.std.specs.declared.alloc.Global.{Global}
use Rattle.std.proofs.lemmas.List.{length-map}
use Rattle.std.proofs.lemmas.Result.{err_from_is_err_and}
use Rattle.aa_files.specs.Texts.{texts}
use Rattle.aa_files.specs.Roots.{is_wanted, wanted_path}
use Rattle.aa_files.specs.RootFaults.{IsFaultOf, looked_paths}
use Rattle.aa_files.proofs.Faulted.{handed_on}
use Rattle.aa_files.proofs.Rooted.{faults_weaker, first_beyond, told_true}
use Rattle.aa_files.proofs.roots.push_file.Goals as goal

pub returns-in_err-push_wanted-clause-fault : goal.returns-in_err-push_wanted-clause-fault
returns-in_err-push_wanted-clause-fault g c few =
    let taken = g.T.Tree.taken c.args.tree.now in
    let before = texts c.args.roots.now.paths.items in
    let paths = looked_paths c.args.base.now c.args.name.now in
    let beyond = λ (at : List ℕ). IfSome taken (λ t. slice_get (before ++ wanted_path t c.args.base.now c.args.folder.now c.args.name.now) 4096 ≡ Some at) in
    let p = err_from_is_err_and c.from_residual-in_err-push_wanted.result c.from_residual-in_err-push_wanted.ensures.1 in
    let wanted : IfSome taken (λ t. is_wanted t c.args.base.now c.args.name.now ≡ true) = told_true taken (λ t. is_wanted t c.args.base.now c.args.name.now) c.in_ok-is_read.is_read c.in_ok-is_read.ensures.told c.if-is_read.true in
    handed_on c.from_residual-in_err-push_wanted.result _ _ (IsFaultOf (Contains paths) beyond) p.1 p.2
    (faults_weaker _ _ (Contains paths) beyond (λ q h. h)
    (λ q h. let count : length before ≡ 4096 = omega (
      arith,
      h.1,
      few,
      length-map c.args.roots.now.paths.items
          (λ (v : Vec ℕ Global). v.items),
    ) in first_beyond taken c.args.base.now c.args.folder.now c.args.name.now q before count
    (h.0 ∙ c.in_ok-path.ensures) wanted)
    _ c.in_err-push_wanted.ensures.fault)
