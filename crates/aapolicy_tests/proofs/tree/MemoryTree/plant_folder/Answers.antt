use Rattle.std.proofs.Common.{◌≡◌, ℕ, List, Vec, Some, subst, ◌∙◌}
use Rattle.std.specs.declared.alloc.Global.{Global}
use Rattle.std.specs.List.Sorted.{IsPermutation}
use Rattle.std.proofs.lemmas.List.Sorted.{IsPermutation-map}
use Rattle.std.proofs.lemmas.Result.{on_ok_weaker}
use Rattle.aa_files.specs.Texts.{texts}
use Rattle.aa_files.specs.Files.Lying.{Folder}
use Rattle.aapolicy_tests.specs.Planted.{Plants}
use Rattle.aapolicy_tests.proofs.tree.MemoryTree.plant_folder.Goals as goal

pub returns-clause-planted : goal.returns-clause-planted
returns-clause-planted c =
    let list = texts c.in_ok-names.names.list.items in
    let path : c.in_ok-path.path.items ≡ c.args.path.now = c.in_ok-path.ensures.items ∙ c.as_bytes.ensures.value in
    let same = subst (λ (ns : List (List ℕ)). IsPermutation ns list) c.in_ok-copies_of.ensures
    (IsPermutation-map (λ (v : Vec ℕ Global). v.items) c.in_ok-copies_of.field-0.items c.in_ok-names.names.list.items c.in_ok-names.ensures) in
    on_ok_weaker c.plant.result
    (λ h. record { list = list; same = same; planted = subst (λ (p : List ℕ). Plants (p, Some (Folder list)) c.args.self.now c.plant.new.self) path h })
    c.plant.ensures.planted
