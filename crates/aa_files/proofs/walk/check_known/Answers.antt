use Rattle.std.proofs.Common.{◌≡◌, ℕ, List, length, refl, Option, Some, option_map, IfSome, Contains, Vec, true, false, sym, ap, subst, ◌∙◌}
use Rattle.std.specs.List.{list_any, slice_get}
use Rattle.std.proofs.lemmas.Option.{slice_get_read}
use Rattle.std.specs.Str.{bytes_eq}
use Rattle.std.specs.declared.alloc.Global.{Global}
use Rattle.aa_files.specs.Texts.{texts}
use Rattle.std.specs.Borrow.{Bor}
use Rattle.aa_files.specs.declared.tree.Found.{Found}
use Rattle.aa_files.specs.declared.unit.Source.{Source}
use Rattle.aa_files.specs.Walks.{Name}
use Rattle.aa_files.specs.UnitFaults.IsAmbiguous.{Elsewhere}
use Rattle.aa_files.proofs.Faulted.{here_of, said_alike}
use Rattle.aa_files.proofs.Lists.{contains_path, no_path}
use Rattle.aa_files.proofs.walk.check_known.Goals as goal

pub returns-then-has_path-clause-agrees : goal.returns-then-has_path-clause-agrees
returns-then-has_path-clause-agrees g c =
    let paths = c.args.wanted.paths.items in
    let source = c.in-Some.source.now in
    let a = c.in-Some.ensures.lookup in
    let there : slice_get c.args.unit.now.sources.items c.args.index ≡ Some source =
    subst (λ (xs : List Source). slice_get xs c.args.index ≡ Some source) c.deref.ensures.value (slice_get_read c.deref.result.now (length c.deref.result.now) c.args.index source refl a.3.0 a.1) in
    let any : list_any (λ v. bytes_eq v.items source.path.items) paths ≡ true =
    ap (λ (p : List ℕ). list_any (λ (v : Vec ℕ Global). bytes_eq v.items p) paths) (sym c.as_slice-2.ensures.value)
    ∙ ap (λ (ws : List (Vec ℕ Global)). list_any (λ (v : Vec ℕ Global). bytes_eq v.items c.as_slice-2.result.now) ws) (sym c.as_slice.ensures.value)
    ∙ sym c.has_path.ensures ∙ c.if-has_path.true in
    subst (λ (o : Option Source). IfSome o (λ s. Contains (texts paths) s.path.items)) (sym there) (contains_path paths source.path.items any)

pub returns-clause-fault : goal.returns-clause-fault
returns-clause-fault g c =
    let paths = c.args.wanted.paths.items in
    let source = c.in-Some.source.now in
    let a = c.in-Some.ensures.lookup in
    let there : slice_get c.args.unit.now.sources.items c.args.index ≡ Some source =
    subst (λ (xs : List Source). slice_get xs c.args.index ≡ Some source) c.deref.ensures.value (slice_get_read c.deref.result.now (length c.deref.result.now) c.args.index source refl a.3.0 a.1) in
    let none : list_any (λ v. bytes_eq v.items source.path.items) paths ≡ false =
    ap (λ (p : List ℕ). list_any (λ (v : Vec ℕ Global). bytes_eq v.items p) paths) (sym c.as_slice-2.ensures.value)
    ∙ ap (λ (ws : List (Vec ℕ Global)). list_any (λ (v : Vec ℕ Global). bytes_eq v.items c.as_slice-2.result.now) ws) (sym c.as_slice.ensures.value)
    ∙ sym c.has_path.ensures ∙ c.if-has_path.false in
    let files = g.T.Tree.files c.args.tree.now in
    let here = option_map (λ (f : Name × Found). f.0.items) c.in_ok-found.found in
    Elsewhere c.args.index source here c.requires there (no_path paths source.path.items none) (here_of files (texts paths) c.in_ok-found.found c.in_ok-found.ensures.found)
    (said_alike c.args.unit.now c.args.node c.args.wanted.byte (Some c.as_slice-3.result.now) (option_map (λ (p : Bor (List ℕ)). p.now) c.path_of-here.result) (Some source.path.items) here c.in_ok-fault.fault
    (ap (λ (p : List ℕ). Some p) c.as_slice-3.ensures.value) c.path_of-here.ensures c.in_ok-fault.ensures)
