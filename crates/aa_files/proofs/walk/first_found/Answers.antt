use Rattle.std.proofs.Common.{◌≡◌, ℕ, ◌<◌, List, [], ◌∷◌, length, take, get_or, Err, Vec, sym, ap, subst, ◌∙◌, arith, rules}
use Rattle.std.proofs.lemmas.List.{take-map, map-id, map-append, length-map, get_or-map}
use Rattle.std.proofs.lemmas.Iterator.Consumers.{YieldsList-turn, YieldsList-end, YieldsList-so_far}
use Rattle.std.proofs.lemmas.Iterator.Adapters.{YieldsList-from_vec}
use Rattle.std.specs.declared.alloc.Global.{Global}
use Rattle.aa_files.specs.Texts.{texts}
use Rattle.aa_base.specs.declared.unread.Unread.{Unread}
use Rattle.aa_base.specs.declared.unread.Unread.TheVariants.{NotFound}
use Rattle.aa_files.specs.FilesData.{IsRead}
use Rattle.aa_files.specs.Walks.{NothingAt}
use Rattle.aa_files.specs.declared.unit.UnitFault.{UnitFault}
use Rattle.aa_files.specs.UnitFaults.{IsLookFault}
use Rattle.aa_files.proofs.Faulted.{look_fault}
use Rattle.aa_files.proofs.Taken.{nothing_more, nothing_among, lies_first}
use Rattle.aa_files.proofs.walk.first_found.Goals as goal

pub loop-path-init : goal.loop-path-init
loop-path-init g c = nothing_among (g.T.Tree.files c.args.tree.now)

pub loop-path-preserved : goal.loop-path-preserved
loop-path-preserved g c =
    let files = g.T.Tree.files c.args.tree.now in
    let is : c.what_lies_at.result ≡ Err NotFound = c.in-Err.is ∙ ap (λ (w : Unread). Err w) c.in-NotFound.is in
    let said : IsRead files c.in-Some.path.items c.what_lies_at.result = subst (λ (t : List ℕ). IsRead files t c.what_lies_at.result) c.as_slice.ensures.value c.what_lies_at.ensures in
    subst (λ (ps : List (List ℕ)). NothingAt files ps) (sym (map-append (λ (v : Vec ℕ Global). v.items) c.loop-path.yielded (c.in-Some.path ∷ [])))
    (nothing_more files (texts c.loop-path.yielded) c.in-Some.path.items c.what_lies_at.result is said c.loop-path.invariant)

pub returns-in-Ok-clause-found : goal.returns-in-Ok-clause-found
returns-in-Ok-clause-found g c =
    let files = g.T.Tree.files c.args.tree.now in
    let paths = c.args.paths.items in
    let so-far = YieldsList-so_far (YieldsList-from_vec {s = c.into_iter-path-iterator.result} paths (search rules) (search rules)) c.loop-path.yielded c.loop-path.path-iterator c.loop-path.yielded_by in
    let turn = YieldsList-turn
    (YieldsList-from_vec {s = c.into_iter-path-iterator.result} paths (search rules)
    (search rules)) c.loop-path.yielded c.loop-path.path-iterator c.loop-path.yielded_by c.next.result c.next.new.self c.in-Some.path c.in-Some.is c.next.ensures.steps in
    let number = length c.loop-path.yielded in
    let before : texts c.loop-path.yielded ≡ take number (texts paths) =
    ap (λ (vs : List (Vec ℕ Global)). texts vs) (sym (map-id c.loop-path.yielded) ∙ so-far) ∙ sym (take-map (λ (v : Vec ℕ Global). v.items) number paths) in
    let within : number < length (texts paths) = omega (arith, length-map paths (λ (v : Vec ℕ Global). v.items), turn.0) in
    let at : c.in-Some.path.items ≡ get_or (texts paths) number c.in-Some.path.items =
    ap (λ (v : Vec ℕ Global). v.items) turn.1 ∙ sym (get_or-map (λ (v : Vec ℕ Global). v.items) paths number c.in-Some.path c.in-Some.path.items turn.0) in
    let said : IsRead files c.in-Some.path.items c.what_lies_at.result = subst (λ (t : List ℕ). IsRead files t c.what_lies_at.result) c.as_slice.ensures.value c.what_lies_at.ensures in
    lies_first files (texts paths) number c.in-Some.path.items c.what_lies_at.result c.in-Ok.found c.in-Ok.is said within at (subst (λ (ps : List (List ℕ)). NothingAt files ps) before c.loop-path.invariant)

pub returns-clause-found : goal.returns-clause-found
returns-clause-found g c =
    let end = YieldsList-end
    (YieldsList-from_vec {s = c.into_iter-path-iterator.result} c.args.paths.items (search rules)
    (search rules)) c.loop-path.yielded c.loop-path.path-iterator c.loop-path.yielded_by c.next.result c.next.new.self c.in-None.is c.next.ensures.steps in
    let all : c.loop-path.yielded ≡ c.args.paths.items = sym (map-id c.loop-path.yielded) ∙ end.0 in
    subst (λ (vs : List (Vec ℕ Global)). NothingAt (g.T.Tree.files c.args.tree.now) (texts vs)) all c.loop-path.invariant

pub returns-in_default : goal.returns-in_default
returns-in_default g c =
    let paths = c.args.paths.items in
    let turn = YieldsList-turn
    (YieldsList-from_vec {s = c.into_iter-path-iterator.result} paths (search rules)
    (search rules)) c.loop-path.yielded c.loop-path.path-iterator c.loop-path.yielded_by c.next.result c.next.new.self c.in-Some.path c.in-Some.is c.next.ensures.steps in
    let number = length c.loop-path.yielded in
    let within : number < length (texts paths) = omega (arith, length-map paths (λ (v : Vec ℕ Global). v.items), turn.0) in
    let at : c.in-Some.path.items ≡ get_or (texts paths) number c.in-Some.path.items =
    ap (λ (v : Vec ℕ Global). v.items) turn.1 ∙ sym (get_or-map (λ (v : Vec ℕ Global). v.items) paths number c.in-Some.path c.in-Some.path.items turn.0) in
    record { found = tt; fault = subst (λ (e : UnitFault). IsLookFault (texts paths) e) (sym c.fault_at.ensures) (look_fault (texts paths) c.in-Some.path c.in-Err.why (number, within, sym at) c.in_default.not-NotFound) }
