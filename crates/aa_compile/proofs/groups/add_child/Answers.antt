use Rattle.std.proofs.Common.{ℕ, List, [], ◌∷◌, ◌++◌, set, ap, sym, ◌∙◌}
use Rattle.std.specs.Global.{Global}
use Rattle.std.specs.declared.vec.Vec.{Vec}
use Rattle.std.proofs.lemmas.List.{map-set, get_or-map}
use Rattle.aa_compile.specs.Groups.{lists}
use Rattle.aa_compile.proofs.groups.add_child.Goals as goal

pub returns : goal.returns
returns c =
    let gs = c.args.groups.now.items in
    let items = λ (v : Vec ℕ Global). v.items in
    let was = c.index_mut.result.now in
    map-set items gs c.args.parent c.push.new.self
    ∙ ap (set (lists gs) c.args.parent)
    (c.in_ok-push.ensures.items ∙ ap (λ (l : List ℕ). l ++ c.args.number ∷ []) (ap items c.index_mut.ensures.value ∙ sym (get_or-map items gs c.args.parent was [] c.requires)))
