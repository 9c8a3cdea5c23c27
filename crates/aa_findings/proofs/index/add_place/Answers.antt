use Rattle.std.proofs.Common.{ℕ, List, [], ◌∷◌, ◌++◌, set, ap, sym, ◌∙◌}
use Rattle.std.specs.Global.{Global}
use Rattle.std.specs.declared.vec.Vec.{Vec}
use Rattle.std.proofs.lemmas.List.{map-set, get_or-map}
use Rattle.aa_findings.specs.Places.{lists}
use Rattle.aa_findings.proofs.index.add_place.Goals as goal

pub returns : goal.returns
returns c =
    let is = c.args.index.now.items in
    let items = λ (v : Vec ℕ Global). v.items in
    let was = c.index_mut.result.now in
    map-set items is c.args.number c.push.new.self
    ∙ ap (set (lists is) c.args.number)
    (c.in_ok-push.ensures.items ∙ ap (λ (l : List ℕ). l ++ c.args.place ∷ []) (ap items c.index_mut.ensures.value ∙ sym (get_or-map items is c.args.number was [] c.requires)))
