use Rattle.std.proofs.Common.{◌≡◌, List, [], ◌∷◌, ◌++◌, set, ap, sym, ◌∙◌, subst, length, ℕ, ◌<◌, Contains}
use Rattle.std.specs.Global.{Global}
use Rattle.std.specs.declared.vec.Vec.{Vec}
use Rattle.std.proofs.lemmas.List.{map-set, get_or-map, length-map}
use Rattle.aa_redundancy.specs.declared.mentions.RowNumber.{RowNumber}
use Rattle.aa_redundancy.specs.Mentions.{lists, rows_at, StayListed}
use Rattle.aa_redundancy.proofs.Mentioning.{listed_more}
use Rattle.aa_redundancy.proofs.mentions.list_at.Goals as goal

pushed : (old : List (Vec RowNumber Global)) (place : ℕ) (was now : Vec RowNumber Global) (row : RowNumber) → place < length old → was.items ≡ rows_at (lists old) place → now.items ≡ was.items ++ row ∷ []
    → StayListed (lists old) (lists (set old place now)) × Contains (rows_at (lists (set old place now)) place) row
pushed old place was now row lt is pushes =
    let items = λ (v : Vec RowNumber Global). v.items in
    let long = length-map old items in
    listed_more (lists old) (lists (set old place now)) place row (subst (λ (n : ℕ). place < n) (sym long) lt)
    (map-set items old place now ∙ ap (set (lists old) place) (pushes ∙ ap (λ (l : List RowNumber). l ++ row ∷ []) is))

both : (c : goal.In_ok-push) → StayListed (lists c.args.listed.now.items) (lists (set c.args.listed.now.items c.args.place c.push.new.self))
    × Contains (rows_at (lists (set c.args.listed.now.items c.args.place c.push.new.self)) c.args.place) c.args.row
both c =
    let gs = c.args.listed.now.items in
    let items = λ (v : Vec RowNumber Global). v.items in
    let was = c.index_mut.result.now in
    pushed gs c.args.place was c.push.new.self c.args.row c.requires (ap items c.index_mut.ensures.value ∙ sym (get_or-map items gs c.args.place was [] c.requires)) c.in_ok-push.ensures.items

pub returns-clause-stay : goal.returns-clause-stay
returns-clause-stay c = (both c).0

pub returns-clause-here : goal.returns-clause-here
returns-clause-here c = (both c).1
