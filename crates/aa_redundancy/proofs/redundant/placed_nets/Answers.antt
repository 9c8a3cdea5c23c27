use Rattle.std.proofs.Common.{ℕ, List, map, ap, ◌∙◌, subst}
use Rattle.aa_model.specs.declared.rule.NetRule.{NetRule}
use Rattle.aa_redundancy.specs.Without.{without}
use Rattle.aa_redundancy.specs.Sameness.{SameNets}
use Rattle.aa_redundancy.specs.Covering.{Within, NetsWithin}
use Rattle.aa_redundancy.specs.Tables.{Equal, Decides}
use Rattle.aa_redundancy.specs.Places.{at_place}
use Rattle.aa_redundancy.proofs.Placing.{placed_decides}
use Rattle.aa_redundancy.proofs.redundant.placed_nets.Goals as goal

pub returns-clause-alike : goal.returns-clause-alike
returns-clause-alike c =
    let table = c.in_ok-table.table in
    let rules = c.args.profile.now.nets in
    placed_decides Equal c.args.numbers.now.nets table c.in_ok-placed.placed (λ gone others. SameNets (without gone rules) (without others rules))
    (subst (λ (rs : List NetRule). Decides Equal table (λ gone others. SameNets (without gone rs) (without others rs))) c.as_slice.ensures c.in_ok-table.ensures.alike)
    (c.in_ok-placed.ensures.marks ∙ ap (λ (ns : List ℕ). map (at_place ns) table.marks.items) c.as_slice-2.ensures) c.in_ok-placed.ensures.rows

pub returns-clause-within : goal.returns-clause-within
returns-clause-within c =
    let table = c.in_ok-table.table in
    let rules = c.args.profile.now.nets in
    placed_decides Within c.args.numbers.now.nets table c.in_ok-placed.placed (λ gone others. NetsWithin (without gone rules) (without others rules))
    (subst (λ (rs : List NetRule). Decides Within table (λ gone others. NetsWithin (without gone rs) (without others rs))) c.as_slice.ensures c.in_ok-table.ensures.within)
    (c.in_ok-placed.ensures.marks ∙ ap (λ (ns : List ℕ). map (at_place ns) table.marks.items) c.as_slice-2.ensures) c.in_ok-placed.ensures.rows
