use Rattle.std.proofs.Common.{ℕ, ◌∙◌, ap, arith, map, List, Some, sym, Vec, Global}
use Rattle.std.proofs.lemmas.Grind.{common_steps}
use Rattle.std.proofs.lemmas.List.{length-map}
use Rattle.aa_glob.specs.Variables.{variable}
use Rattle.aa_glob.proofs.VarSteps.{entry_there, value_there, none_there}
use Rattle.aa_glob.proofs.vars.Vars.get.Goals as goal

pub index-requires : goal.index-requires
index-requires c = grind (arith, common_steps, length-map)

pub returns-in-Some : goal.returns-in-Some
returns-in-Some c =
    value_there c.args.name.now c.args.self.now c.in-Some.place (variable c.index.result.now) (sym c.in-Some.ensures.place)
    (entry_there c.self.inside.table.items c.args.self.now c.in-Some.place c.index.result.now c.self.view_is c.in-Some.ensures.within c.index.ensures)
    ∙ ap (λ (vs : List (Vec ℕ Global)). Some (map (λ x. x.items) vs)) (sym c.as_slice.ensures.value)

pub returns-in-None : goal.returns-in-None
returns-in-None c = grind (arith, common_steps, none_there)
