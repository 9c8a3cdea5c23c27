use Rattle.std.proofs.Common.{◌∙◌, ap, map, sym}
use Rattle.aa_glob.specs.NamePlaces.{place_of}
use Rattle.aa_glob.specs.Variables.{variable}
use Rattle.aa_glob.proofs.VarSteps.{places_stay}
use Rattle.aa_glob.proofs.vars.Vars.add.Goals as goal

pub invariant_of-self-2 : goal.invariant_of-self-2
invariant_of-self-2 c = λ name.
    c.self.invariant name ∙ sym (places_stay c.args.name.now (map (λ v. v.items) c.in_ok-more.more.items) (map variable c.self.inside.table.items) name)
    ∙ ap (place_of name) (sym (c.in_ok-add_values.ensures.ok c.args.name.now (ap (place_of c.args.name.now) c.self.view_is ∙ sym c.in-Some.ensures.place)))
