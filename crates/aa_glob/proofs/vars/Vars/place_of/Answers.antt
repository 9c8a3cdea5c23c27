use Rattle.std.proofs.Common.{◌∙◌, ap, sym, is_some}
use Rattle.aa_glob.specs.NamePlaces.{place_of}
use Rattle.aa_glob.proofs.VarSteps.{there, within}
use Rattle.aa_glob.proofs.vars.Vars.place_of.Goals as goal

pub returns-in-Some-clause-there : goal.returns-in-Some-clause-there
returns-in-Some-clause-there c =
    ap is_some (c.in-Some.ensures.value ∙ c.self.invariant c.args.name.now ∙ ap (place_of c.args.name.now) c.self.view_is) ∙ there c.args.name.now c.args.self.now

pub returns-in-Some-clause-within : goal.returns-in-Some-clause-within
returns-in-Some-clause-within c =
    within c.args.name.now c.args.self.now c.in-Some.place.now (sym (c.in-Some.ensures.value ∙ c.self.invariant c.args.name.now ∙ ap (place_of c.args.name.now) c.self.view_is))

pub returns-in-None-clause-there : goal.returns-in-None-clause-there
returns-in-None-clause-there c =
    ap is_some (c.in-None.ensures.value ∙ c.self.invariant c.args.name.now ∙ ap (place_of c.args.name.now) c.self.view_is) ∙ there c.args.name.now c.args.self.now
