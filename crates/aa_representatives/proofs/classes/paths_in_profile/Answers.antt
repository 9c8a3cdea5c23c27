use Rattle.std.proofs.Common.{map, sym, ap, ◌∙◌, subst}
use Rattle.aa_representatives.specs.declared.classes.Class.{Class}
use Rattle.aa_representatives.specs.Classes.{ArePathsOf}
use Rattle.aa_representatives.proofs.Linking.{paths_are}
use Rattle.aa_representatives.proofs.classes.paths_in_profile.Goals as goal

pub returns : goal.returns
returns c = λ p is.
    let regions = c.args.regions.now in
    let classes = c.in_ok-classes.classes.items in
    subst (ArePathsOf p.files regions)
    (sym (c.in_ok-paths.ensures ∙ ap (map (λ (x : Class). x.path)) c.as_slice.ensures.value))
    (paths_are p.files regions classes (c.in_ok-classes.ensures p is))
