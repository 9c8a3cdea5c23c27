use Rattle.std.proofs.Common.{map, sym, ap, ◌∙◌, subst}
use Rattle.aa_representatives.specs.declared.said.SaidClass.{SaidClass}
use Rattle.aa_representatives.specs.Both.{AreLinkPathsOfBoth}
use Rattle.aa_representatives.proofs.BothSaid.{paths_said}
use Rattle.aa_representatives.proofs.said.paths_to_link.Goals as goal
use Rattle.aa_regions.proofs.Paths.{ok_then}

pub returns : goal.returns
returns c =
    let ps = c.args.one.now in
    let qs = c.args.other.now in
    ok_then c.paths_of.result c.paths_of.ensures (λ paths e.
    subst (AreLinkPathsOfBoth ps c.args.from qs c.args.to) (sym (e ∙ ap (map (λ (x : SaidClass). x.path)) c.as_slice.ensures.value))
    (paths_said ps c.args.from qs c.args.to c.args.regions.now c.in_ok-classes.classes.items c.requires c.in_ok-classes.ensures))
