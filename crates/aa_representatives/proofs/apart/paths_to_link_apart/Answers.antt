use Rattle.std.proofs.Common.{map, sym, ap, ◌∙◌, subst}
use Rattle.aa_regions.proofs.Paths.{ok_then}
use Rattle.aa_representatives.specs.declared.said.SaidClass.{SaidClass}
use Rattle.aa_representatives.specs.Apart.{AreLinkPathsApart}
use Rattle.aa_representatives.proofs.ApartSaid.{paths_apart}
use Rattle.aa_representatives.proofs.apart.paths_to_link_apart.Goals as goal

pub returns : goal.returns
returns c =
    let ps = c.args.one.now in
    let qs = c.args.other.now in
    let p = c.args.pattern.now in
    let made = c.in_ok-classes.ensures in
    ok_then c.paths_of.result c.paths_of.ensures (λ paths e.
    subst (AreLinkPathsApart ps c.args.from qs c.args.to p) (sym (e ∙ ap (map (λ (x : SaidClass). x.path)) c.as_slice.ensures.value))
    (paths_apart ps c.args.from qs c.args.to p c.args.regions.now c.in_ok-classes.classes.items c.requires made.each made.all))
