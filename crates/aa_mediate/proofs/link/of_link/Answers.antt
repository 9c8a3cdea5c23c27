use Rattle.std.proofs.Common.{List, ℕ, subst, ap, ◌∙◌}
use Rattle.aa_compile.specs.declared.sets.RuleSets.{RuleSets}
use Rattle.aa_compile.specs.FileRules.{file_verdict}
use Rattle.aa_compile.specs.Rows.{IsVerdictOf}
use Rattle.aa_compile.specs.Ways.{way_by}
use Rattle.aa_mediate.specs.Links.{link_bits_of}
use Rattle.aa_mediate.proofs.SameWays.{same_ways}
use Rattle.aa_mediate.proofs.link.of_link.Goals as goal

pub returns : goal.returns
returns c = λ p at.
    let r = c.args.request.now in
    let one = c.verdict-link.result in
    let two = c.verdict-target.result in
    let link : IsVerdictOf (way_by p.files) p.files r.link r.owned one = subst (λ o. IsVerdictOf (way_by p.files) p.files r.link o one) c.owned.ensures
    (subst (λ (s : List ℕ). IsVerdictOf (way_by p.files) p.files s c.owned.result one) c.link.ensures.path (c.verdict-link.ensures p at)) in
    let target : IsVerdictOf (way_by p.files) p.files r.target r.owned two = subst
    (λ o. IsVerdictOf (way_by p.files) p.files r.target o two) c.owned-2.ensures
    (subst (λ (s : List ℕ). IsVerdictOf (way_by p.files) p.files s c.owned-2.result two) c.target.ensures.path (c.verdict-target.ensures p at)) in
    c.of_sets.ensures
    ∙ ap (λ (s : RuleSets). link_bits_of s two.sets c.same_way-same.result) link.sets
    ∙ ap (λ (s : RuleSets). link_bits_of (file_verdict p.files r.link r.owned) s c.same_way-same.result) target.sets
    ∙ ap (link_bits_of (file_verdict p.files r.link r.owned) (file_verdict p.files r.target r.owned))
    (same_ways p.files r.link r.target r.owned one two c.same_way-same.result link target
    (λ h. c.same_way-same.ensures.alike h, λ e. c.same_way-same.ensures.same e))
