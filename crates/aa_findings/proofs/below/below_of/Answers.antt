use Rattle.std.proofs.Common.{List, ap, ◌∙◌, subst}
use Rattle.std.specs.List.{flat_map}
use Rattle.aa_pattern.specs.declared.pattern.Pattern.{Pattern}
use Rattle.aa_auto.specs.Nodes.{pointed}
use Rattle.aa_regions.specs.declared.regions.Region.{Region}
use Rattle.aa_regions.specs.Regions.{ArePathRegions}
use Rattle.aa_compile.specs.declared.attach.Attachment.{Attachment}
use Rattle.aa_findings.specs.Attached.{kept_at, shared_in, shared_if}
use Rattle.aa_findings.proofs.Parents.{shared_are}
use Rattle.aa_findings.proofs.below.below_of.Goals as goal

pub returns-in-Ok : goal.returns-in-Ok
returns-in-Ok c =
    let profiles = c.args.profiles.now in
    let group = c.args.group.now in
    let regions = c.in-Ok.regions.items in
    let are = subst (λ (ps : List Pattern). ArePathRegions ps regions) (ap pointed c.as_slice.ensures.value ∙ c.in_ok-patterns.ensures.patterns) c.in-Ok.ensures.regions in (
      regions,
      are,
      c.in_ok-shared-in-Ok.ensures
          ∙ ap (λ (kept : List Attachment). flat_map (λ (r : Region). shared_if (shared_in kept r)) c.as_slice-in-Ok-2.result.now) (c.as_slice-in-Ok.ensures.value ∙ c.in_ok-patterns.ensures.kept)
          ∙ ap (flat_map (λ (r : Region). shared_if (shared_in (kept_at profiles group) r))) c.as_slice-in-Ok-2.ensures.value
          ∙ shared_are profiles group regions are,
    )
