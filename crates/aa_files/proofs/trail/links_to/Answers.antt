use Rattle.std.proofs.Common.{◌≡◌, ◌∙◌, ap, List, flat_map, take}
use Rattle.std.proofs.lemmas.List.{take_all}
use Rattle.aa_files.specs.declared.trail.Step.{Step}
use Rattle.aa_files.specs.Links.{link_at}
use Rattle.aa_files.proofs.trail.links_to.Goals as goal

pub returns : goal.returns
returns c =
    let all : take c.loop-step.step-index c.deref-step-items.result.now ≡ c.in_ok-trail.trail.items = take_all c.loop-step.step-index c.deref-step-items.result.now c.loop-step-test.false ∙ c.deref-step-items.ensures.value in
    record {
      way = c.in_ok-trail.trail.items;
      trail = c.in_ok-trail.ensures.trail;
      leads = c.in_ok-trail.ensures.way;
      each = c.loop-step.invariant ∙ ap (λ (ss : List Step). flat_map (link_at c.args.unit.now) ss) all;
    }
