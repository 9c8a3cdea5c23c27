use Rattle.std.proofs.Common.{Bool, true, false, Contains}
use Rattle.aa_model.specs.declared.request.Request.TheVariants.{Link}
use Rattle.aa_representatives.specs.Askable.{IsLink}
use Rattle.aa_representatives.proofs.Adding.{adds_both, adds_keep}
use Rattle.aa_representatives.proofs.links.add_links_to.Goals as goal

pub returns-clause-adds : goal.returns-clause-adds
returns-clause-adds c = adds_both IsLink c.args.requests.now.items c.add_link.new.requests.items c.add_link-2.new.requests.items c.in_ok-add_link.ensures.adds c.in_ok-add_link-2.ensures.adds

pub returns-clause-has : goal.returns-clause-has
returns-clause-has c = λ owned. at owned
  where
    at : (owned : Bool) → Contains c.add_link-2.new.requests.items (Link (record { link = c.args.link.now; target = c.args.target.now; owned = owned }))
    at true = adds_keep IsLink c.add_link.new.requests.items c.add_link-2.new.requests.items c.in_ok-add_link-2.ensures.adds (Link (record { link = c.args.link.now; target = c.args.target.now; owned = true })) c.in_ok-add_link.ensures.has
    at false = c.in_ok-add_link-2.ensures.has
