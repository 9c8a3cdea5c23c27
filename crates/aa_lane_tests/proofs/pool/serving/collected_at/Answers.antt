use Rattle.std.proofs.Common.{◌∙◌}
use Rattle.std.proofs.Math.Seq.{map-set_same}
use Rattle.aa_lane.specs.Ends.{known}
use Rattle.aa_pool.proofs.Pairs.{at_both}
use Rattle.aa_lane_tests.proofs.pool.serving.collected_at.Goals as goal

pub collected-requires : goal.collected-requires
collected-requires g c = at_both (λ o. o.lane) known c.args.owners.now c.args.lanes.now c.requires.lanes c.args.i c.index-owners-i.result c.index-lanes-i.result c.requires.within c.index-lanes-i.is

pub returns : goal.returns
returns g c = map-set_same (λ o. o.lane) c.args.owners.now c.args.i c.collected.new.owner c.index-owners-i.result (c.collected.ensures) ∙ c.requires.lanes
