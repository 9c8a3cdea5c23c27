use Rattle.std.proofs.Common.{◌∙◌}
use Rattle.std.proofs.Math.Seq.{map-set_same}
use Rattle.aa_lane.specs.Ends.{known}
use Rattle.aa_pool.proofs.Pairs.{at_both}
use Rattle.aa_lane_tests.proofs.pool.serving.accepts_at.Goals as goal

pub accepts-requires : goal.accepts-requires
accepts-requires g c = at_both (λ o. o.lane) known c.args.owners.now c.args.lanes.now c.requires.lanes c.args.i c.index-owners-i.result c.index-lanes-i.result c.requires.within c.index-lanes-i.is

pub returns : goal.returns
returns g c = map-set_same (λ o. o.lane) c.args.owners.now c.args.i c.accepts.new.owner c.index-owners-i.result (c.accepts.ensures) ∙ c.requires.lanes
