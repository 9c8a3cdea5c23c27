use Rattle.aa_command.specs.Policies.{AreSourcesOf}
use Rattle.aa_command.proofs.Lending.{sources_told, zipped_next}
use Rattle.aa_command.proofs.policy.gather.Goals as goal

pub loop-unit-preserved : goal.loop-unit-preserved
loop-unit-preserved c =
    zipped_next AreSourcesOf c.args.units.now c.loop-unit.unit-index c.unit-item.result c.loop-unit.gathered.items c.push.new.self.items c.sources_of.result
    c.loop-unit-test.true c.unit-item.is c.in_ok-push.ensures.items (sources_told c.unit-item.result c.sources_of.result c.sources_of.ensures.gathered c.sources_of.ensures.cause) c.loop-unit.invariant
