use Rattle.aa_files.specs.Texts.{texts}
use Rattle.aa_load.specs.UnitPolicy.{limit_of}
use Rattle.aa_job.specs.Policies.{HasNames}
use Rattle.aa_command.proofs.Lending.{zipped_next}
use Rattle.aa_job.proofs.Naming.{refused_there}
use Rattle.aa_job.proofs.policies.all_names.Goals as goal

pub returns-in-Err-clause-refused : goal.returns-in-Err-clause-refused
returns-in-Err-clause-refused c = λ other.
    refused_there (limit_of c.args.states) c.args.units.now c.loop-unit.unit-index c.unit-item.result c.loop-unit.all.items c.in-Err.fault c.loop-unit-test.true c.unit-item.is c.loop-unit.invariant (c.in-Err.ensures.cause other)

pub loop-unit-preserved : goal.loop-unit-preserved
loop-unit-preserved c =
    zipped_next (λ u names. HasNames (limit_of c.args.states) u (texts names.items)) c.args.units.now c.loop-unit.unit-index c.unit-item.result c.loop-unit.all.items c.push.new.self.items c.in_ok-names_of-in-Ok.field-0
    c.loop-unit-test.true c.unit-item.is c.in_ok-push-in-Ok.ensures.items (c.in-Ok.compiled, c.in-Ok.ensures.compiled, c.in_ok-names_of-in-Ok.ensures) c.loop-unit.invariant
