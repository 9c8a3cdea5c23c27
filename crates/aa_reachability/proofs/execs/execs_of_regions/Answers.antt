use Rattle.aa_representatives.specs.Askable.{IsExec}
use Rattle.aa_representatives.proofs.Adding.{adds_each}
use Rattle.aa_reachability.proofs.execs.execs_of_regions.Goals as goal

pub returns-clause-each : goal.returns-clause-each
returns-clause-each c =
    adds_each IsExec c.new-requests.result.items c.add_execs_of_regions.new.requests.items c.new-requests.ensures.items
    c.in_ok-add_execs_of_regions.ensures.adds
