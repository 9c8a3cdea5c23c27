use Rattle.aa_representatives.proofs.Adding.{adds_each}
use Rattle.aa_reachability.specs.Single.{IsChangeOfOne}
use Rattle.aa_reachability.proofs.changes.changes_of.Goals as goal

pub returns-then-are_all-clause-each : goal.returns-then-are_all-clause-each
returns-then-are_all-clause-each c =
    adds_each (IsChangeOfOne c.args.rules.now) c.new-requests.result.items c.add_changes_of.new.requests.items c.new-requests.ensures.items
    c.in_ok-are_all.ensures.adds
