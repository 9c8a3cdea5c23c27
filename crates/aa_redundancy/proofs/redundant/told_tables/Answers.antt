use Rattle.aa_redundancy.proofs.Placing.{four_alike, four_within}
use Rattle.aa_redundancy.proofs.redundant.told_tables.Goals as goal

pub returns-clause-alike : goal.returns-clause-alike
returns-clause-alike c =
    four_alike c.args.profile.now c.args.numbers.now c.in_ok-files.files c.in_ok-caps.caps c.in_ok-nets.nets c.in_ok-changes.changes
    c.in_ok-files.ensures.alike c.in_ok-caps.ensures.alike c.in_ok-nets.ensures.alike c.in_ok-changes.ensures.alike

pub returns-clause-within : goal.returns-clause-within
returns-clause-within c =
    four_within c.args.profile.now c.args.numbers.now c.in_ok-files.files c.in_ok-caps.caps c.in_ok-nets.nets c.in_ok-changes.changes
    c.in_ok-files.ensures.within c.in_ok-caps.ensures.within c.in_ok-nets.ensures.within c.in_ok-changes.ensures.within
