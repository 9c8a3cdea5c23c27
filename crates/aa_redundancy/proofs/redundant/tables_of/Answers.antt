use Rattle.aa_redundancy.proofs.Untold.{none_made, profile_more}
use Rattle.aa_redundancy.proofs.redundant.tables_of.Goals as goal

pub loop-number-init : goal.loop-number-init
loop-number-init c =
    none_made c.args.profiles.now c.args.numbers.now c.args.limit (record { tables = c.new.result; untold = c.new-2.result }) c.new.ensures.items c.new-2.ensures.items

pub loop-number-preserved : goal.loop-number-preserved
loop-number-preserved c =
    profile_more c.args.profiles.now c.args.numbers.now c.args.limit c.loop-number.number c.loop-number.all c.push_profile_at.new.all c.loop-number.invariant
    c.in_ok-push_profile_at.ensures
