use Rattle.std.proofs.Common.{refl}
use Rattle.std.proofs.lemmas.Result.{on_ok_weaker}
use Rattle.aa_redundancy.specs.Adding.{four, Told}
use Rattle.aa_redundancy.proofs.Untold.{kept_adds}
use Rattle.aa_redundancy.proofs.redundant.push_profile.Goals as goal

pub returns-in-Ok : goal.returns-in-Ok
returns-in-Ok c =
    on_ok_weaker c.push_four.result
    (λ e. Told (record { tables = four c.in-Ok.own; are = e; alike = c.in-Ok.ensures.alike; within = c.in-Ok.ensures.within }) refl)
    c.push_four.ensures

pub returns-in-Err : goal.returns-in-Err
returns-in-Err c =
    on_ok_weaker c.push_kept.result
    (kept_adds c.args.profile.now c.args.numbers.now c.args.number c.args.limit c.in-Err.fault c.args.all.now c.push_kept.new.all c.in-Err.ensures.many)
    c.push_kept.ensures
