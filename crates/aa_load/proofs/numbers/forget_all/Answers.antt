use Rattle.std.proofs.Common.{None}
use Rattle.aa_load.proofs.Names.{written}
use Rattle.aa_load.proofs.Noting.{forgotten_more}
use Rattle.aa_load.proofs.numbers.forget_all.Goals as goal

pub loop-profile-preserved : goal.loop-profile-preserved
loop-profile-preserved c = λ name.
    let u = c.remove.ensures.updates in
    forgotten_more c.args.numbers.now.entries c.loop-profile.numbers.entries c.remove.new.self.entries c.args.profiles.now c.loop-profile.profile-index c.profile-item.result c.as_slice.result.now name
    c.loop-profile-test.true c.profile-item.is c.as_slice.ensures
    (written c.loop-profile.numbers.entries c.remove.new.self.entries c.as_slice.result.now None u.1 u.3 name)
    (c.loop-profile.invariant name)
