use Rattle.std.proofs.Common.{◌≡◌, true, false, is_some, sym, ap, ◌∙◌}
use Rattle.aa_lane_tests.proofs.lane.generic.closes_unshut.Goals as goal

pub returns : goal.returns
returns g c = λ told.
    let count : is_some c.args.ends.shutter.count ≡ true = c.close.ensures.shown.closed told in
    let none_given : is_some c.args.ends.shutter.count ≡ false = ap is_some c.requires.unused in
    let z : false ≡ true = sym none_given ∙ count in cc
