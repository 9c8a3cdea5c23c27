use Rattle.std.proofs.Common.{length, refl}
use Rattle.std.proofs.lemmas.Result.{on_ok_weaker}
use Rattle.std.proofs.lemmas.Option.{slice_get_read, slice_get_past}
use Rattle.aa_redundancy.specs.Adding.{There, NoProfile, NoNumbers}
use Rattle.aa_redundancy.proofs.redundant.push_profile_at.Goals as goal

pub returns-in_default : goal.returns-in_default
returns-in_default c = NoNumbers (slice_get_past c.args.numbers.now c.args.number c.in_default.ensures'.lookup.3) refl

pub returns-in_default-2 : goal.returns-in_default-2
returns-in_default-2 c = NoProfile (slice_get_past c.args.profiles.now c.args.number c.in_default.ensures.lookup.3) refl

pub returns : goal.returns
returns c =
    let ps = c.args.profiles.now in
    let ns = c.args.numbers.now in
    let i = c.args.number in
    let p = c.in-Some-Some.profile.now in
    let n = c.in-Some-Some.numbers.now in
    let one = slice_get_read ps (length ps) i p refl c.in-Some-Some.ensures.lookup.3.0 c.in-Some-Some.ensures.lookup.1 in
    let other = slice_get_read ns (length ns) i n refl c.in-Some-Some.ensures'.lookup.3.0 c.in-Some-Some.ensures'.lookup.1 in
    on_ok_weaker c.push_profile.result (There p n one other) c.push_profile.ensures
