use Rattle.std.proofs.Common.{◌≡◌, ◌+◌, length, sym, subst, arith}
use Rattle.aa_auto.specs.Tables.{HasPlaces}
use Rattle.aa_auto.proofs.NetLemmas.{spots_below}
use Rattle.aa_auto.proofs.ExploredLemmas.{row_set, next_set, one_longer, still_reached, still_listed, goes_next, many_places, grown_sets}
use Rattle.aa_auto.specs.Nets.{patterns_of}
use Rattle.aa_auto.proofs.build.next_row.Goals as goal

pub next-requires-clause-old : goal.next-requires-clause-old
next-requires-clause-old c =
    let r = row_set c.args.net.now c.args.found.now.sets c.args.row c.in-Some.old.now (sym c.in-Some.ensures) c.requires.reached in
    spots_below c.args.net.now c.requires.net c.in-Some.old.now r.0 r.2

pub add-requires-clause-set : goal.add-requires-clause-set
add-requires-clause-set c =
    let r = next_set c.args.net.now c.args.found.now.sets c.args.row c.args.byte c.in-Some.old.now c.next.new.scratch.set.items (sym c.in-Some.ensures) c.requires.reached c.in_ok-next.ensures in
    spots_below c.args.net.now c.requires.net c.next.new.scratch.set.items r.0 r.1

pub returns-then-len-limit-clause-too_many : goal.returns-then-len-limit-clause-too_many
returns-then-len-limit-clause-too_many c =
    let grown = grown_sets c.args.net.now c.next.new.scratch.set.items c.args.found.now.sets c.add.new.self.sets c.args.found.now.lists c.add.new.self.lists c.in_ok-next-2.ensures.grows in
    let reached = still_reached c.args.net.now c.args.found.now.sets c.add.new.self.sets c.args.row c.args.byte c.next.new.scratch.set.items c.in-Some.old.now c.ranges.byte.fits
    (sym c.in-Some.ensures) c.in_ok-next.ensures grown c.requires.reached c.in_ok-next-2.ensures.apart in
    let longer = one_longer c.args.net.now c.args.found.now.sets c.add.new.self.sets c.args.row c.args.byte c.next.new.scratch.set.items c.in-Some.old.now c.ranges.byte.fits (sym c.in-Some.ensures) c.in_ok-next.ensures grown in
    let many : length c.add.new.self.sets ≡ c.args.limit + 1 = omega (arith, longer, c.if-len-limit.true, c.len.ensures, c.requires.few) in
    λ _. subst (HasPlaces (patterns_of c.args.net.now)) many (many_places c.args.net.now c.requires.net c.add.new.self.sets reached)

pub returns-clause-reached : goal.returns-clause-reached
returns-clause-reached c =
    still_reached c.args.net.now c.args.found.now.sets c.add.new.self.sets c.args.row c.args.byte c.next.new.scratch.set.items c.in-Some.old.now c.ranges.byte.fits (sym c.in-Some.ensures) c.in_ok-next.ensures
    (grown_sets c.args.net.now c.next.new.scratch.set.items c.args.found.now.sets c.add.new.self.sets c.args.found.now.lists c.add.new.self.lists c.in_ok-next-2.ensures.grows)
    c.requires.reached c.in_ok-next-2.ensures.apart

pub returns-clause-listed : goal.returns-clause-listed
returns-clause-listed c =
    still_listed c.args.net.now c.args.found.now.sets c.add.new.self.sets c.args.row c.args.byte c.next.new.scratch.set.items c.in-Some.old.now c.ranges.byte.fits (sym c.in-Some.ensures) c.in_ok-next.ensures
    (grown_sets c.args.net.now c.next.new.scratch.set.items c.args.found.now.sets c.add.new.self.sets c.args.found.now.lists c.add.new.self.lists c.in_ok-next-2.ensures.grows)
    c.args.found.now.lists c.add.new.self.lists c.requires.listed c.in_ok-next-2.ensures.grows

pub returns-clause-goes : goal.returns-clause-goes
returns-clause-goes c =
    goes_next c.args.net.now c.args.found.now.sets c.add.new.self.sets c.args.row c.args.byte c.next.new.scratch.set.items c.in-Some.old.now c.ranges.byte.fits (sym c.in-Some.ensures) c.in_ok-next.ensures
    (grown_sets c.args.net.now c.next.new.scratch.set.items c.args.found.now.sets c.add.new.self.sets c.args.found.now.lists c.add.new.self.lists c.in_ok-next-2.ensures.grows)
    c.in_ok-next-2.next c.in_ok-next-2.ensures.found
