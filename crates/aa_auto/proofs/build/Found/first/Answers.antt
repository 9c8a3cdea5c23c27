use Rattle.std.proofs.Common.{[]}
use Rattle.aa_auto.proofs.NetLemmas.{spots_below}
use Rattle.aa_auto.proofs.ExploredLemmas.{start_set, first_found}
use Rattle.aa_auto.proofs.build.Found.first.Goals as goal

pub add-requires-clause-set : goal.add-requires-clause-set
add-requires-clause-set c =
    let f = c.in_ok-found.found in
    spots_below c.args.net.now c.requires f.scratch.set.items [] (start_set c.args.net.now f.scratch.set.items c.in_ok-found.ensures.set)

pub returns-clause-reached : goal.returns-clause-reached
returns-clause-reached c =
    let f = c.in_ok-found.found in
    let e = c.in_ok-found.ensures in
    (first_found c.args.net.now f.sets c.add.new.self.sets f.lists c.add.new.self.lists f.scratch.set.items
    c.in_ok-add.field-0 e.sets e.lists e.set c.in_ok-add.ensures.found c.in_ok-add.ensures.grows c.in_ok-add.ensures.apart).0

pub returns-clause-listed : goal.returns-clause-listed
returns-clause-listed c =
    let f = c.in_ok-found.found in
    let e = c.in_ok-found.ensures in
    (first_found c.args.net.now f.sets c.add.new.self.sets f.lists c.add.new.self.lists f.scratch.set.items
    c.in_ok-add.field-0 e.sets e.lists e.set c.in_ok-add.ensures.found c.in_ok-add.ensures.grows c.in_ok-add.ensures.apart).1

pub returns-clause-one : goal.returns-clause-one
returns-clause-one c =
    let f = c.in_ok-found.found in
    let e = c.in_ok-found.ensures in
    (first_found c.args.net.now f.sets c.add.new.self.sets f.lists c.add.new.self.lists f.scratch.set.items
    c.in_ok-add.field-0 e.sets e.lists e.set c.in_ok-add.ensures.found c.in_ok-add.ensures.grows c.in_ok-add.ensures.apart).2
