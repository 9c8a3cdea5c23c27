use Rattle.aa_representatives.proofs.ApartStanding.{represent_apart}
use Rattle.aa_representatives.proofs.all.representatives_of_both_and.Goals as goal

pub returns-clause-representatives : goal.returns-clause-representatives
returns-clause-representatives c =
    let l = c.args.from in
    let m = c.args.to in
    let paths = c.in_ok-requests.ensures in
    let names = c.in_ok-names.ensures in
    let numbers = c.in_ok-numbers.ensures in
    represent_apart c.args.one.now l c.args.other.now m c.args.pattern.now c.in_ok-requests.requests.items c.in_ok-names.names.items
    c.in_ok-numbers.numbers.items c.append.new.self.items c.append-2.new.self.items
    c.in_ok-append.ensures.items c.in_ok-append-2.ensures.items paths.each names.each numbers.each
    paths.files paths.links paths.execs (numbers.caps l m) (numbers.nets l m) names.changes (numbers.reloads l m)
