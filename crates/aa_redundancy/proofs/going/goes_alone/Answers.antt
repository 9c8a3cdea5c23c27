use Rattle.std.proofs.Common.{◌≡◌, List, Bool, sym, subst}
use Rattle.aa_redundancy.specs.Without.{only, marked}
use Rattle.aa_redundancy.specs.Mentions.{lists}
use Rattle.aa_redundancy.proofs.Gone.{tables_same}
use Rattle.aa_redundancy.proofs.Mentioning.{within_lists, rest_goes, none_changes}
use Rattle.aa_redundancy.proofs.Marking.{one_marked, none_again}
use Rattle.aa_redundancy.proofs.going.goes_alone.Goals as goal

pub returns-clause-still : goal.returns-clause-still
returns-clause-still c = none_again c.args.gone.now.items c.args.number c.requires.none c.requires.within

pub returns-clause-same : goal.returns-clause-same
returns-clause-same c = λ e.
    let tables = c.args.tables.now in
    let was = c.args.gone.now.items in
    let now = c.as_slice.result.now in
    let i = c.args.number in
    tables_same tables (marked now) (only i)
    (λ n. subst (λ (fs : List Bool). marked fs n ≡ only i n) (sym c.as_slice.ensures.value) (one_marked was i c.requires.none c.requires.within n))
    (rest_goes tables (lists c.args.listed.now) was now i c.requires.rows
    (within_lists c.args.listed.now was i c.requires.many c.requires.within) c.as_slice.ensures.value
    (none_changes tables was c.requires.none) (c.same_without-goes.ensures.same e))

pub returns-clause-differs : goal.returns-clause-differs
returns-clause-differs c = λ e s.
    c.same_without-goes.ensures.differs e
    (tables_same c.args.tables.now (only c.args.number) (marked c.as_slice.result.now)
    (λ n. sym (subst (λ (fs : List Bool). marked fs n ≡ only c.args.number n) (sym c.as_slice.ensures.value) (one_marked c.args.gone.now.items c.args.number c.requires.none c.requires.within n))) s)
