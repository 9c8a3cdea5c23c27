use Rattle.std.proofs.Common.{List, Contains, subst}
use Rattle.aa_differences.specs.declared.labels.Labels.{Labels}
use Rattle.aa_differences.specs.Differences.{ListAllAt, ListAll, ListAllBut, AreTold}
use Rattle.aa_differences.proofs.Listing.{list_everywhere, list_told, none_same, same_none}
use Rattle.aa_differences.proofs.differences.policy_differences.Goals as goal

pub differences_of-requires-clause-labels : goal.differences_of-requires-clause-labels
differences_of-requires-clause-labels c = λ x d. c.in_ok-labels.ensures.each x (subst (λ (l : List Labels). Contains l x) c.as_slice.ensures.value d)

pub returns-clause-all : goal.returns-clause-all
returns-clause-all c =
    let ps = c.args.old.now in
    let qs = c.args.new.now in
    let us = c.in_ok-found.found.untold.items in
    let ds = c.in_ok-found.found.differences.items in
    list_everywhere ps qs c.in_ok-labels.labels.items c.in_ok-labels.ensures.all us ds
    (subst (λ (l : List Labels). (x : Labels) → Contains l x → AreTold us x.from x.to → ListAllAt ps qs x.from x.to ds) c.as_slice.ensures.value c.in_ok-found.ensures.all)

pub returns-clause-none : goal.returns-clause-none
returns-clause-none c = λ told.
    let ps = c.args.old.now in
    let qs = c.args.new.now in
    let us = c.in_ok-found.found.untold.items in
    let ds = c.in_ok-found.found.differences.items in
    let but : ListAllBut ps qs us ds =
    list_everywhere ps qs c.in_ok-labels.labels.items c.in_ok-labels.ensures.all us ds
    (subst (λ (l : List Labels). (x : Labels) → Contains l x → AreTold us x.from x.to → ListAllAt ps qs x.from x.to ds) c.as_slice.ensures.value c.in_ok-found.ensures.all) in
    let all : ListAll ps qs ds = list_told ps qs us ds told but in
    (λ e. none_same ps qs ds e all, λ same. same_none ps qs ds same c.in_ok-found.ensures.each)
