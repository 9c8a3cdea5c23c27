use Rattle.std.proofs.Common.{List, Contains, subst}
use Rattle.aa_model.specs.declared.request.Request.{Request}
use Rattle.aa_differences.specs.Differences.{IsListedAt}
use Rattle.aa_differences.proofs.Adding.{list_apart}
use Rattle.aa_differences.proofs.at_labels.differences_apart.Goals as goal

pub differences_of-requires-clause-asked : goal.differences_of-requires-clause-asked
differences_of-requires-clause-asked c = λ r d.
    c.in_ok-requests.ensures.representatives.each r (subst (λ (x : List Request). Contains x r) c.as_slice.ensures.value d)

pub returns-clause-all : goal.returns-clause-all
returns-clause-all c =
    let ps = c.args.old.now in
    let qs = c.args.new.now in
    let ds = c.in_ok-differences.differences.items in
    list_apart ps qs c.args.from c.args.to c.in_ok-requests.requests.items c.args.unclean.now
    c.requires.unclean c.in_ok-requests.ensures.representatives ds
    (subst (λ (x : List Request). (r : Request) → Contains x r → IsListedAt ps qs c.args.from c.args.to r ds) c.as_slice.ensures.value
    c.in_ok-differences.ensures.all)
