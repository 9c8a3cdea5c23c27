use Rattle.std.proofs.Common.{◌≡◌, ◌++◌, [], map, sym, ap, ◌∙◌, arith, rules}
use Rattle.std.proofs.lemmas.List.{append-nil}
use Rattle.aa_jobs.specs.Raw.{kept_work}
use Rattle.aa_jobs.proofs.Rows.{copy_on, none_left}
use Rattle.aa_jobs.proofs.meaning.asked_works.Goals as goal

pub loop-kept-init : goal.loop-kept-init
loop-kept-init c =
    let same : c.into_iter-kept-iterator.result.rest.items ≡ c.args.list.items = search rules in
    rw c.in_ok-works.ensures.items (ap (map kept_work) same)

pub loop-kept-preserved : goal.loop-kept-preserved
loop-kept-preserved c = rw (c.in_ok-push.ensures.items, c.asked_work.ensures)
    (copy_on kept_work c.loop-kept.works.items c.loop-kept.kept-iterator.rest.items c.next.new.self.rest.items c.in-Some.kept
    (map kept_work c.args.list.items) ((c.in-Some.ensures {u = tt}).steps.0) c.loop-kept.invariant)

pub returns : goal.returns
returns c =
    let none : c.loop-kept.kept-iterator.rest.items ≡ [] =
    none_left _ (omega (arith, c.loop-kept.kept-iterator.rest.ok, (c.in-None.ensures {u = tt}).steps.0)) in
    let e : c.loop-kept.works.items ++ map kept_work c.loop-kept.kept-iterator.rest.items ≡ c.loop-kept.works.items ++ [] = rw none in
    sym (append-nil c.loop-kept.works.items) ∙ sym e ∙ c.loop-kept.invariant
