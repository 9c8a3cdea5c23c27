use Rattle.std.proofs.Common.{◌≡◌, map, rules}
use Rattle.std.proofs.lemmas.Result.{err_from_is_err_and}
use Rattle.std.proofs.lemmas.Map.Iter.{rest_more, rest_all}
use Rattle.std.specs.Map.Iter.{deref_pair}
use Rattle.aa_jobs.specs.Steps.{each}
use Rattle.aa_jobs.specs.Shape.{include_shape}
use Rattle.aa_jobs.specs.Trees.{entry_data}
use Rattle.aa_jobs.proofs.Rows.{nothing_before, step_on, step_ends, step_done}
use Rattle.aa_jobs.proofs.shape.includes.Goals as goal

pub loop-name-init : goal.loop-name-init
loop-name-init c =
    let e : c.into_iter-name-iterator.result ≡ c.args.found.now.entries = search rules in
    rw (c.new-includes.ensures.items, e) (nothing_before (each include_shape (map entry_data c.args.found.now.entries)))

pub returns-in_err-include : goal.returns-in_err-include
returns-in_err-include c =
    let p = err_from_is_err_and c.from_residual.result c.from_residual.ensures.1 in
    let more = rest_more deref_pair c.loop-name.name-iterator c.next.new.self c.next.result (c.in-Some.name, c.in-Some.value) c.in-Some.is c.next.ensures.steps in
    let given = c.in_err-include.ensures in
    rw (p.1, p.2)
    (step_ends c.in_err-include.field-0.0 include_shape entry_data c.loop-name.includes.items c.loop-name.name-iterator c.next.new.self
    (deref_pair (c.in-Some.name, c.in-Some.value)) (each include_shape (map entry_data c.args.found.now.entries)) more given c.loop-name.invariant)

pub loop-name-preserved : goal.loop-name-preserved
loop-name-preserved c =
    let more = rest_more deref_pair c.loop-name.name-iterator c.next.new.self c.next.result (c.in-Some.name, c.in-Some.value) c.in-Some.is c.next.ensures.steps in
    let given = c.in_ok-include.ensures in
    rw c.in_ok-push.ensures.items (step_on include_shape entry_data c.loop-name.includes.items c.loop-name.name-iterator c.next.new.self
    (deref_pair (c.in-Some.name, c.in-Some.value)) c.in_ok-include.field-0
    (each include_shape (map entry_data c.args.found.now.entries)) more given c.loop-name.invariant)

pub returns : goal.returns
returns c = step_done include_shape entry_data c.loop-name.includes.items c.loop-name.name-iterator
    (each include_shape (map entry_data c.args.found.now.entries))
    (rest_all deref_pair c.loop-name.name-iterator c.next.new.self c.next.result c.in-None.is c.next.ensures.steps) c.loop-name.invariant
