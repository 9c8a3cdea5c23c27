use Rattle.std.proofs.Common.{◌≡◌, Some, ◌∙◌}
use Rattle.std.specs.Map.Iter.{deref_pair}
use Rattle.std.proofs.lemmas.Map.Iter.{rest_more}
use Rattle.std.proofs.lemmas.Map.Views.{All-turn}
use Rattle.std.proofs.lemmas.Result.{err_from_is_err_and}
use Rattle.aa_files.specs.Walks.{Entry, known_of}
use Rattle.aa_job.specs.Shared.{found_source, NameStays, IsOtherwise}
use Rattle.aa_job.proofs.Sharing.{adding_one, stops_at, handed_on}
use Rattle.aa_job.proofs.shared.add_names.Goals as goal

pub loop-name-preserved : goal.loop-name-preserved
loop-name-preserved c =
    let more = rest_more deref_pair c.loop-name.name-iterator c.next.new.self c.next.result (c.in-Some.name, c.in-Some.index) c.in-Some.is c.next.ensures.steps in
    adding_one c.args.unit.now (c.in-Some.name.now, c.in-Some.index.now) c.next.new.self c.loop-name.name-iterator c.args.meanings.now.entries c.loop-name.meanings.entries c.add_name.new.meanings.entries
    c.as_slice-in-loop-name.result.now c.as_slice.result.now (found_source c.source_at-source.result)
    more c.as_slice-in-loop-name.ensures.value c.as_slice.ensures.value c.source_at-source.ensures c.in_ok-add_name.ensures.ok c.loop-name.invariant

pub returns-in_err-add_name-clause-refused : goal.returns-in_err-add_name-clause-refused
returns-in_err-add_name-clause-refused c =
    let u = c.args.unit.now in
    let q = err_from_is_err_and c.from_residual.result c.from_residual.ensures.1 in
    let known : known_of u.known.entries c.in-Some.name.now.items ≡ Some c.in-Some.index.now =
    All-turn deref_pair (λ (e : Entry). known_of u.known.entries e.0.items ≡ Some e.1) _ _ _ _ _ _ _ c.iter-name-items.ensures.found
    (c.into_iter-name-iterator.ensures.into_iter_gives ∙ c.iter-name-items.ensures.rest) c.loop-name.yielded_by c.in-Some.is c.next.ensures.steps in
    handed_on c.from_residual.result q.0 c.in_err-add_name.field-0.0
    (NameStays c.as_slice-in-loop-name.result.now (record { by = u; source = found_source c.source_at-source.result }) c.loop-name.meanings.entries)
    (IsOtherwise u c.args.meanings.now.entries) q.1 q.2
    (λ r stays. stops_at u (c.in-Some.name.now, c.in-Some.index.now) c.loop-name.name-iterator c.args.meanings.now.entries c.loop-name.meanings.entries r
    c.as_slice-in-loop-name.result.now c.as_slice.result.now (found_source c.source_at-source.result)
    c.as_slice-in-loop-name.ensures.value c.as_slice.ensures.value c.source_at-source.ensures known c.loop-name.invariant stays)
    c.in_err-add_name.ensures.refused
