use Rattle.std.proofs.Common.{◌≡◌, ℕ, length, map, subst, arith}
use Rattle.std.proofs.lemmas.Result.{err_from_is_err_and}
use Rattle.aa_job.specs.Shared.{IsOtherwise, IsTakenOtherwise}
use Rattle.aa_job.proofs.Sharing.{Sharing, sharing_next, sharing_stops, sharing_end, handed_on}
use Rattle.aa_job.proofs.shared.shared_sources.Goals as goal

pub returns-in_err-add_names-clause-refused : goal.returns-in_err-add_names-clause-refused
returns-in_err-add_names-clause-refused c =
    let q = err_from_is_err_and c.from_residual.result c.from_residual.ensures.1 in
    handed_on c.from_residual.result q.0 c.in_err-add_names.field-0.0
    (IsOtherwise c.unit-item.result c.loop-unit.meanings.entries) (IsTakenOtherwise c.args.units.now) q.1 q.2
    (λ r is. sharing_stops c.args.units.now c.loop-unit.unit-index c.unit-item.result c.loop-unit.meanings.entries r (omega arith) c.unit-item.is c.loop-unit.invariant is)
    c.in_err-add_names.ensures.refused

pub loop-unit-preserved : goal.loop-unit-preserved
loop-unit-preserved c =
    sharing_next c.args.units.now c.loop-unit.unit-index c.unit-item.result c.loop-unit.meanings.entries c.add_names.new.meanings.entries (omega arith) c.unit-item.is c.in_ok-add_names.ensures.ok c.loop-unit.invariant

pub returns-clause-shared : goal.returns-clause-shared
returns-clause-shared c =
    let end : c.loop-unit.unit-index ≡ length c.args.units.now = omega arith in
    sharing_end c.args.units.now c.loop-unit.meanings.entries (map (λ s. s.now) c.in_ok-sources_of.field-0.items) c.in_ok-sources_of.ensures.sorted
    (subst (λ (i : ℕ). Sharing c.args.units.now i c.loop-unit.meanings.entries) end c.loop-unit.invariant) c.in_ok-sources_of.ensures.sources
