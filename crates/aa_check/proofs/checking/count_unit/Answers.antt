use Rattle.std.proofs.Common.{sym, subst}
use Rattle.aa_check.specs.Counts.{CountsPolicy}
use Rattle.aa_check.proofs.checking.count_unit.Goals as goal

pub returns-clause-counted : goal.returns-clause-counted
returns-clause-counted c =
    let u = c.args.unit.now in
    let policy = c.args.compiled.now in
    let counts = c.in_ok-counts.counts in
    let f = c.accepted.result in (
      c.accepted.ensures.fault,
      c.accepted.ensures.further,
      c.accepted.ensures.held,
      subst (λ v. CountsPolicy u policy v.items f.passed_over.items) (sym c.accepted.ensures.profiles)
          (subst (λ v. CountsPolicy u policy counts.profiles.items v.items) (sym c.accepted.ensures.passed_over) c.in_ok-counts.ensures),
    )
