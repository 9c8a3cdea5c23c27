use Rattle.std.proofs.Common.{Option, ap, ◌∙◌}
use Rattle.std.specs.Prelude.{codes}
use Rattle.aa_base.specs.declared.fault.Spot.{Spot}
use Rattle.aa_diagnostics.specs.Further.{spot_lines}
use Rattle.aa_diagnostics.proofs.further.set_in.Goals as goal

pub returns-clause-shown : goal.returns-clause-shown
returns-clause-shown c = c.in_ok-spot_lines.ensures ∙ ap (λ (o : Option Spot). spot_lines c.args.unit.now (codes "set at ") o) c.earlier_variable-first.ensures.found

pub returns-clause-twice : goal.returns-clause-twice
returns-clause-twice c = λ t.
    let first = c.earlier_variable-first.ensures.twice t in
    (first.0, first.2, c.in_ok-spot_lines.ensures ∙ ap (λ (o : Option Spot). spot_lines c.args.unit.now (codes "set at ") o) first.1)
