use Rattle.std.proofs.Common.{true≢false, refl, ap, sym, subst, ◌∙◌}
use Rattle.aa_compile.specs.Rows.{rows_by, patterns_of}
use Rattle.aa_compile.specs.Ways.{numbered, way_by}
use Rattle.aa_compile.specs.Conflicts.{HasConflict}
use Rattle.aa_compile.proofs.HitLemmas.{rows_are}
use Rattle.aa_compile.proofs.WayLemmas.{tells_apart}
use Rattle.aa_compile.proofs.ConflictLemmas.{rules_conflict, marks_conflict}
use Rattle.aa_compile.proofs.rows.FileRows.build.Goals as goal

pub returns-then-has_conflict-clause-conflict : goal.returns-then-has_conflict-clause-conflict
returns-then-has_conflict-clause-conflict c = λ e.
    let rules = c.args.rules.now in
    let table = c.in_ok-automaton.automaton in
    rules_conflict (way_by rules) rules (patterns_of rules) (numbered (way_by rules) rules) refl refl table c.in_ok-automaton.ensures.automaton
    (subst (λ ms. HasConflict ms table.lists) (c.as_slice.ensures.value ∙ c.in_ok-marks.ensures) (c.has_conflict.ensures.0 c.if-has_conflict.true))

pub returns-clause-free : goal.returns-clause-free
returns-clause-free c = λ found.
    let rules = c.args.rules.now in
    let table = c.in_ok-automaton.automaton in
    true≢false
    (sym (c.has_conflict.ensures.1
    (subst (λ ms. HasConflict ms table.lists) (sym (c.as_slice.ensures.value ∙ c.in_ok-marks.ensures))
    (marks_conflict (way_by rules) rules (patterns_of rules) (numbered (way_by rules) rules) refl refl table c.in_ok-automaton.ensures.automaton (tells_apart rules) found)))
    ∙ c.if-has_conflict.false)

pub returns-clause-ok : goal.returns-clause-ok
returns-clause-ok c =
    let rules = c.args.rules.now in
    let table = c.in_ok-automaton.automaton in
    rows_are (way_by rules) rules (patterns_of rules) (numbered (way_by rules) rules) refl refl (record { table = table; rows = c.in_ok-rows.rows.items }) c.in_ok-automaton.ensures.automaton
    (c.in_ok-rows.ensures ∙ ap (λ ms. rows_by ms table.lists) (c.as_slice-2.ensures.value ∙ c.in_ok-marks.ensures))

pub returns-clause-fits : goal.returns-clause-fits
returns-clause-fits c = (c.in_ok-automaton.automaton, c.in_ok-automaton.ensures.automaton, c.in_ok-automaton.ensures.within)

pub returns-then-has_conflict-clause-fitted : goal.returns-then-has_conflict-clause-fitted
returns-then-has_conflict-clause-fitted c = λ e. (c.in_ok-automaton.automaton, c.in_ok-automaton.ensures.automaton, c.in_ok-automaton.ensures.within)
