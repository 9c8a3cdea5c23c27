use Rattle.std.proofs.Common.{◌≡◌, ap, ◌∙◌}
use Rattle.aa_auto.specs.Nodes.{pointed}
use Rattle.aa_compile.specs.Rows.{patterns_of}
use Rattle.aa_compile.proofs.rows.automaton_of.Goals as goal

pub returns-clause-automaton : goal.returns-clause-automaton
returns-clause-automaton c =
    let flat : pointed c.as_slice.result.now ≡ patterns_of c.args.rules.now = ap pointed c.as_slice.ensures.value ∙ c.in_ok-pointers.ensures in
    rw flat at c.of.ensures.automaton
