use Rattle.std.proofs.Common.{sym, subst}
use Rattle.aa_auto.specs.Pairs.{IsBuilt}
use Rattle.aa_compile.specs.Rows.{patterns_of}
use Rattle.aa_compile.proofs.compiling.Compiled.file_automaton.Goals as goal

pub returns : goal.returns
returns c = λ p at.
    let r = c.rows_at.ensures p at in
    subst (IsBuilt (patterns_of p.files)) (sym c.automaton.ensures) (record { automaton = r.automaton; bytes = r.bytes })
