use Rattle.std.proofs.Common.{sym, subst}
use Rattle.aa_auto.specs.Pairs.{IsBuilt}
use Rattle.aa_compile.specs.Checks.{attached_patterns, children}
use Rattle.aa_compile.proofs.HeldLemmas.{profile_there}
use Rattle.aa_compile.proofs.compiling.Compiled.child_automaton.Goals as goal

pub returns : goal.returns
returns c =
    let there = profile_there c.args.self.now.profiles c.args.parent c.requires in
    subst (IsBuilt (attached_patterns c.args.self.now.profiles (children c.args.self.now.profiles c.args.parent))) (sym c.automaton.ensures) (c.rows_at.ensures there.0 there.1).below_built.built
