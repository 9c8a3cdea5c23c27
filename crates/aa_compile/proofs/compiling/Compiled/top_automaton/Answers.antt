use Rattle.std.proofs.Common.{sym, subst}
use Rattle.aa_model.specs.declared.policy.Policy.{Policy}
use Rattle.aa_auto.specs.Pairs.{IsBuilt}
use Rattle.aa_compile.specs.Checks.{IsCompiled, attached_patterns, tops}
use Rattle.aa_compile.proofs.compiling.Compiled.top_automaton.Goals as goal

pub returns : goal.returns
returns c =
    let inv : IsCompiled c.args.self.now.profiles c.self.inside.tops c.self.inside.rows.items =
    subst (λ (q : Policy). IsCompiled q.profiles c.self.inside.tops c.self.inside.rows.items) c.self.view_is c.self.invariant.0 in
    subst (IsBuilt (attached_patterns c.args.self.now.profiles (tops c.args.self.now.profiles))) (sym c.automaton.ensures) inv.tops_built.built
