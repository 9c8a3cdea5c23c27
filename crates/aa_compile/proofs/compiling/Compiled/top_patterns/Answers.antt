use Rattle.std.proofs.Common.{subst, ◌∙◌, arith}
use Rattle.aa_model.specs.declared.policy.Policy.{Policy}
use Rattle.aa_compile.specs.Checks.{IsCompiled}
use Rattle.aa_compile.proofs.compiling.Compiled.top_patterns.Goals as goal

pub returns-clause-count : goal.returns-clause-count
returns-clause-count c =
    let inv : IsCompiled c.args.self.now.profiles c.self.inside.tops c.self.inside.rows.items =
    subst (λ (q : Policy). IsCompiled q.profiles c.self.inside.tops c.self.inside.rows.items) c.self.view_is c.self.invariant.0 in
    c.count.ensures ∙ inv.tops_built.counted

pub returns-clause-few : goal.returns-clause-few
returns-clause-few c =
    let inv : IsCompiled c.args.self.now.profiles c.self.inside.tops c.self.inside.rows.items =
    subst (λ (q : Policy). IsCompiled q.profiles c.self.inside.tops c.self.inside.rows.items) c.self.view_is c.self.invariant.0 in
    omega (arith, c.count.ensures, inv.tops_built.few)
