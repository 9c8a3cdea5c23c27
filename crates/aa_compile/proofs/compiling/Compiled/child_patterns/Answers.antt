use Rattle.std.proofs.Common.{◌∙◌, arith}
use Rattle.aa_compile.proofs.HeldLemmas.{profile_there}
use Rattle.aa_compile.proofs.compiling.Compiled.child_patterns.Goals as goal

pub returns-clause-count : goal.returns-clause-count
returns-clause-count c =
    let there = profile_there c.args.self.now.profiles c.args.parent c.requires in
    c.count.ensures ∙ (c.rows_at.ensures there.0 there.1).below_built.counted

pub returns-clause-few : goal.returns-clause-few
returns-clause-few c =
    let there = profile_there c.args.self.now.profiles c.args.parent c.requires in
    omega (arith, c.count.ensures, (c.rows_at.ensures there.0 there.1).below_built.few)
