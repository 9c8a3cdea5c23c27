use Rattle.std.proofs.Common.{◌≡◌, length, ap, ◌∙◌, arith}
use Rattle.aa_model.specs.declared.policy.Profile.{Profile}
use Rattle.aa_compile.specs.Rows.{patterns_of}
use Rattle.aa_compile.proofs.HeldLemmas.{many_owners, profile_there}
use Rattle.aa_compile.proofs.compiling.Compiled.file_patterns.Goals as goal

pub returns-clause-count : goal.returns-clause-count
returns-clause-count c = λ p at.
    let r = c.rows_at.ensures p at in
    omega (arith, c.len.ensures, c.rows_at.result.now.owners.ok, ap length r.owners, many_owners 0 p.files)

pub returns-clause-few : goal.returns-clause-few
returns-clause-few c =
    let there = profile_there c.args.self.now.profiles c.args.number c.requires in
    let r = c.rows_at.ensures there.0 there.1 in
    omega (arith, c.len.ensures, c.rows_at.result.now.owners.ok, ap length r.owners, many_owners 0 there.0.files, r.few)
