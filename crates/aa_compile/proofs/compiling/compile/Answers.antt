use Rattle.std.proofs.Common.{sym, subst}
use Rattle.aa_model.specs.Lawful.{ParentsComeFirst}
use Rattle.aa_compile.proofs.compiling.compile.Goals as goal

pub tables_of-requires-clause-parents : goal.tables_of-requires-clause-parents
tables_of-requires-clause-parents c = subst ParentsComeFirst (sym c.as_slice.ensures) c.args.policy.lawful.parents
