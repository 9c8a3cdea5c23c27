use Rattle.std.proofs.Common.{sym, subst}
use Rattle.aa_compile.specs.Rows.{IsVerdictOf}
use Rattle.aa_compile.specs.Ways.{way_by}
use Rattle.aa_compile.proofs.Bytes.{text_of}
use Rattle.aa_compile.proofs.compiling.Compiled.verdict.Goals as goal

pub returns : goal.returns
returns c = λ p at.
    subst (IsVerdictOf (way_by p.files) p.files c.args.path.now c.args.owned) (sym c.verdict.ensures) ((c.rows_at.ensures p at).files c.args.path.now c.args.owned (text_of c.args.path.now c.type_inv.path))
