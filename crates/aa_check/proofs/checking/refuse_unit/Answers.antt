use Rattle.std.proofs.Common.{sym, subst}
use Rattle.std.proofs.lemmas.Bool.{iff_false}
use Rattle.aa_files.specs.Texts.{slices}
use Rattle.aa_faults.specs.Further.{AreFurther}
use Rattle.aa_check.specs.Checked.{most_further, TellsHeld}
use Rattle.aa_check.proofs.checking.refuse_unit.Goals as goal

pub returns-clause-told : goal.returns-clause-told
returns-clause-told c = (
  iff_false c.is_want_of_memory.ensures c.if-is_want_of_memory.false,
  (c.in_ok-said.said, c.in_ok-said.ensures, c.refused.ensures.has),
  subst (λ v. AreFurther (slices c.args.settings.now.folders.now) c.args.settings.now.states most_further c.args.unit c.args.fault v.items)
      (sym c.refused.ensures.further) c.in_ok-further.ensures,
  subst (λ h. TellsHeld c.args.unit h) (sym c.refused.ensures.held) c.in_ok-held.ensures,
)
