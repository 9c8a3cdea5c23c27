use Rattle.std.proofs.Common.{subst, sym, List}
use Rattle.std.specs.Prelude.{ℕ, Vec}
use Rattle.std.specs.declared.alloc.Global.{Global}
use Rattle.std.proofs.lemmas.Result.{IfOk-weaker}
use Rattle.aa_files.specs.Texts.{texts}
use Rattle.aa_merge.specs.Command.{AreWanted, UnreadList, Named}
use Rattle.aa_merge.proofs.command.merge_files.Goals as goal

pub returns-in-Ok : goal.returns-in-Ok
returns-in-Ok g c = IfOk-weaker c.merge_named.result _ _
    (λ out is. Named (texts c.as_slice.result.now)
    (subst (λ (ps : List (Vec ℕ Global)). AreWanted (g.L.Logs.lying c.args.lists.now) c.args.options.now (texts ps))
    (sym c.as_slice.ensures.value) c.in-Ok.ensures) is) c.merge_named.ensures

pub returns-in-Err : goal.returns-in-Err
returns-in-Err g c = IfOk-weaker c.list_refused.result _ _ (λ out says. UnreadList c.in-Err.why says) c.list_refused.ensures
