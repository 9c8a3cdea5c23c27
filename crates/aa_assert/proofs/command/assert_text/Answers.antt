use Rattle.std.proofs.Common.{List, Err, ap, ◌∙◌, sym, subst}
use Rattle.std.proofs.lemmas.Result.{IfOk-weaker}
use Rattle.aa_command.specs.declared.output.Output.{Output}
use Rattle.aa_command.specs.Setting.{setting_of}
use Rattle.aa_command.specs.Printed.{printed}
use Rattle.aa_command.specs.Refusals.{SaysFault}
use Rattle.aa_claims.specs.declared.lines.ClaimLine.{ClaimLine}
use Rattle.aa_claims.specs.Lines.{AreClaims, IsFirstFault}
use Rattle.aa_claims.specs.Reports.{IsClaimReport}
use Rattle.aa_assert.specs.Command.{IsAssertSaid, IsAssertOutput, NoClaims, Claims}
use Rattle.aa_assert.proofs.Saying.{said_at}
use Rattle.aa_assert.proofs.command.assert_text.Goals as goal

pub returns-in-Ok : goal.returns-in-Ok
returns-in-Ok g c =
    let s = setting_of (g.T.Tree.files c.args.tree.now) (g.T.Tree.taken c.args.tree.now) (g.T.Tree.input c.args.tree.now) c.args.settings.now in
    let o = c.args.options.now in
    IfOk-weaker c.assert_claims.result
    (λ (out : Output). IsAssertSaid s o c.args.text.now c.as_slice.result.now (printed out))
    (λ (out : Output). IsAssertOutput s o (printed out))
    (λ out is. Claims c.args.text.now c.as_slice.result.now c.requires
    (subst (λ (cs : List ClaimLine). AreClaims c.args.text.now cs) (sym c.as_slice.ensures.value) c.in-Ok.ensures.claims) is)
    c.assert_claims.ensures

pub returns-in-Err-At : goal.returns-in-Err-At
returns-in-Err-At g c =
    let s = setting_of (g.T.Tree.files c.args.tree.now) (g.T.Tree.taken c.args.tree.now) (g.T.Tree.input c.args.tree.now) c.args.settings.now in
    let o = c.args.options.now in
    IfOk-weaker c.wrong_said.result (λ (out : Output). SaysFault (IsClaimReport o.claims.now c.args.text.now c.in-Err-At.at c.in-Err-At.wrong) 1 (printed out))
    (λ (out : Output). IsAssertOutput s o (printed out))
    (λ out says. NoClaims c.args.text.now c.requires (record {
      at = c.in-Err-At.at;
      fault = c.in-Err-At.wrong;
      is_so = said_at c.read_claims.result (IsFirstFault c.args.text.now) c.in-Err-At.at c.in-Err-At.wrong
          (c.in-Err-At.is ∙ ap Err c.in-Err-At.field-0-is) c.read_claims.ensures.refused;
      says = says;
    }))
    c.wrong_said.ensures
