use Rattle.std.proofs.Common.{sym, ◌∙◌}
use Rattle.std.proofs.lemmas.Result.{IfOk-weaker, IfErr-weaker}
use Rattle.aa_claims.specs.declared.fault.ClaimFault.{ClaimFault}
use Rattle.aa_claims.specs.Faults.{SaysAt}
use Rattle.aa_claims.proofs.Claims.{handed_on}
use Rattle.aa_assert.specs.declared.asked.Asked.{Asked}
use Rattle.aa_assert.specs.Asked.{IsAskedOf, IsAskedBy}
use Rattle.aa_assert.specs.Refused.{IsNoLeadBehind, IsUnsaid}
use Rattle.aa_assert.proofs.Turning.{asked_by}
use Rattle.aa_assert.proofs.Unanswered.{unread_of, no_lead_of}
use Rattle.aa_assert.proofs.asked.asked_by.Goals as goal

pub returns-clause-asked : goal.returns-clause-asked
returns-clause-asked c =
    let d = c.args.part in
    let ws = c.args.words.now in
    let head = c.args.head.now in
    let asked = c.args.asked.now in
    IfOk-weaker c.asked_of.result (λ (a : Asked). IsAskedOf d ws head c.in_ok-word.word a) (λ (a : Asked). IsAskedBy d ws head asked a)
    (λ a h. asked_by d ws head asked c.in_ok-word.word a (sym c.is_enforced.ensures ∙ c.if-is_enforced.false) (sym c.is_reach.ensures ∙ c.if-is_reach.false) c.in_ok-word.ensures.read h)
    c.asked_of.ensures.asked

pub returns-clause-refused : goal.returns-clause-refused
returns-clause-refused c =
    let ws = c.args.words.now in
    let head = c.args.head.now in
    let asked = c.args.asked.now in
    IfErr-weaker c.asked_of.result (λ (e : ClaimFault). SaysAt (IsNoLeadBehind head ws c.in_ok-word.word) e) (λ (e : ClaimFault). SaysAt (IsUnsaid ws head asked) e)
    (λ e h. no_lead_of ws head asked e c.in_ok-word.word c.in_ok-word.ensures.read h) c.asked_of.ensures.refused

pub returns-in_err-word-clause-refused : goal.returns-in_err-word-clause-refused
returns-in_err-word-clause-refused c =
    handed_on c.from_residual-in_err-word.result _ _ c.from_residual-in_err-word.ensures.1
    (λ y p. rw p (unread_of c.args.words.now c.args.head.now c.args.asked.now c.in_err-word.field-0.0 (sym c.is_enforced.ensures ∙ c.if-is_enforced.false) (sym c.is_reach.ensures ∙ c.if-is_reach.false)
    c.in_err-word.ensures.refused))
