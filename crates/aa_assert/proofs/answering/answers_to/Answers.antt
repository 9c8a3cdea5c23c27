use Rattle.std.proofs.Common.{map, sym, subst, Vec}
use Rattle.std.specs.declared.alloc.Global.{Global}
use Rattle.std.proofs.lemmas.Result.{IfOk-weaker, IfErr-weaker}
use Rattle.aa_load.specs.UnitPolicy.{limit_of}
use Rattle.aa_claims.specs.declared.fault.ClaimFault.{ClaimFault}
use Rattle.aa_claims.specs.Faults.{SaysAt}
use Rattle.aa_claims.proofs.Claims.{handed_on}
use Rattle.aa_assert.specs.declared.answering.Answer.{Answer}
use Rattle.aa_assert.specs.Stating.{AreStated}
use Rattle.aa_assert.specs.Answers.{answered, AreAnswers, AreAnswersAs, IsFirstEmpty, IsFirstUnanswered}
use Rattle.aa_assert.proofs.Turns.{answers_all, empty_all, none_stated}
use Rattle.aa_assert.proofs.Unanswered.{says_more}
use Rattle.aa_assert.proofs.answering.answers_to.Goals as goal

pub returns-in_err-all-clause-refused : goal.returns-in_err-all-clause-refused
returns-in_err-all-clause-refused c =
    handed_on c.from_residual.result _ _ c.from_residual.ensures.1
    (λ y p. rw p (none_stated c.args.is_first c.args.part (limit_of c.args.states) c.args.claims.now c.in_err-all.field-0.0
    c.in_err-all.ensures.refused))

pub returns-clause-answered : goal.returns-clause-answered
returns-clause-answered c =
    let d = c.args.part in
    let limit = limit_of c.args.states in
    let claims = c.args.claims.now in
    let all = c.as_slice.result.now in
    IfOk-weaker c.all_answers.result (λ (list : Vec Answer Global). AreAnswersAs c.args.is_first d limit all (map answered list.items))
    (λ (list : Vec Answer Global). AreAnswers c.args.is_first d limit claims (map answered list.items))
    (λ list are. answers_all c.args.is_first d limit claims all (map answered list.items)
    (subst (AreStated d claims) (sym c.as_slice.ensures.value) c.in_ok-all.ensures.stated) are) c.all_answers.ensures.answered

pub returns-clause-refused : goal.returns-clause-refused
returns-clause-refused c =
    let d = c.args.part in
    let limit = limit_of c.args.states in
    let claims = c.args.claims.now in
    let all = c.as_slice.result.now in
    IfErr-weaker c.all_answers.result (λ (e : ClaimFault). SaysAt (IsFirstEmpty c.args.is_first d limit all) e)
    (λ (e : ClaimFault). SaysAt (IsFirstUnanswered c.args.is_first d limit claims) e)
    (λ e h. says_more (IsFirstEmpty c.args.is_first d limit all) (IsFirstUnanswered c.args.is_first d limit claims) e
    (λ at fault. empty_all c.args.is_first d limit claims all at fault
    (subst (AreStated d claims) (sym c.as_slice.ensures.value) c.in_ok-all.ensures.stated)) h) c.all_answers.ensures.refused
