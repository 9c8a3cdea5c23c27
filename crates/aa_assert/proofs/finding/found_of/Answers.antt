use Rattle.std.proofs.Common.{ℕ, List, sym, subst}
use Rattle.aa_load.specs.UnitPolicy.{limit_of}
use Rattle.aa_claims.specs.declared.fault.ClaimFault.{ClaimFault}
use Rattle.aa_claims.specs.Faults.{SaysAt}
use Rattle.aa_quantifiers.specs.Aims.{IsMet}
use Rattle.aa_assert.specs.Judging.{IsJudged}
use Rattle.aa_assert.specs.Refused.{IsNoPath}
use Rattle.aa_assert.proofs.Judged.{no_path_at}
use Rattle.aa_assert.proofs.finding.found_of.Goals as goal

pub returns-in-Err-clause-refused : goal.returns-in-Err-clause-refused
returns-in-Err-clause-refused c =
    subst (λ (e : ClaimFault). SaysAt (IsNoPath c.args.claim.word.now c.args.word.now) e) (sym c.fault_of.ensures)
    (no_path_at c.args.claim.word.now c.args.word.now c.as_slice.result.now c.in-Err.fault c.in-Err.ensures.refused)

pub returns-in_ok-judged_found-in-Ok-clause-found : goal.returns-in_ok-judged_found-in-Ok-clause-found
returns-in_ok-judged_found-in-Ok-clause-found c = (
  c.in-Ok.judgement,
  subst (λ (t : List ℕ). IsJudged c.args.part.decided.policies.now (limit_of c.args.claim.states) c.args.label
      (IsMet c.args.part.decided.policies.now c.args.label c.args.aim) c.args.word.now t c.in-Ok.judgement)
      c.as_slice.ensures.value c.in-Ok.ensures.judged,
  c.in_ok-judged_found-in-Ok.ensures,
)
