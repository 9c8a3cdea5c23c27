use Rattle.std.proofs.Common.{List, refl, subst, ap, ◌∙◌}
use Rattle.aa_load.specs.UnitPolicy.{limit_of}
use Rattle.aa_claims.specs.declared.words.ClaimWord.{ClaimWord}
use Rattle.aa_assert.specs.Findings.{all_found, AreFound}
use Rattle.aa_assert.specs.Kinds.{kind_of}
use Rattle.aa_assert.proofs.answering.answer_to.Goals as goal

pub returns-clause-answered : goal.returns-clause-answered
returns-clause-answered c =
    let s = c.args.stated.now in
    record {
      number_is = refl;
      kind_is = c.kind_of-kind.ensures ∙ ap kind_of c.as_slice-words.ensures.value;
      are = subst (λ (ws : List ClaimWord). AreFound c.args.is_first c.args.part (limit_of c.args.states) ws s.asked s.word.now.text.items
          (all_found c.in_ok-findings.findings)) c.as_slice-words.ensures.value c.in_ok-findings.ensures.found;
    }
