use Rattle.std.proofs.Common.{[], sym, ◌∙◌}
use Rattle.std.proofs.lemmas.Result.{IfOk-weaker}
use Rattle.aa_load.specs.UnitPolicy.{limit_of}
use Rattle.aa_assert.specs.declared.finding.Findings.{Findings}
use Rattle.aa_assert.specs.Findings.{all_found, AreFoundOf}
use Rattle.aa_assert.proofs.Looking.{none_free, one_free}
use Rattle.aa_assert.proofs.gathering.started.Goals as goal

pub returns-then-is_about_free-clause-found : goal.returns-then-is_about_free-clause-found
returns-then-is_about_free-clause-found c =
    let k = c.args.claim in
    IfOk-weaker c.found_free.result _
    (λ (now : Findings). AreFoundOf k.is_first c.args.part (limit_of k.states) k.words.now k.asked.now k.word.now.text.items [] (all_found now))
    (λ now t. one_free k.is_first c.args.part (limit_of k.states) k.words.now k.asked.now k.word.now.text.items (all_found now) t.0
    (sym c.is_about_free.ensures ∙ c.if-is_about_free.true) t.1 t.2)
    c.found_free.ensures.found

pub returns-clause-found : goal.returns-clause-found
returns-clause-found c =
    let k = c.args.claim in
    none_free k.is_first c.args.part (limit_of k.states) k.words.now k.asked.now k.word.now.text.items (all_found c.in_ok-nobody.field-0)
    (sym c.is_about_free.ensures ∙ c.if-is_about_free.false) c.in_ok-nobody.ensures
