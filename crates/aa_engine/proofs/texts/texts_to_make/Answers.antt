use Rattle.std.proofs.Common.{◌≡◌, ◌<◌, refl, length, map, sym, ap, ◌∙◌, arith}
use Rattle.std.proofs.lemmas.List.{map-append, take_all}
use Rattle.aa_engine.specs.Answers.{task_label}
use Rattle.aa_engine.proofs.Answering.{mapped_more, none_unknown}
use Rattle.aa_engine.proofs.Writing.{all_with}
use Rattle.aa_engine.proofs.texts.texts_to_make.Goals as goal

pub unreachable-requires : goal.unreachable-requires
unreachable-requires g c =
    none_unknown _ c.args.tasks.now c.loop-n.n c.index-tasks-n.result (sym c.requires.known) c.loop-n-test.true c.index-tasks-n.is
    (sym c.in_default.is ∙ c.opening_label.ensures)

pub loop-n-preserved : goal.loop-n-preserved
loop-n-preserved g c =
    let i = c.loop-n.invariant in
    let items = c.in_ok-push.ensures.items in
    let within : c.loop-n.n < length c.args.rows.now = omega (arith, c.requires.len) in
    record {
      alike = all_with c.loop-n.texts.items _ _ (λ t. (t.several ≡ c.args.several) × (t.policies.now ≡ c.args.policies.now)) items (refl, refl) i.alike;
      labels = rw (items, map-append) (mapped_more (task_label c.args.policies.now) _ c.args.tasks.now c.loop-n.n c.index-tasks-n.result _ c.loop-n-test.true c.index-tasks-n.is (cc) i.labels);
      answers = rw (items, map-append) (mapped_more (λ row. row.items) _ c.args.rows.now c.loop-n.n c.index-rows-n.result _ within c.index-rows-n.is c.as_slice.ensures.value i.answers);
    }

pub returns-clause-labels : goal.returns-clause-labels
returns-clause-labels g c = c.loop-n.invariant.labels ∙ ap (map (task_label c.args.policies.now)) (take_all c.loop-n.n c.args.tasks.now c.loop-n-test.false)

pub returns-clause-answers : goal.returns-clause-answers
returns-clause-answers g c = c.loop-n.invariant.answers ∙ ap (map (λ row. row.items)) (take_all c.loop-n.n c.args.rows.now (omega (arith, c.requires.len)))
