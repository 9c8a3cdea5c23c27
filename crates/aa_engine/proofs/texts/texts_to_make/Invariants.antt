use Rattle.std.proofs.Common.{◌≡◌, map, take, Some}
use Rattle.std.specs.List.{All}
use Rattle.aa_engine.specs.Answers.{task_label}
use Rattle.aa_engine.proofs.texts.texts_to_make.Given as goal

abbrev pub invariant-loop-n : goal.invariant-loop-n
invariant-loop-n g l = record {
  alike : All (λ t. (t.several ≡ l.several) × (t.policies.now ≡ l.policies)) l.texts.items;
  labels : map (λ t. Some t.opening) l.texts.items ≡ map (task_label l.policies) (take l.n l.tasks);
  answers : map (λ t. t.answers.now) l.texts.items ≡ map (λ row. row.items) (take l.n l.rows);
}
