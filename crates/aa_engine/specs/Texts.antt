-- The texts of tasks, made each by itself and then joined.
use Rattle.std.specs.Prelude.{ℕ, ◌≡◌, ◌++◌, List, [], ◌∷◌, Option, Some, IfSome}
use Rattle.std.specs.String.{string_bytes}
use Rattle.aa_engine.specs.declared.texts.TaskText.{TaskText}
use Rattle.aa_engine.specs.Answers.{◌>>=◌}
use Rattle.aa_engine.specs.Output.{task_lines}

-- the task is the one that it was, and where its lines are there, they are those of its answers
pub record IsMade {M : Type 0} (task : ℕ) (before after : TaskText M) : Type 0 where
  pub opening : after.opening ≡ before.opening
  pub answers : after.answers.now ≡ before.answers.now
  pub lines : IfSome after.lines (λ lines. string_bytes lines ≡ task_lines before.several before.policies.now task before.opening before.answers.now)

-- the lines of all tasks, one task's behind those of the one before; nothing where the lines of one aren't there
abbrev pub joined_lines : {M : Type 0} → List (TaskText M) → Option (List ℕ)
joined_lines [] = Some []
joined_lines (text ∷ texts) = do
  lines ← text.lines
  others ← joined_lines texts
  Some (string_bytes lines ++ others)
