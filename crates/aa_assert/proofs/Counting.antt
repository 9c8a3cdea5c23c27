-- How many claims are broken, or undecided.
use Rattle.std.proofs.Common.{◌≡◌, ◌+◌, List, map, Bool, sym}
use Rattle.std.specs.Prelude.{count_by, cond}
use Rattle.std.proofs.lemmas.List.Folds.{fold-map}
use Rattle.aa_assert.specs.declared.answering.Answer.{Answer}
use Rattle.aa_assert.specs.Answers.{Answered, answered}

pub count_answered : (p : Answered → Bool) (answers : List Answer) → count_by (λ (a : Answer). p (answered a)) answers ≡ count_by p (map answered answers)
count_answered p answers = sym (fold-map (λ n (a : Answered). n + cond (p a) 1 0) answered 0 answers)
