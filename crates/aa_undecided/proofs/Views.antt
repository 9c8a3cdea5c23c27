-- What is found among answers, as they are told.
use Rattle.std.proofs.Common.{◌≡◌, List, [], ◌∷◌, map, refl, ap, Bool}
use Rattle.std.specs.Prelude.{◌||◌}
use Rattle.std.specs.List.{list_any}
use Rattle.aa_undecided.specs.declared.answered.Answered.{Answered}
use Rattle.aa_undecided.specs.Answers.{AnswerData, answered}

pub any_answered : (p : AnswerData → Bool) (xs : List Answered) → list_any (λ (x : Answered). p (answered x)) xs ≡ list_any p (map answered xs)
any_answered p [] = refl
any_answered p (x ∷ xs) = ap (λ (b : Bool). p (answered x) || b) (any_answered p xs)
