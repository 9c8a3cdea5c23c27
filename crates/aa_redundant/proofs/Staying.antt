-- Without rules that can go every answer stays.
use Rattle.std.proofs.Common.{List, Bool, length, sym, subst}
use Rattle.aa_model.specs.declared.policy.Profile.{Profile}
use Rattle.aa_command.specs.declared.decided.Decided.{Decided}
use Rattle.aa_redundancy.specs.declared.redundant.Redundant.{Redundant}
use Rattle.aa_redundancy.specs.Kept.{SameBut}
use Rattle.aa_redundancy.specs.Going.{AreGoing}
use Rattle.aa_redundancy.specs.Spared.{SparedAnswersSame}
use Rattle.aa_redundant.specs.Places.{all_places, all_numbers}
use Rattle.aa_redundant.specs.Command.{Spares, AnswersStay}

pub answers_stay : SparedAnswersSame → (d : Decided) (held : List Bool) (r : Redundant) → AreGoing (Spares d r.untold.items) (length (all_places d)) held r.going → AnswersStay d r
answers_stay law d held r going p q same gone can left l rs asked =
    let us = r.untold.items in
    law p q (all_numbers d) us (length (all_places d)) held r.going
    (subst (λ (ps : List Profile). AreGoing (SameBut us ps (all_numbers d) (length ps)) (length (all_places d)) held r.going) (sym same) going) gone can left l rs asked
