-- The same words spell the same policies.
use Rattle.std.proofs.Common.{List, [], ◌∷◌}
use Rattle.std.specs.List.{AllZip}
use Rattle.aa_words.specs.Splits.{WordData}
use Rattle.aa_model.specs.declared.policy.Policy.{Policy}
use Rattle.aa_policy.specs.Sameness.{SamePolicy}
use Rattle.aa_policy.specs.Spelling.{Spells}
use Rattle.aa_policy.proofs.Spelled.{spells_once}

pub all_spelled_once : (words : List (List WordData)) (ps qs : List Policy) → AllZip Spells words ps → AllZip Spells words qs → AllZip SamePolicy ps qs
all_spelled_once [] [] [] g h = tt
all_spelled_once (w ∷ ws) (p ∷ ps) (q ∷ qs) g h = (spells_once w p q g.0 h.0, all_spelled_once ws ps qs g.1 h.1)
all_spelled_once [] (p ∷ ps) qs g h = absurd g
all_spelled_once [] [] (q ∷ qs) g h = absurd h
all_spelled_once (w ∷ ws) [] qs g h = absurd g
all_spelled_once (w ∷ ws) (p ∷ ps) [] g h = absurd h
