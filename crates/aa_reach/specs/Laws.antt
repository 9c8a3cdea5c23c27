-- What the printed words ask leads to the label.
-- Source: own.
use Rattle.std.specs.Prelude.{◌≡◌, List, [], ◌∷◌, map, All, Bool, true, false, Some}
use Rattle.aa_model.specs.declared.policy.Policy.{Policy}
use Rattle.aa_model.specs.declared.label.Label.{Label}
use Rattle.aa_model.specs.declared.request.Request.{Request}
use Rattle.aa_model.specs.declared.request.Request.TheVariants.{Reload}
use Rattle.aa_machine.specs.Run.{state_after}
use Rattle.aa_mediate.specs.Reply.{reply}
use Rattle.aa_notation.specs.Kinds.{request_in, word_text}
use Rattle.aa_representatives.specs.Askable.{IsAskable}
use Rattle.aa_reachability.specs.Moves.{label_next, label_going}
use Rattle.aa_reachability.specs.Reach.{led_by}
use Rattle.aa_reach.specs.Routes.{plain, turns_by}

-- the requests whose words are printed for those of a list
abbrev pub told_way : Bool → List Policy → Label → List Request → List Request
told_way enforced ps l [] = []
told_way enforced ps l (r ∷ rs) = plain ps l r ∷ told_way enforced ps (label_going enforced ps l r) rs

-- the request isn't that to be decided by another policy, which no word asks
abbrev pub has_word : Request → Bool
has_word (Reload m) = false
has_word r = true

-- they can be asked, the words are theirs, and they lead to the same label; by the policies as they are the mediator's replies lead there;
-- and each word, as `ask` reads it, is the request
pub record ToldLead (enforced : Bool) (ps : List Policy) (from : Label) (way : List Request) : Type 0 where
  pub asked : All IsAskable (told_way enforced ps from way)
  pub words : map (λ t. t.word) (turns_by enforced ps from way) ≡ map word_text (told_way enforced ps from way)
  pub read : All (λ r. has_word r ≡ true) way
      → map (λ t. request_in false t.word) (turns_by enforced ps from way) ≡ map Some (told_way enforced ps from way)
  pub lead : led_by (label_going enforced ps) from (told_way enforced ps from way) ≡ led_by (label_going enforced ps) from way
  pub run : enforced ≡ false
      → state_after (label_next ps) (reply ps) from (told_way enforced ps from way) ≡ state_after (label_next ps) (reply ps) from way

-- so of each list of requests that can be asked
abbrev pub WordsLead : Type 0
WordsLead = (enforced : Bool) (ps : List Policy) (from : Label) (way : List Request) → All IsAskable way → ToldLead enforced ps from way
