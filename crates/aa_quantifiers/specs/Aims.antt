-- What is looked for among the answers to a word's requests.
-- Source: own.
use Rattle.std.specs.Prelude.{◌≡◌, List, Bool, true, false, Contains, slice_index_or}
use Rattle.aa_model.specs.declared.answer.Answer.{Answer}
use Rattle.aa_model.specs.declared.policy.Policy.{Policy}
use Rattle.aa_model.specs.declared.label.Label.{Label}
use Rattle.aa_model.specs.declared.label.Label.TheVariants.{Unconfined, Confined}
use Rattle.aa_model.specs.declared.request.Request.{Request}
use Rattle.aa_mediate.specs.Reply.{reply}
use Rattle.aa_unclean_paths.specs.Requests.{IsAtUncleanPath}
use Rattle.aa_quantifiers.specs.declared.order.Order.{Order}
use Rattle.aa_quantifiers.specs.declared.order.Order.TheVariants.{Clean}
use Rattle.aa_quantifiers.specs.declared.aim.Aim.{Aim}
use Rattle.aa_quantifiers.specs.declared.aim.Aim.TheVariants.{Answered, Led}
use Rattle.aa_quantifiers.specs.declared.aim.Labels.{Labels}
use Rattle.aa_quantifiers.specs.declared.aim.First.{First}
use Rattle.aa_quantifiers.specs.declared.aim.First.TheVariants as first
use Rattle.aa_quantifiers.specs.declared.word.Word.{Word}
use Rattle.aa_quantifiers.specs.Words.{IsOf}
use Rattle.aa_quantifiers.specs.Quantities.{grants, IsFirstOf}

-- the label is one of these
abbrev pub has_label : Labels → Label → Bool
has_label ls (Unconfined k) = ls.free
has_label ls (Confined k n) = slice_index_or ls.profiles.items n false

-- the answer is one that is looked for
abbrev pub Meets : Aim → Answer → Type 0
Meets (Answered granted) a = grants a ≡ granted
Meets (Led ls) a = (grants a ≡ true) × (has_label ls.now a.label ≡ true)

-- so is what is answered to the request at the label
abbrev pub IsMet : List Policy → Label → Aim → Request → Type 0
IsMet ps l aim r = Meets aim (reply ps l r)

-- of the word's requests that are answered so one that comes first in an order; or none is, and this is one of the word's
abbrev pub IsFirstBy : Order → List Policy → Label → Word → Aim → First → Type 0
IsFirstBy order ps l w aim (first.Some r) = IsFirstOf w order (IsMet ps l aim) r
IsFirstBy order ps l w aim (first.None r) = IsOf w r × ((q : Request) → IsOf w q → IsMet ps l aim q → ⊥)

-- at a clean path where there is one, and of these with a shortest path
abbrev pub IsFirst : List Policy → Label → Word → Aim → First → Type 0
IsFirst ps l w aim f = IsFirstBy Clean ps l w aim f

-- the request that is answered so is at a clean path, if there is one
abbrev pub IsFirstClean : First → Type 0
IsFirstClean (first.Some r) = IsAtUncleanPath r → ⊥
IsFirstClean (first.None r) = Unit {0}

-- it says that none is, with one of these
abbrev pub IsOther : List Request → First → Type 0
IsOther rs (first.Some r) = ⊥
IsOther rs (first.None r) = Contains rs r
