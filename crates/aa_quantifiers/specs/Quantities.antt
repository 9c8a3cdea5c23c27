-- How many of a word's requests are granted.
-- Source: own.
use Rattle.std.specs.Prelude.{◌≡◌, ℕ, ◌<◌, ◌&&◌, not, List, Bool, true, false, Option, Some, None, Contains, slice_index_or}
use Rattle.std.specs.Option.{option_map_or}
use Rattle.aa_model.specs.declared.policy.Policy.{Policy}
use Rattle.aa_model.specs.declared.label.Label.{Label}
use Rattle.aa_model.specs.declared.request.Request.{Request}
use Rattle.aa_model.specs.declared.answer.Answer.{Answer}
use Rattle.aa_model.specs.declared.answer.Note.{Note}
use Rattle.aa_model.specs.declared.answer.NoteWord.{NoteWord}
use Rattle.aa_model.specs.declared.answer.NoteWord.TheVariants.{Allowed}
use Rattle.aa_mediate.specs.Reply.{reply}
use Rattle.aa_quantifiers.specs.declared.word.Word.{Word}
use Rattle.aa_quantifiers.specs.declared.quantity.Quantity.{Quantity}
use Rattle.aa_quantifiers.specs.declared.quantity.Quantity.TheVariants.{Every, Partly, Never}
use Rattle.aa_unclean_paths.specs.Requests.{IsAtUncleanPath}
use Rattle.aa_quantifiers.specs.declared.order.Order.{Order}
use Rattle.aa_quantifiers.specs.declared.order.Order.TheVariants.{Clean}
use Rattle.aa_quantifiers.specs.Words.{IsOf}
use Rattle.aa_quantifiers.specs.Orders.{Before}

-- a note says that complain mode granted it
abbrev pub is_allowed_anyway : NoteWord → Bool
is_allowed_anyway Allowed = true
is_allowed_anyway _ = false

-- an answer grants, and not by complain mode alone: the rules allow it
abbrev pub grants : Answer → Bool
grants a = a.granted && not (option_map_or (λ (n : Note). is_allowed_anyway n.word) a.note false)

-- the rules allow the request at the label, or they don't
abbrev pub IsAnswered : List Policy → Label → Bool → Request → Type 0
IsAnswered ps l granted r = grants (reply ps l r) ≡ granted

-- a request of the word of which something is so, and none such comes before it in an order
pub record IsFirstOf (w : Word) (order : Order) (Is : Request → Type 0) (r : Request) : Type 0 where
  pub is : IsOf w r
  pub answer : Is r
  pub first : (q : Request) → IsOf w q → Is q → Before order r q

-- at a clean path where there is one, and of these with a shortest path
abbrev pub IsShortestOf : Word → (Request → Type 0) → Request → Type 0
IsShortestOf w Is r = IsFirstOf w Clean Is r

-- all requests of the word are answered so
abbrev pub AllAre : List Policy → Label → Word → Bool → Type 0
AllAre ps l w granted = (r : Request) → IsOf w r → IsAnswered ps l granted r

-- all are granted, or one is and one isn't, or none is; each with such requests, of which none comes before in an order
abbrev pub IsQuantityBy : Order → List Policy → Label → Word → Quantity → Type 0
IsQuantityBy order ps l w (Every granted) = IsFirstOf w order (IsAnswered ps l true) granted × AllAre ps l w true
IsQuantityBy order ps l w (Partly granted refused) = IsFirstOf w order (IsAnswered ps l true) granted × IsFirstOf w order (IsAnswered ps l false) refused
IsQuantityBy order ps l w (Never refused) = IsFirstOf w order (IsAnswered ps l false) refused × AllAre ps l w false

-- with requests at clean paths where there are such, and of these with shortest paths
abbrev pub IsQuantity : List Policy → Label → Word → Quantity → Type 0
IsQuantity ps l w q = IsQuantityBy Clean ps l w q

-- those requests are at clean paths
abbrev pub IsShownClean : Quantity → Type 0
IsShownClean (Every granted) = IsAtUncleanPath granted → ⊥
IsShownClean (Partly granted refused) = (IsAtUncleanPath granted → ⊥) × (IsAtUncleanPath refused → ⊥)
IsShownClean (Never refused) = IsAtUncleanPath refused → ⊥

-- requests of a word that stand for all of them: each is answered as one of these that comes no later in the order
pub record StandForWord (ps : List Policy) (l : Label) (order : Order) (w : Word) (rs : List Request) : Type 0 where
  pub each : (r : Request) → Contains rs r → IsOf w r
  pub all : (r : Request) → IsOf w r → (q : Request) × Contains rs q × (reply ps l r ≡ reply ps l q) × Before order q r

-- the request is one of the first n
abbrev pub IsAmong : List Request → ℕ → Request → Type 0
IsAmong rs n r = (k : ℕ) × (k < n) × (slice_index_or rs k r ≡ r)

-- of the first n requests of which something is so one that comes first, if there are any
abbrev pub IsBest : Order → (Request → Type 0) → List Request → ℕ → Option Request → Type 0
IsBest order Is rs n (Some r) = IsAmong rs n r × Is r × ((q : Request) → IsAmong rs n q → Is q → Before order r q)
IsBest order Is rs n None = (q : Request) → IsAmong rs n q → Is q → ⊥
