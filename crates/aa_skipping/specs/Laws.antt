-- What isn't undecided is answered as by the joined policy.
-- Source: own.
use Rattle.std.specs.Prelude.{◌≡◌, ℕ, List, [], ◌∷◌, map, Bool, true, false, not, ◌&&◌, option_map}
use Rattle.aa_model.specs.declared.policy.Policy.{Policy}
use Rattle.aa_model.specs.declared.label.Label.{Label}
use Rattle.aa_model.specs.declared.label.Label.TheVariants.{Unconfined, Confined}
use Rattle.aa_model.specs.declared.request.Request.{Request}
use Rattle.aa_model.specs.declared.answer.Answer.{Answer}
use Rattle.aa_compile.specs.Attached.{attached}
use Rattle.aa_compile.specs.Transitions.{named, tops}
use Rattle.aa_machine.specs.Run.{replies}
use Rattle.aa_mediate.specs.Reply.{reply}
use Rattle.aa_skipping.specs.declared.unread.Unread.{Unread}
use Rattle.aa_skipping.specs.Joined.{IsJoinedWith}
use Rattle.aa_skipping.specs.Searches.{is_open}
use Rattle.aa_skipping.specs.Names.{is_doubtful}
use Rattle.aa_skipping.specs.Undecided.{undecided}

-- the label with its profile at the new number
abbrev pub moved : (ℕ → ℕ) → Label → Label
moved place (Unconfined k) = Unconfined k
moved place (Confined k n) = Confined k (place n)

-- the answer with its label so; all else is the same
abbrev pub moved_answer : (ℕ → ℕ) → Answer → Answer
moved_answer place a = record a { label = moved place a.label }

-- a request that isn't undecided is answered so
abbrev pub AnswersStand : Type 0
AnswersStand = (unread : Unread) (read joined : Policy) (place : ℕ → ℕ) → IsJoinedWith unread read.profiles joined.profiles place
    → (label : Label) (request : Request) → undecided read.profiles unread label request ≡ false
    → reply (joined ∷ []) (moved place label) request ≡ moved_answer place (reply (read ∷ []) label request)

-- what a policy answers to requests one after another, each of which may move the label
abbrev pub answers_to : Policy → Label → List Request → List Answer
answers_to policy label requests = replies (λ (l : Label) (r : Request). (reply (policy ∷ []) l r).label) (reply (policy ∷ [])) label requests

-- none of them is undecided at the label that those before it leave
abbrev pub all_decided : Policy → Unread → Label → List Request → Bool
all_decided read unread label [] = true
all_decided read unread label (r ∷ rs) = not (undecided read.profiles unread label r) && all_decided read unread (reply (read ∷ []) label r).label rs

-- such requests are answered so too, one by one
abbrev pub RunsStand : Type 0
RunsStand = (unread : Unread) (read joined : Policy) (place : ℕ → ℕ) → IsJoinedWith unread read.profiles joined.profiles place
    → (label : Label) (requests : List Request) → all_decided read unread label requests ≡ true
    → answers_to joined (moved place label) requests ≡ map (moved_answer place) (answers_to read label requests)

-- a search by attachment that isn't open finds the same profile, or none
abbrev pub SearchesStand : Type 0
SearchesStand = (unread : Unread) (read joined : Policy) (place : ℕ → ℕ) → IsJoinedWith unread read.profiles joined.profiles place
    → (path : List ℕ) → is_open read.profiles unread path ≡ false
    → attached joined.profiles (tops joined.profiles) path ≡ option_map place (attached read.profiles (tops read.profiles) path)

-- so does one by a name that isn't in doubt
abbrev pub NamesStand : Type 0
NamesStand = (unread : Unread) (read joined : Policy) (place : ℕ → ℕ) → IsJoinedWith unread read.profiles joined.profiles place
    → (name : List ℕ) → is_doubtful read.profiles unread name ≡ false
    → named joined.profiles name ≡ option_map place (named read.profiles name)
