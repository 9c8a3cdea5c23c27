-- What isn't undecided is what the policy of all files answers, whatever profiles the skipped ones have.
-- Source: own.
use Rattle.std.specs.Prelude.{◌≡◌, ℕ, List, [], ◌∷◌, map, Some, Ok, Err}
use Rattle.std.specs.List.{AllZip}
use Rattle.aa_model.specs.declared.policy.Policy.{Policy}
use Rattle.aa_model.specs.declared.label.Label.{Label}
use Rattle.aa_model.specs.declared.request.Request.{Request}
use Rattle.aa_model.specs.declared.answer.Answer.{Answer}
use Rattle.aa_compile.specs.Transitions.{named}
use Rattle.aa_mediate.specs.Reply.{reply}
use Rattle.aa_command.specs.declared.decided.Decided.{Decided}
use Rattle.aa_skipping.specs.declared.unread.Unread.{Unread}
use Rattle.aa_skipping.specs.Joined.{IsJoinedWith}
use Rattle.aa_skipping.specs.Laws.{moved, answers_to}
use Rattle.aa_skipped.specs.declared.skipped.Skipped.{Skipped}
use Rattle.aa_skipped.specs.Together.{together}
use Rattle.aa_ask.specs.Verdicts.{is_by_complain}
use Rattle.aa_ask.specs.Told.{Told}
use Rattle.aa_ask.specs.Asked.{Outcome, label_by_program}
use Rattle.aa_undecided.specs.Answers.{AnswerData, Settled, Undecided, files_attaching, answer_on, in_turn}

-- what is known of the profiles of skipped files
abbrev pub unreads : List Skipped → List Unread
unreads skipped = map (λ (k : Skipped). k.unread) skipped

-- The policy of all files: the one that is read, with whatever profiles the skipped files have by their heads. (At least one is skipped.)
pub record IsWhole (d : Decided) (skipped : List Skipped) (read whole : Policy) (place : ℕ → ℕ) : Type 0 where
  pub one : d.policies.now ≡ read ∷ []
  pub file : Skipped
  pub files : List Skipped
  pub some : skipped ≡ file ∷ files
  pub joined : IsJoinedWith (together (unreads skipped)) read.profiles whole.profiles place

-- a verdict tells an answer
pub record Tells (t : Told) (a : Answer) : Type 0 where
  pub granted : t.granted ≡ a.granted
  pub scrub : t.scrub ≡ a.scrub
  pub complain : t.complain ≡ is_by_complain a

-- so does what is answered, unless it is undecided
abbrev pub Agrees : AnswerData → Answer → Type 0
Agrees (Settled t) a = Tells t a
Agrees (Undecided k) a = Unit {0}

-- what is answered to a request is what that policy answers
abbrev pub AnswersHold : Type 0
AnswersHold = (d : Decided) (skipped : List Skipped) (read whole : Policy) (place : ℕ → ℕ) → IsWhole d skipped read whole place
    → (label : Label) (request : Request) → Agrees (answer_on d skipped label request) (reply (whole ∷ []) (moved place label) request)

-- so of requests one after another
abbrev pub SequencesHold : Type 0
SequencesHold = (d : Decided) (skipped : List Skipped) (read whole : Policy) (place : ℕ → ℕ) → IsWhole d skipped read whole place
    → (label : Label) (requests : List Request) → AllZip Agrees (in_turn d skipped (Some label) requests) (answers_to whole (moved place label) requests)

-- the label, where it isn't refused, with its profile at the new number
abbrev pub moved_outcome : (ℕ → ℕ) → Outcome Label → Outcome Label
moved_outcome place (Ok label) = Ok (moved place label)
moved_outcome place (Err line) = Err line

-- the label under which a program asks, where no skipped file could decide it, is that policy's
abbrev pub ProgramsHold : Type 0
ProgramsHold = (d : Decided) (skipped : List Skipped) (read whole : Policy) (place : ℕ → ℕ) → IsWhole d skipped read whole place
    → (path : List ℕ) → files_attaching d.policies.now skipped path ≡ [] → label_by_program (whole ∷ []) path ≡ moved_outcome place (label_by_program d.policies.now path)

-- a profile that is read has its name there too
abbrev pub NamesHold : Type 0
NamesHold = (d : Decided) (skipped : List Skipped) (read whole : Policy) (place : ℕ → ℕ) → IsWhole d skipped read whole place
    → (name : List ℕ) (n : ℕ) → named read.profiles name ≡ Some n → named whole.profiles name ≡ Some (place n)
