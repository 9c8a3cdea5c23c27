-- What `ask` answers: the label under which is asked, the requests, and the verdict on each.
-- Source: own.
use Rattle.std.specs.Prelude.{ℕ, ◌≡◌, ◌==◌, List, [], ◌∷◌, ◌++◌, length, map, flat_map, codes, Bool, false, if◌then◌else◌, Option, Some, None, option_map, option_and_then, Result, Ok, Err, MatchResult}
use Rattle.std.specs.Option.{option_or}
use Rattle.aa_base.specs.Values.{value}
use Rattle.aa_text.specs.Visible.{all_visible}
use Rattle.aa_model.specs.declared.policy.Policy.{Policy}
use Rattle.aa_model.specs.declared.policy.Profile.{Profile}
use Rattle.aa_model.specs.declared.label.Label.{Label}
use Rattle.aa_model.specs.declared.label.Label.TheVariants.{Unconfined, Confined}
use Rattle.aa_model.specs.declared.request.Request.{Request}
use Rattle.aa_model.specs.declared.request.Request.TheVariants as asks
use Rattle.aa_compile.specs.Labels.{label_named}
use Rattle.aa_mediate.specs.Reply.{reply}
use Rattle.aa_notation.specs.Kinds.{request_in}
use Rattle.aa_notation.specs.Refused.{refusal}
use Rattle.aa_ask.specs.declared.asking.AskFault.{AskFault}
use Rattle.aa_ask.specs.declared.asking.AskFault.TheVariants.{NoMemory, Refused}
use Rattle.aa_ask.specs.declared.asking.Manner.{Manner}
use Rattle.aa_command.specs.declared.decided.Decided.{Decided}
use Rattle.aa_ask.specs.Told.{Told, verdict_on}

-- what is answered, or the line that is said where it isn't
abbrev pub Outcome : Type 0 → Type 0
Outcome A = Result A (List ℕ)

-- a value, or a refusal where there is none
abbrev pub or_refused : {A : Type 0} → List ℕ → Option A → Outcome A
or_refused line None = Err line
or_refused line (Some a) = Ok a

-- a sentence about a name as it is shown, in one line
abbrev pub said_of : List ℕ → List ℕ → List ℕ
said_of sentence name = sentence ++ all_visible name ++ codes "\n"

-- what is said where no profile has the name
abbrev pub no_profile : List ℕ → List ℕ
no_profile name = said_of (codes "error: no profile is called ") name

-- what is said where no profile is attached to the path
abbrev pub no_program : List ℕ → List ℕ
no_program path = said_of (codes "error: no program has this path: ") path

-- what is said of a word that is no request: why, and what may have been meant
unfoldable pub no_request : List ℕ → List ℕ
no_request word = codes "error: this is no request: " ++ (all_visible word ++ (codes ": " ++ (all_visible (refusal word) ++ codes "\n")))

-- a profile's name in a list
abbrev pub listed_profile : Profile → List ℕ
listed_profile p = codes " " ++ value p.name

-- the names of a policy's profiles
abbrev pub listed_profiles : Policy → List ℕ
listed_profiles p = flat_map listed_profile p.profiles

-- of several profiles it isn't told which asks
abbrev pub which_profile : List Policy → List ℕ
which_profile policies = codes "error: --profile NAME tells which profile asks, or --program PATH:" ++ flat_map listed_profiles policies ++ codes "\n"

-- the name that a request to change to it asks for
abbrev pub changed_to : Request → Option (List ℕ)
changed_to (asks.Change name) = Some name
changed_to _ = None

-- the name that stands in hexadecimal digits, as names are printed that hold other bytes
unfoldable pub name_in_digits : List ℕ → Option (List ℕ)
name_in_digits digits = option_and_then changed_to (request_in false (codes "change=" ++ digits))

-- the label of that name, or else of the name that stands so in digits
abbrev pub label_called : List Policy → List ℕ → Option Label
label_called policies name = option_or (label_named policies 0 name) (option_and_then (label_named policies 0) (name_in_digits name))

-- the same, or what is said where there is none
abbrev pub label_by_name : List Policy → List ℕ → Outcome Label
label_by_name policies name = or_refused (no_profile name) (label_called policies name)

-- the label that a task gets which isn't confined and executes that program
abbrev pub label_by_program : List Policy → List ℕ → Outcome Label
label_by_program policies path =
    or_refused (no_program path) (option_map (λ (r : Request). (reply policies (Unconfined 0) r).label) (request_in false (codes "x:" ++ path)))

-- that of the only profile
abbrev pub only_label : Decided → Outcome Label
only_label d = if length d.places.now == 1 then Ok (Confined 0 0) else Err (which_profile d.policies.now)

-- by the name, else by the program, else of the only profile
abbrev pub opening_by : Decided → Option (List ℕ) → Option (List ℕ) → Outcome Label
opening_by d (Some name) program = label_by_name d.policies.now name
opening_by d None (Some path) = label_by_program d.policies.now path
opening_by d None None = only_label d

-- the label under which is asked
abbrev pub opening : Decided → Manner → Outcome Label
opening d m = opening_by d (option_map (λ name. name.now) m.profile) (option_map (λ path. path.now) m.program)

-- the first request before the others
abbrev pub with_first : Outcome Request → Outcome (List Request) → Outcome (List Request)
with_first (Err line) rs = Err line
with_first (Ok r) (Err line) = Err line
with_first (Ok r) (Ok rs) = Ok (r ∷ rs)

-- the request that a word is, or what is said of it
abbrev pub request_of : Bool → List ℕ → Outcome Request
request_of owned word = or_refused (no_request word) (request_in owned word)

-- the requests that words are; refused at the first that is none
unfoldable pub requests_of : Bool → List (List ℕ) → Outcome (List Request)
requests_of owned [] = Ok []
requests_of owned (word ∷ words) = with_first (request_of owned word) (requests_of owned words)

-- one after another: an answer leaves the task with the label at which the next is asked
unfoldable pub in_sequence : Decided → Label → List Request → List Told
in_sequence d label [] = []
in_sequence d label (r ∷ rs) = verdict_on d label r ∷ in_sequence d (reply d.policies.now label r).label rs

-- each request is asked by itself at the opening label, or all are one task's
abbrev pub verdicts_on : Decided → Bool → Label → List Request → List Told
verdicts_on d is_sequence label rs = if is_sequence then in_sequence d label rs else map (verdict_on d label) rs

-- the answers to requests at a label, or the first line that refuses them
abbrev pub answers_by : Decided → Bool → Outcome Label → Outcome (List Request) → Outcome (List Told)
answers_by d is_sequence (Err line) rs = Err line
answers_by d is_sequence (Ok label) (Err line) = Err line
answers_by d is_sequence (Ok label) (Ok rs) = Ok (verdicts_on d is_sequence label rs)

-- the verdicts on some words
unfoldable pub answers : Decided → Manner → List (List ℕ) → Outcome (List Told)
answers d m words = answers_by d m.is_sequence (opening d m) (requests_of m.owned words)

-- want of memory, or the line that the asking comes to
abbrev pub IsRefusal : {A : Type 0} → AskFault → Outcome A → Type 0
IsRefusal NoMemory o = Unit {0}
IsRefusal (Refused line) o = o ≡ Err line.items

-- what is answered is what the definition says, and so is what is said where it is refused, unless memory ran out
abbrev pub Gives : {T A : Type 0} → (T → A) → Result T AskFault → Outcome A → Type 0
Gives shown r o = MatchResult r (λ t. o ≡ Ok (shown t)) (λ why. IsRefusal why o)
