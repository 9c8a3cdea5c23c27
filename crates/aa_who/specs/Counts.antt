-- How many of the requests of a word a task is granted.
-- Source: own.
use Rattle.std.specs.Prelude.{◌≡◌, ◌<◌, ◌+◌, ℕ, List, [], ◌++◌, length, codes, decimal, Bool, true, false, Option, Some, None, unwrap_or}
use Rattle.aa_base.specs.Values.{value}
use Rattle.aa_text.specs.Visible.{all_visible}
use Rattle.aa_pattern.specs.Limits.{most_patterns}
use Rattle.aa_model.specs.declared.policy.Policy.{Policy}
use Rattle.aa_model.specs.declared.label.Label.{Label}
use Rattle.aa_model.specs.declared.label.Label.TheVariants.{Unconfined, Confined}
use Rattle.aa_model.specs.declared.request.Request.{Request}
use Rattle.aa_compile.specs.Labels.{label_name}
use Rattle.aa_quantifiers.specs.declared.word.Word.{Word}
use Rattle.aa_quantifiers.specs.declared.quantity.Quantity.{Quantity}
use Rattle.aa_quantifiers.specs.declared.quantity.Quantity.TheVariants.{Every, Partly, Never}
use Rattle.aa_quantifiers.specs.Words.{IsOf, patterns_at, HavePlaces}
use Rattle.aa_quantifiers.specs.Quantities.{IsQuantity}
use Rattle.aa_quantifiers.specs.Aims.{IsFirst}
use Rattle.aa_quantifiers.specs.declared.aim.Aim.{Aim}
use Rattle.aa_who.specs.declared.fault.WhoFault.{WhoFault}
use Rattle.aa_who.specs.declared.fault.WhoFault.TheVariants.{NoMemory, Refused}
use Rattle.aa_who.specs.declared.counting.Counted.{Counted}
use Rattle.aa_who.specs.declared.counting.Counted.TheVariants as counted
use Rattle.aa_who.specs.declared.counting.Sought.{Sought}
use Rattle.aa_who.specs.declared.counting.Sought.TheVariants as sought
use Rattle.aa_who.specs.Words.{no_path}

-- how a label is called
abbrev pub asker : List Policy → Label → List ℕ
asker policies (Unconfined k) = codes "unconfined"
asker policies (Confined k n) = value (label_name policies (Confined k n))

-- what is looked at together: the rules at a label and the pattern of a word
abbrev pub together : List Policy → Label → List ℕ → List ℕ
together policies l text = codes "error: at " ++ asker policies l ++ codes " the rules and " ++ all_visible text

-- they have too many patterns
abbrev pub patterns_line : List Policy → Label → List ℕ → List ℕ
patterns_line policies l text = together policies l text ++ codes " have more than 65535 patterns together\n"

-- they need too many states
abbrev pub states_line : List Policy → Label → List ℕ → ℕ → List ℕ
states_line policies l text limit = together policies l text ++ codes " need more than " ++ decimal limit ++ codes " states together; --states allows more\n"

-- why it can't be told how many of the requests a label is granted: its patterns with the word's, and maybe one that tells unclean paths, are
-- too many, or need too many states
pub data CantTell (policies : List Policy) (limit : ℕ) (l : Label) (w : Word) (text line : List ℕ) : Type 0 where
  ManyPatterns : most_patterns < length (patterns_at policies l w) + 1 → line ≡ patterns_line policies l text → CantTell policies limit l w text line
  ManyStates : HavePlaces policies l w (limit + 1) → line ≡ states_line policies l text limit → CantTell policies limit l w text line

-- how many of the requests a label is granted, or why that can't be told
abbrev pub IsCounted : List Policy → ℕ → Label → Word → List ℕ → Counted → Type 0
IsCounted policies limit l w text (counted.Told q) = IsQuantity policies l w q
IsCounted policies limit l w text (counted.Untold line) = CantTell policies limit l w text line.items

-- a first of the requests that is answered to a label as is wanted, or why that can't be told
abbrev pub IsSought : List Policy → ℕ → Label → Word → Aim → List ℕ → Sought → Type 0
IsSought policies limit l w aim text (sought.Told f) = IsFirst policies l w aim f
IsSought policies limit l w aim text (sought.Untold line) = CantTell policies limit l w text line.items

-- all are granted
abbrev pub is_all : Quantity → Bool
is_all (Every one) = true
is_all (Partly one other) = false
is_all (Never other) = false

-- whether all are, where it can be told
abbrev pub all_told : Counted → Option Bool
all_told (counted.Told q) = Some (is_all q)
all_told (counted.Untold line) = None

-- it is told that all are
abbrev pub is_every : Counted → Bool
is_every c = unwrap_or (all_told c) false

-- the line on why it can't be told, if it can't
abbrev pub untold_of : Counted → List ℕ
untold_of (counted.Told q) = []
untold_of (counted.Untold line) = line.items

-- a refusal says that the word asks nothing, unless memory ran out
abbrev pub SaysNoPath : Word → List ℕ → WhoFault → Type 0
SaysNoPath w text NoMemory = Unit {0}
SaysNoPath w text (Refused line) = ((r : Request) → IsOf w r → ⊥) × (line.items ≡ no_path text)
