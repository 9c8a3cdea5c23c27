-- Which policies texts spell, and what refuses one.
-- Source: apparmor.d(5), "Format"; own.
use Rattle.std.specs.Prelude.{ℕ, ◌≡◌, ◌<◌, ◌≤◌, ◌⊎◌, List, [], ◌∷◌, ◌++◌, length, map, true, false}
use Rattle.aa_base.specs.declared.fault.Spot.{Spot}
use Rattle.aa_base.specs.declared.fault.PolicyFault.{PolicyFault}
use Rattle.aa_base.specs.declared.fault.PolicyKind.{PolicyKind}
use Rattle.aa_base.specs.Kinds.{at_start}
use Rattle.aa_words.specs.declared.word.Word.{Word}
use Rattle.aa_words.specs.Splits.{WordData, words_data, Splits}
use Rattle.aa_words.specs.Sources.{has_name}
use Rattle.aa_words.specs.Stops.{IsFaultOf}
use Rattle.aa_model.specs.declared.policy.Policy.{Policy}
use Rattle.aa_policy.specs.Faults.{IsParseRefusal, is_path_only}
use Rattle.aa_policy.specs.Preamble.{IsTwice, IsUndefined}
use Rattle.aa_policy.specs.Refusals.{IsStop, IsFault, is_word_only}
use Rattle.aa_policy.specs.Spelling.{Spells, IsPathFault, IsDuplicate, IsOverLimits, text_start}
use Rattle.aa_compile.specs.Checks.{IsAccepted, IsRefused}
use Rattle.aa_words.specs.declared.include.Include.{Include}
use Rattle.aa_policies.specs.declared.refused.RefusedPolicy.{RefusedPolicy}

-- a named text
abbrev pub Source : Type 0
Source = List ℕ × List ℕ

-- the texts that policies may include, with their names
abbrev pub sources_of : List Include → List Source
sources_of includes = map (λ i. (i.name, i.text)) includes

-- each can be added behind those before it: there is room, its text is short enough, and its name is new
abbrev pub CanFollow : List Source → List Source → Type 0
CanFollow earlier [] = Unit {0}
CanFollow earlier (source ∷ sources) =
    (length source.1 ≤ 1048576) × (length earlier < 4095) × (has_name source.0 earlier ≡ false) × CanFollow (earlier ++ source ∷ []) sources

-- a source can't be added behind these: it is too long or one too many, or else its name is there
abbrev pub IsRefusedBehind : List Source → Source → PolicyFault → Type 0
IsRefusedBehind earlier source e =
    ((e ≡ at_start PolicyKind.TooLarge) × ((1048576 < length source.1) ⊎ (4095 ≤ length earlier)))
    ⊎ ((e ≡ at_start PolicyKind.Syntax) × (length source.1 ≤ 1048576) × (length earlier < 4095) × (has_name source.0 earlier ≡ true))

-- of these sources the first that can't be added is refused so
pub record IsFaultOfSources (sources : List Source) (e : PolicyFault) : Type 0 where
  pub before : List Source
  pub source : Source
  pub behind : List Source
  pub are : sources ≡ before ++ source ∷ behind
  pub fit : CanFollow [] before
  pub fault : IsRefusedBehind before source e

-- the words of a text, with these sources, spell the policy
pub record IsSpelledBy (sources : List Source) (text : List ℕ) (policy : Policy) : Type 0 where
  pub words : List WordData
  pub split : Splits sources text words
  pub spelled : Spells words policy

-- it is a policy that compiles, none of whose automata has more states than the limit
pub record IsPolicyOf (sources : List Source) (limit : ℕ) (text : List ℕ) (policy : Policy) : Type 0 where
  pub spelled : IsSpelledBy sources text policy
  pub accepted : IsAccepted policy.profiles limit

-- each text is that of its policy, one behind the other
abbrev pub ArePoliciesOf : List Source → ℕ → List (List ℕ) → List Policy → Type 0
ArePoliciesOf sources limit [] [] = Unit {0}
ArePoliciesOf sources limit (text ∷ texts) (policy ∷ policies) = IsPolicyOf sources limit text policy × ArePoliciesOf sources limit texts policies
ArePoliciesOf sources limit _ _ = ⊥

-- where a text ends
abbrev pub end_of : List ℕ → Spot
end_of text = record { file = 0; byte = length text }

-- what a fault of words that spell no policy says of them and of the place where their text ends; where one of their faults isn't that
-- of a word at which reading can't go on, it is that one
pub record IsFaultOfWords (words : List Word) (end : Spot) (e : PolicyFault) : Type 0 where
  pub none : (policy : Policy) → Spells (words_data words) policy → ⊥
  pub twice : e.kind ≡ PolicyKind.VariableTwice → IsTwice (words_data words) e.at
  pub undefined : e.kind ≡ PolicyKind.UndefinedVariable → IsUndefined (words_data words) e.at ⊎ IsPathFault (words_data words) e
  pub at_path : is_path_only e.kind ≡ true → IsPathFault (words_data words) e
  pub duplicate : e.kind ≡ PolicyKind.DuplicateProfile → IsDuplicate (words_data words) e.at
  pub too_large : e.kind ≡ PolicyKind.TooLarge → IsPathFault (words_data words) e ⊎ ((e.at ≡ text_start) × IsOverLimits (words_data words))
  pub unwritten : is_word_only e.kind ≡ true → IsStop words end e.at
  pub unsupported : e.kind ≡ PolicyKind.Unsupported → IsStop words end e.at ⊎ IsPathFault (words_data words) e
  pub kind : IsParseRefusal e
  pub exact : (fault : PolicyFault) → IsFault (words_data words) fault → e ≡ fault

-- why a text is no policy that compiles: it has no words, they spell none, or what they spell is refused
pub data IsFaultOfText (sources : List Source) (limit : ℕ) (text : List ℕ) (e : PolicyFault) : Type 0 where
  OfText : ((words : List WordData) → Splits sources text words → ⊥) → IsFaultOf sources text e → IsFaultOfText sources limit text e
  OfWords : (words : List Word) → Splits sources text (words_data words) → IsFaultOfWords words (end_of text) e → IsFaultOfText sources limit text e
  OfPolicy : (policy : Policy) → IsSpelledBy sources text policy → IsRefused policy.profiles limit e → IsFaultOfText sources limit text e

-- of these texts it is the first that is no policy that compiles
pub record IsFirstRefused (sources : List Source) (limit : ℕ) (texts : List (List ℕ)) (refused : RefusedPolicy) : Type 0 where
  pub before : List (List ℕ)
  pub text : List ℕ
  pub behind : List (List ℕ)
  pub are : texts ≡ before ++ text ∷ behind
  pub number : refused.policy ≡ length before
  pub policies : List Policy
  pub compile : ArePoliciesOf sources limit before policies
  pub fault : IsFaultOfText sources limit text refused.fault

-- why texts are refused: the sources can't be handed in, which counts for the first, or one of the texts
pub data IsRefusedBy (sources : List Source) (limit : ℕ) (texts : List (List ℕ)) (refused : RefusedPolicy) : Type 0 where
  OfSources : (CanFollow [] sources → ⊥) → IsFaultOfSources sources refused.fault → refused.policy ≡ 0 → IsRefusedBy sources limit texts refused
  OfText : CanFollow [] sources → IsFirstRefused sources limit texts refused → IsRefusedBy sources limit texts refused
