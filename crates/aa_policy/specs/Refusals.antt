-- Why words spell no policy.
-- Source: own.
use Rattle.std.specs.Prelude.{◌≡◌, List, Bool, true, false}
use Rattle.aa_base.specs.declared.fault.Spot.{Spot}
use Rattle.aa_base.specs.declared.fault.PolicyFault.{PolicyFault}
use Rattle.aa_base.specs.declared.fault.PolicyKind.{PolicyKind}
use Rattle.aa_base.specs.declared.fault.PolicyKind.TheVariants.{Syntax, UnknownWord, BadMode, WriteWithAppend, UndefinedVariable, VariableTwice, DuplicateProfile, TooLarge}
use Rattle.aa_words.specs.declared.word.Word.{Word}
use Rattle.aa_words.specs.Splits.{WordData, words_data}
use Rattle.aa_glob.specs.Variables.{Variable}
use Rattle.aa_rules.specs.Faults.{IsPlaceIn}
use Rattle.aa_policy.specs.Preamble.{IsTwice, IsUndefined}
use Rattle.aa_policy.specs.Bodies.{ProfileData, IsPolicy}
use Rattle.aa_policy.specs.Spelling.{IsPathFault, IsDuplicate, IsOverLimits, text_start}

-- by the grammar they are no policy
abbrev pub IsUnwritten : List WordData → Type 0
IsUnwritten ws = (vars : List Variable) (tree : List ProfileData) → IsPolicy ws vars tree → ⊥

-- reading can't go on there: by the grammar the words are no policy, and one of them begins there, or the text ends there
pub record IsStop (words : List Word) (end at : Spot) : Type 0 where
  pub unwritten : IsUnwritten (words_data words)
  pub place : IsPlaceIn words end at

-- the kinds of a word at which reading can't go on that nothing else is refused with
abbrev pub is_word_only : PolicyKind → Bool
is_word_only Syntax = true
is_word_only UnknownWord = true
is_word_only BadMode = true
is_word_only WriteWithAppend = true
is_word_only _ = false

-- the faults that aren't those of a word at which reading can't go on: an assignment's name, a path or name of a rule, a profile's name, and the limits
pub data IsFault (ws : List WordData) (fault : PolicyFault) : Type 0 where
  SetTwice : fault.kind ≡ VariableTwice → IsTwice ws fault.at → IsFault ws fault
  NeverSet : fault.kind ≡ UndefinedVariable → IsUndefined ws fault.at → IsFault ws fault
  AtPath : IsPathFault ws fault → IsFault ws fault
  NamedTwice : fault.kind ≡ DuplicateProfile → IsDuplicate ws fault.at → IsFault ws fault
  PastLimits : fault.kind ≡ TooLarge → fault.at ≡ text_start → IsOverLimits ws → IsFault ws fault
