-- Which kinds of refusal come from a word at which reading can't go on.
-- Source: own.
use Rattle.std.specs.Prelude.{ℕ, ◌≡◌, ◌⊎◌, List, Bool, true, false}
use Rattle.aa_base.specs.declared.fault.Spot.{Spot}
use Rattle.aa_base.specs.declared.fault.PolicyFault.{PolicyFault}
use Rattle.aa_base.specs.Kinds.{no_memory}
use Rattle.aa_base.specs.declared.fault.PolicyKind.{PolicyKind}
use Rattle.aa_base.specs.declared.fault.PolicyKind.TheVariants.{Syntax, Unsupported, UnknownWord, BadMode, WriteWithAppend}
use Rattle.aa_words.specs.declared.word.Word.{Word}
use Rattle.aa_rules.specs.Phrases.{place_of}
use Rattle.aa_rules.specs.Reading.{rest_of}

-- the kinds of a word at which reading can't go on
abbrev pub is_word_fault : PolicyKind → Bool
is_word_fault Syntax = true
is_word_fault Unsupported = true
is_word_fault UnknownWord = true
is_word_fault BadMode = true
is_word_fault WriteWithAppend = true
is_word_fault _ = false

-- want of memory, or a word at which reading can't go on
abbrev pub IsWordRefusal : PolicyFault → Type 0
IsWordRefusal e = (e ≡ no_memory) ⊎ (is_word_fault e.kind ≡ true)

-- the place of one of the words, or that where the text ends
abbrev pub IsPlaceIn : List Word → Spot → Spot → Type 0
IsPlaceIn words end at = (n : ℕ) × (at ≡ place_of (rest_of words n) end)

-- want of memory, or one that points at a word, or to where the text ends
abbrev pub IsPlaced : List Word → Spot → PolicyFault → Type 0
IsPlaced words end e = (e ≡ no_memory) ⊎ IsPlaceIn words end e.at
