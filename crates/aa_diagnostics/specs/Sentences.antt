-- What is said of a kind of fault.
-- Source: own.
use Rattle.std.specs.Prelude.{ℕ, length, nat_le, ◌==◌, ◌&&◌, ◌++◌, List, [], ◌∷◌, drop, codes, decimal, Bool, false, Option, Some, None, if◌then◌else◌}
use Rattle.aa_base.specs.declared.fault.PolicyKind.{PolicyKind}
use Rattle.aa_base.specs.declared.fault.PolicyKind.TheVariants.{NoMemory, MissingInclude, IncludeDepth, Syntax, Unsupported, UnknownWord, BadMode}
use Rattle.aa_base.specs.declared.fault.PolicyKind.TheVariants.{WriteWithAppend, BadPattern, UndefinedVariable, VariableTwice, VariableCircle}
use Rattle.aa_base.specs.declared.fault.PolicyKind.TheVariants.{TooManyExpansions, RelativePath, DuplicateProfile, ConflictingExec, TooManyStates, TooLarge}
use Rattle.aa_diagnostics.specs.Words.{left_out}

-- a part behind a colon, if there is one
abbrev pub behind_colon : Option (List ℕ) → List ℕ
behind_colon None = []
behind_colon (Some part) = codes ": " ++ part

-- the sentence for an automaton with too many states
unfoldable pub too_many_states : ℕ → List ℕ
too_many_states states = codes "more than " ++ decimal states ++ codes " states are needed; --states N raises the limit"

-- the part of the language that is left out, where a byte tells
unfoldable pub unsupported : List ℕ → ℕ → List ℕ
unsupported text byte = codes "this part of the language is left out" ++ behind_colon (left_out text byte)

-- the mark that some editors put before a text in UTF-8
abbrev pub begins_with_mark : List ℕ → Bool
begins_with_mark (a ∷ b ∷ c ∷ rest) = a == 239 && b == 187 && c == 191
begins_with_mark _ = false

-- a word that no table has is the mark, or another
abbrev pub unknown : List ℕ → List ℕ
unknown text = if begins_with_mark text then codes "a byte order mark stands here; save the text without it" else codes "no table has this word"

-- a limit is passed by what stands in a text, or where there is none, by several texts together
abbrev pub too_large : List ℕ → List ℕ
too_large [] = codes "they have more than 4,096 profiles, or 65,535 patterns of attachments at the top level"
too_large (b ∷ bs) = codes "this expands to more than 16,384 bytes"

-- what is wrong at a byte of a text, in one sentence; an automaton may have so many states
abbrev pub message : ℕ → List ℕ → ℕ → PolicyKind → List ℕ
message states text byte NoMemory = codes "no memory"
message states text byte MissingInclude = codes "nothing of that name is there"
message states text byte IncludeDepth = codes "includes go more than 16 deep here"
message states text byte Syntax = if nat_le (length text) byte then codes "the text ends too early" else codes "this can't stand here"
message states text byte Unsupported = unsupported text byte
message states text byte UnknownWord = unknown (drop byte text)
message states text byte BadMode = codes "this is no mode that can stand here"
message states text byte WriteWithAppend = codes "a mode has w or a, not both"
message states text byte BadPattern = codes "this pattern can't be read"
message states text byte RelativePath = codes "this path doesn't begin with /"
message states text byte UndefinedVariable = codes "a variable here is not set"
message states text byte VariableTwice = codes "this variable is set already, += adds to it"
message states text byte VariableCircle = codes "a variable here leads back to itself"
message states text byte TooManyExpansions = codes "this stands for more than 1,024 patterns"
message states text byte DuplicateProfile = codes "an earlier profile has this name"
message states text byte ConflictingExec = codes "two rules of this profile say otherwise how one program runs"
message states text byte TooManyStates = too_many_states states
message states text byte TooLarge = too_large text
