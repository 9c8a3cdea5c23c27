-- The kinds of refusal: their numbers and names.
-- Source: own.
use Rattle.std.specs.Prelude.{ℕ, List, codes, Result, Ok, Err, ◌≢◌}
use Rattle.aa_base.specs.declared.fault.PolicyFault.{PolicyFault}
use Rattle.aa_base.specs.declared.fault.PolicyKind.{PolicyKind}
use Rattle.aa_base.specs.declared.fault.PolicyKind.TheVariants.{NoMemory, MissingInclude, IncludeDepth, Syntax, Unsupported, UnknownWord, BadMode}
use Rattle.aa_base.specs.declared.fault.PolicyKind.TheVariants.{WriteWithAppend, BadPattern, UndefinedVariable, VariableTwice, VariableCircle}
use Rattle.aa_base.specs.declared.fault.PolicyKind.TheVariants.{TooManyExpansions, RelativePath, DuplicateProfile, ConflictingExec, TooManyStates, TooLarge}

-- the number of a kind of refusal
abbrev pub kind_number : PolicyKind → ℕ
kind_number NoMemory = 1
kind_number MissingInclude = 2
kind_number IncludeDepth = 3
kind_number Syntax = 4
kind_number Unsupported = 5
kind_number UnknownWord = 6
kind_number BadMode = 7
kind_number WriteWithAppend = 8
kind_number BadPattern = 9
kind_number UndefinedVariable = 10
kind_number VariableTwice = 11
kind_number VariableCircle = 12
kind_number TooManyExpansions = 13
kind_number RelativePath = 14
kind_number DuplicateProfile = 15
kind_number ConflictingExec = 16
kind_number TooManyStates = 17
kind_number TooLarge = 18

-- its printed name
abbrev pub kind_name : PolicyKind → List ℕ
kind_name NoMemory = codes "NoMemory"
kind_name MissingInclude = codes "MissingInclude"
kind_name IncludeDepth = codes "IncludeDepth"
kind_name Syntax = codes "Syntax"
kind_name Unsupported = codes "Unsupported"
kind_name UnknownWord = codes "UnknownWord"
kind_name BadMode = codes "BadMode"
kind_name WriteWithAppend = codes "WriteWithAppend"
kind_name BadPattern = codes "BadPattern"
kind_name UndefinedVariable = codes "UndefinedVariable"
kind_name VariableTwice = codes "VariableTwice"
kind_name VariableCircle = codes "VariableCircle"
kind_name TooManyExpansions = codes "TooManyExpansions"
kind_name RelativePath = codes "RelativePath"
kind_name DuplicateProfile = codes "DuplicateProfile"
kind_name ConflictingExec = codes "ConflictingExec"
kind_name TooManyStates = codes "TooManyStates"
kind_name TooLarge = codes "TooLarge"

-- a fault that points at the start of the main text
abbrev pub at_start : PolicyKind → PolicyFault
at_start k = record { kind = k; at = record { file = 0; byte = 0 } }

-- the fault of want of memory
abbrev pub no_memory : PolicyFault
no_memory = at_start NoMemory

-- the answer is a refusal for another cause than memory
abbrev pub IsRefusal : {T : Type 0} → Result T PolicyFault → Type 0
IsRefusal (Ok x) = ⊥
IsRefusal (Err e) = e.kind ≢ NoMemory
