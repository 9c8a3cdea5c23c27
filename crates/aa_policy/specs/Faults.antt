-- Which kinds of refusal come from where.
-- Source: own.
use Rattle.std.specs.Prelude.{◌≡◌, ◌⊎◌, Bool, true, false}
use Rattle.aa_base.specs.declared.fault.PolicyFault.{PolicyFault}
use Rattle.aa_base.specs.Kinds.{no_memory}
use Rattle.aa_base.specs.declared.fault.PolicyKind.{PolicyKind}
use Rattle.aa_base.specs.declared.fault.PolicyKind.TheVariants.{Syntax, Unsupported, UnknownWord, BadMode, WriteWithAppend, BadPattern, UndefinedVariable}
use Rattle.aa_base.specs.declared.fault.PolicyKind.TheVariants.{VariableTwice, VariableCircle, TooManyExpansions, RelativePath, DuplicateProfile, TooLarge}

-- the kinds of a path that doesn't expand
abbrev pub is_path_fault : PolicyKind → Bool
is_path_fault Unsupported = true
is_path_fault BadPattern = true
is_path_fault UndefinedVariable = true
is_path_fault VariableCircle = true
is_path_fault TooManyExpansions = true
is_path_fault RelativePath = true
is_path_fault TooLarge = true
is_path_fault _ = false

-- those of them that nothing else is refused with
abbrev pub is_path_only : PolicyKind → Bool
is_path_only BadPattern = true
is_path_only VariableCircle = true
is_path_only TooManyExpansions = true
is_path_only RelativePath = true
is_path_only _ = false

-- the kinds of every refusal of a policy's words
abbrev pub is_parse_fault : PolicyKind → Bool
is_parse_fault Syntax = true
is_parse_fault Unsupported = true
is_parse_fault UnknownWord = true
is_parse_fault BadMode = true
is_parse_fault WriteWithAppend = true
is_parse_fault BadPattern = true
is_parse_fault UndefinedVariable = true
is_parse_fault VariableTwice = true
is_parse_fault VariableCircle = true
is_parse_fault TooManyExpansions = true
is_parse_fault RelativePath = true
is_parse_fault DuplicateProfile = true
is_parse_fault TooLarge = true
is_parse_fault _ = false

-- want of memory, or a path that doesn't expand
abbrev pub IsPathRefusal : PolicyFault → Type 0
IsPathRefusal e = (e ≡ no_memory) ⊎ (is_path_fault e.kind ≡ true)

-- want of memory, or one of the kinds that a policy's words are refused with
abbrev pub IsParseRefusal : PolicyFault → Type 0
IsParseRefusal e = (e ≡ no_memory) ⊎ (is_parse_fault e.kind ≡ true)
