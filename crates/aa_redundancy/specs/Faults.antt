-- Why rules can't be looked through.
-- Source: own.
use Rattle.std.specs.Prelude.{◌<◌, ◌+◌, ◌⊎◌, ℕ, List, length}
use Rattle.aa_pattern.specs.Limits.{most_patterns}
use Rattle.aa_pattern.specs.declared.pattern.Pattern.{Pattern}
use Rattle.aa_auto.specs.Tables.{HasPlaces}
use Rattle.aa_model.specs.declared.policy.Profile.{Profile}
use Rattle.aa_compile.specs.Rows.{patterns_of}
use Rattle.aa_representatives.specs.Alike.{change_patterns}
use Rattle.aa_auto.specs.declared.build.BuildFault.{BuildFault}
use Rattle.aa_auto.specs.declared.build.BuildFault.TheVariants.{NoMemory, TooManyStates}
use Rattle.aa_redundancy.specs.declared.fault.RedundancyFault.{RedundancyFault}
use Rattle.aa_redundancy.specs.declared.fault.RedundancyFault.TheVariants.{NoMemory as NoneLeft, TooManyPatterns as ManyPatterns, TooManyStates as ManyStates}
use Rattle.aa_redundancy.specs.declared.fault.Excess.{Excess}
use Rattle.aa_redundancy.specs.declared.fault.Excess.TheVariants.{Patterns, States}

-- by why the patterns have no automaton
abbrev pub fault_of : BuildFault → RedundancyFault
fault_of NoMemory = NoneLeft
fault_of TooManyStates = ManyStates

-- the patterns are too many, or need more states than the limit, unless memory ran out
abbrev pub IsFaultOf : List Pattern → ℕ → RedundancyFault → Type 0
IsFaultOf patterns limit NoneLeft = Unit {0}
IsFaultOf patterns limit ManyPatterns = most_patterns < length patterns
IsFaultOf patterns limit ManyStates = HasPlaces patterns (limit + 1)

-- the rules of a profile on files, or those on changes of the profile
abbrev pub IsFaultIn : Profile → ℕ → RedundancyFault → Type 0
IsFaultIn p limit e = IsFaultOf (patterns_of p.files) limit e ⊎ IsFaultOf (change_patterns p.changes) limit e

-- the rules of a profile on files, or those on changes of the profile, have too much of this
abbrev pub Exceeds : Profile → ℕ → Excess → Type 0
Exceeds p limit Patterns = IsFaultIn p limit ManyPatterns
Exceeds p limit States = IsFaultIn p limit ManyStates

-- why the rules of a profile can't be told, where that isn't want of memory
abbrev pub fault_by : Excess → RedundancyFault
fault_by Patterns = ManyPatterns
fault_by States = ManyStates
