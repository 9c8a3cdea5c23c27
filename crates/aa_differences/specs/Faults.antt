-- Why differences at labels can't be told.
-- Source: own.
use Rattle.aa_representatives.specs.declared.fault.RepresentativesFault.{RepresentativesFault}
use Rattle.aa_representatives.specs.declared.fault.RepresentativesFault.TheVariants.{TooManyPatterns, TooManyStates}
use Rattle.aa_differences.specs.declared.comparison.Excess.{Excess}
use Rattle.aa_differences.specs.declared.comparison.Excess.TheVariants.{Patterns, States}

-- what there are no representatives for
abbrev pub fault_of : Excess → RepresentativesFault
fault_of Patterns = TooManyPatterns
fault_of States = TooManyStates
