-- Why it isn't told how many requests are granted.
-- Source: own.
use Rattle.aa_representatives.specs.declared.fault.RepresentativesFault.{RepresentativesFault}
use Rattle.aa_representatives.specs.declared.fault.RepresentativesFault.TheVariants as regions
use Rattle.aa_quantifiers.specs.declared.fault.QuantityFault.{QuantityFault}
use Rattle.aa_quantifiers.specs.declared.fault.QuantityFault.TheVariants.{NoMemory, TooManyPatterns, TooManyStates}

-- by why there are no regions
abbrev pub fault_of : RepresentativesFault → QuantityFault
fault_of regions.NoMemory = NoMemory
fault_of regions.TooManyPatterns = TooManyPatterns
fault_of regions.TooManyStates = TooManyStates
