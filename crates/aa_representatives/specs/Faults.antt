-- Why there are no representatives.
-- Source: own.
use Rattle.aa_auto.specs.declared.build.BuildFault.{BuildFault}
use Rattle.aa_auto.specs.declared.build.BuildFault.TheVariants.{NoMemory, TooManyStates}
use Rattle.aa_representatives.specs.declared.fault.RepresentativesFault.{RepresentativesFault}
use Rattle.aa_representatives.specs.declared.fault.RepresentativesFault.TheVariants.{NoMemory as NoneLeft, TooManyStates as ManyStates}

-- by why the patterns have no automaton
abbrev pub fault_of : BuildFault → RepresentativesFault
fault_of NoMemory = NoneLeft
fault_of TooManyStates = ManyStates
