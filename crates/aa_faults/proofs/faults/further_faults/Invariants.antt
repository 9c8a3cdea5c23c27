use Rattle.std.proofs.Common.{◌++◌, ◌-◌, List, length}
use Rattle.aa_files.specs.Texts.{slices}
use Rattle.aa_text.specs.declared.fault.FaultReport.{FaultReport}
use Rattle.aa_faults.specs.Further.{AreFurther}
use Rattle.aa_faults.proofs.faults.further_faults.Given as goal

-- what is told of the faults from here on goes behind what is told
abbrev pub invariant-faults : goal.invariant-faults
invariant-faults l = (others : List FaultReport) → AreFurther (slices l.folders) l.states (l.most - length l.told.items) l.unit l.fault others
    → AreFurther (slices l.folders) l.states l.most l.fn.unit l.fn.fault (l.told.items ++ others)

abbrev pub decreases-faults : goal.decreases-faults
decreases-faults l = l.most - length l.told.items
