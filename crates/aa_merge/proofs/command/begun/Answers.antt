use Rattle.std.proofs.Common.{subst}
use Rattle.std.specs.Prelude.{Option}
use Rattle.aa_merge.specs.declared.adding.Merging.{Merging}
use Rattle.aa_merge.specs.Command.{IsTogether}
use Rattle.aa_merge.specs.Held.{part_data}
use Rattle.aa_merge.proofs.Merged.{none_before, some_before}
use Rattle.aa_merge.proofs.command.begun.Goals as goal

pub returns-in-Some : goal.returns-in-Some
returns-in-Some c = λ rs h. some_before (part_data c.args.part.now) rs c.in-Some.merging (subst (λ (o : Option Merging). IsTogether rs o) c.in-Some.is h)

pub returns-in-None : goal.returns-in-None
returns-in-None c = λ rs h. none_before (part_data c.args.part.now) rs c.new.result c.new.ensures
    (subst (λ (o : Option Merging). IsTogether rs o) c.in-None.is h)
