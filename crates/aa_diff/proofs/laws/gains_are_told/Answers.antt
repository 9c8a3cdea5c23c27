use Rattle.aa_diff.proofs.Gaining.{gains_are_gained, gains_are_printed, gains_are_told}
use Rattle.aa_diff.proofs.laws.gains_are_told.Goals as goal

pub returns : goal.returns
returns c = record { gained = gains_are_gained; printed = gains_are_printed; told = gains_are_told }
