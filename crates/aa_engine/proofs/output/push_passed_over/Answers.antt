use Rattle.aa_engine.specs.Output.{passed_over_line}
use Rattle.aa_engine.proofs.Writing.{five}
use Rattle.aa_engine.proofs.output.push_passed_over.Goals as goal

pub returns : goal.returns
unfolding passed_over_line
returns c =
    five _ _ _ _ _ _ _ _ _ _ _ c.in_ok-push_str.ensures.bytes (rw c.name_of_profile.ensures at c.in_ok-push_value.ensures) c.in_ok-push_str-2.ensures.bytes
    (rw c.as_slice.ensures at c.in_ok-push_keyword.ensures) c.in_ok-push_str-3.ensures.bytes
