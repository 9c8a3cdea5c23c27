use Rattle.aa_round_trip_laws.proofs.Own.{own_lines}
use Rattle.aa_round_trip_laws.proofs.line_laws.own_lines_are_read.Goals as goal

pub returns : goal.returns
returns c = own_lines
