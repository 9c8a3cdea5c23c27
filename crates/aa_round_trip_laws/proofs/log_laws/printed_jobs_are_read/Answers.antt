use Rattle.aa_round_trip_laws.proofs.Printing.{printed}
use Rattle.aa_round_trip_laws.proofs.log_laws.printed_jobs_are_read.Goals as goal

pub returns : goal.returns
returns c = printed c.jobs_are_read.ensures
