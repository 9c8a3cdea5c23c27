use Rattle.aa_round_trip_laws.proofs.Jobs.{jobs_read}
use Rattle.aa_round_trip_laws.proofs.job_laws.jobs_are_read.Goals as goal

pub returns : goal.returns
returns c = jobs_read
