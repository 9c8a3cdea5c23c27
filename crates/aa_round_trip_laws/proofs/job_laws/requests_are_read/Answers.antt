use Rattle.aa_round_trip_laws.proofs.Items.{requests}
use Rattle.aa_round_trip_laws.proofs.job_laws.requests_are_read.Goals as goal

pub returns : goal.returns
returns c = requests
