use Rattle.aa_round_trip_laws.proofs.Making.{made}
use Rattle.aa_round_trip_laws.proofs.log_laws.logs_ask_what_can_be_made.Goals as goal

pub returns : goal.returns
returns c = made
