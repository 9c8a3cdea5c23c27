use Rattle.std.proofs.Common.{length}
use Rattle.aa_round_trip_laws.proofs.log_laws.log_jobs_are_read.Goals as goal

pub returns : goal.returns
returns c = λ units ps sources t lines states old new j loaded shared taken written few parts.
    c.printed_jobs_are_read.ensures units ps sources t.tasks.items states old new j loaded shared written (c.logs_ask_what_can_be_made.ensures (length ps) t lines taken) few parts
