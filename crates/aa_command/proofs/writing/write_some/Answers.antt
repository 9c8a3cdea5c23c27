use Rattle.aa_command.proofs.Streams.{kept_first}
use Rattle.aa_command.proofs.writing.write_some.Goals as goal

pub returns-in-Ok-clause-bytes : goal.returns-in-Ok-clause-bytes
returns-in-Ok-clause-bytes g c = kept_first _ _ _ _ c.loop.invariant c.in-Ok.ensures.bytes
