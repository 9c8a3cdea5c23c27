use Rattle.std.proofs.Common.{◌≡◌, ap, Err}
use Rattle.aa_engine.specs.declared.tasks.MediateFault.{MediateFault}
use Rattle.aa_engine.specs.declared.tasks.MediateFault.TheVariants.{UnknownProfile}
use Rattle.aa_engine.proofs.engine.answered_text.Goals as goal

pub returns-in-Err-clause-unknown : goal.returns-in-Err-clause-unknown
returns-in-Err-clause-unknown g c = λ task e. let same : c.in-Err.fault ≡ UnknownProfile task = cc in (c.in-Err.ensures.unknown task).0 (ap (λ (f : MediateFault). Err f) same)
