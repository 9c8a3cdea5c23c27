use Rattle.aa_language_laws.proofs.Examples.{front, both, denied, mixed, plain, twice}
use Rattle.aa_language_laws.proofs.worked.worked_modes.Goals as goal

pub returns-clause-front : goal.returns-clause-front
returns-clause-front c = front

pub returns-clause-both : goal.returns-clause-both
returns-clause-both c = both

pub returns-clause-denied : goal.returns-clause-denied
returns-clause-denied c = denied

pub returns-clause-mixed : goal.returns-clause-mixed
returns-clause-mixed c = mixed

pub returns-clause-plain : goal.returns-clause-plain
returns-clause-plain c = plain

pub returns-clause-twice : goal.returns-clause-twice
returns-clause-twice c = twice
