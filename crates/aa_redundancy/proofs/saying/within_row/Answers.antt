use Rattle.std.proofs.Common.{Bool, true, false}
use Rattle.aa_redundancy.proofs.saying.within_row.Goals as goal

by_owner : (P : Bool → Type 0) → P true → P false → (owned : Bool) → P owned
by_owner P t f true = t
by_owner P t f false = f

pub returns-then-not-of_owner-clause-differs : goal.returns-then-not-of_owner-clause-differs
returns-then-not-of_owner-clause-differs c = λ e s. c.within_saying-of_owner.ensures.differs c.if-not-of_owner.true (s true)

pub returns-clause-same : goal.returns-clause-same
returns-clause-same c = λ e. by_owner _ (c.within_saying-of_owner.ensures.same c.if-not-of_owner.false) (c.within_saying.ensures.same e)

pub returns-clause-differs : goal.returns-clause-differs
returns-clause-differs c = λ e s. c.within_saying.ensures.differs e (s false)
