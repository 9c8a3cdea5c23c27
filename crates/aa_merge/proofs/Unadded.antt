-- Why a report isn't added to others, by the part of it that isn't.
use Rattle.std.proofs.Common.{◌≡◌, ◌<◌, length}
use Rattle.std.specs.Prelude.{is_some}
use Rattle.aa_log.specs.Limits.{most_requests}
use Rattle.aa_log.specs.Joined.{joined}
use Rattle.aa_merge.specs.declared.fault.PartFault.{PartFault}
use Rattle.aa_merge.specs.declared.fault.PartFault.TheVariants.{NoMemory, NotJson, NotAReport, Answered, Unlike, TooMany}
use Rattle.aa_merge.specs.Faults.{IsTooMany, IsUnlike}
use Rattle.aa_merge.specs.Parts.{Report, asking_key, merged}
use Rattle.aa_merge.specs.Wholes.{IsNotAdded}

pub not_left_out : (r p : Report) (e : PartFault) → IsUnlike e (¬ (is_some r.left_out ≡ is_some p.left_out)) → IsNotAdded r p e
not_left_out r p NoMemory h = tt
not_left_out r p NotJson h = absurd h
not_left_out r p (NotAReport m) h = absurd h
not_left_out r p Answered h = absurd h
not_left_out r p (Unlike m) h = λ alike. h alike.1
not_left_out r p TooMany h = absurd h

pub not_each : (r p : Report) (e : PartFault) → IsUnlike e (¬ (is_some r.each ≡ is_some p.each)) → IsNotAdded r p e
not_each r p NoMemory h = tt
not_each r p NotJson h = absurd h
not_each r p (NotAReport m) h = absurd h
not_each r p Answered h = absurd h
not_each r p (Unlike m) h = λ alike. h alike.0
not_each r p TooMany h = absurd h

pub no_room : (r p : Report) (e : PartFault) → IsTooMany e (most_requests < length (joined asking_key r.requests p.requests)) → IsNotAdded r p e
unfolding merged
no_room r p NoMemory h = tt
no_room r p NotJson h = absurd h
no_room r p (NotAReport m) h = absurd h
no_room r p Answered h = absurd h
no_room r p (Unlike m) h = absurd h
no_room r p TooMany h = h
