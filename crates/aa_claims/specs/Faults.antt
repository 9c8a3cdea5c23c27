-- Why claims aren't answered.
-- Source: own.
use Rattle.std.specs.Prelude.{◌≡◌, ℕ, List, [], ◌++◌, codes}
use Rattle.aa_text.specs.Visible.{all_visible}
use Rattle.aa_claims.specs.declared.fault.Wrong.{Wrong}
use Rattle.aa_claims.specs.declared.fault.Wrong.TheVariants as wrong
use Rattle.aa_claims.specs.declared.fault.ClaimFault.{ClaimFault}
use Rattle.aa_claims.specs.declared.fault.ClaimFault.TheVariants.{NoMemory, At}
use Rattle.aa_claims.specs.Words.{IsOpenAt}

-- a fault at a place is so, unless memory ran out
abbrev pub SaysAt : (ℕ → Wrong → Type 0) → ClaimFault → Type 0
SaysAt IsSo NoMemory = Unit {0}
SaysAt IsSo (At place fault) = IsSo place fault

-- behind a place of the text a quote isn't closed
abbrev pub SaysOpen : List ℕ → ℕ → ClaimFault → Type 0
SaysOpen text from e = SaysAt (λ at fault. (fault ≡ wrong.Open) × IsOpenAt text from at) e

-- with what begins that which is said of a claim
abbrev pub opening : Wrong → List ℕ
opening wrong.Open = codes "the quote isn't closed on this line"
opening wrong.NoClaim = codes "a claim begins with never or always"
opening wrong.Nothing = codes "what is claimed isn't said: a word of requests is wanted, as w:/etc/shadow or cap:sys_admin, or always enforced"
opening (wrong.NoRequest why) = codes "this is no request: "
opening wrong.NoPattern = codes "the path is no pattern"
opening wrong.NoClause = codes "in, except or to is wanted here"
opening wrong.Twice = codes "this clause stands in the claim before"
opening wrong.NotHere = codes "such a claim has no such clause"
opening wrong.NoName = codes "a name is wanted behind this word"
opening wrong.NoFrom = codes "from isn't said: behind these names those are wanted where a task begins"
opening wrong.NoLead = codes "to stands behind executions and changes of profile alone"
opening wrong.NoProfile = codes "no profile has such a name"
opening wrong.NoPath = codes "no path that can be asked for matches the pattern: nothing can break the claim"
opening wrong.Nobody = codes "the claim is about no profile: nothing can break it"
opening wrong.NoChange = codes "no profile has this name, so no change to it is granted: nothing can break the claim"
opening wrong.Elsewhere = codes "this leads to none of the labels behind to: nothing can break the claim"
opening wrong.Granted = codes "the claim is about tasks without a profile alone, which are granted this: nothing can break it"
opening wrong.There = codes "reach names no other label than that where a task begins: nothing can break the claim"
opening wrong.TooMany = codes "a file has at most 65,536 claims"

-- why it is no request, where that is wrong with it
abbrev pub reason : Wrong → List ℕ
reason (wrong.NoRequest why) = all_visible why.items
reason _ = []

-- what is said of a claim
abbrev pub sentence : Wrong → List ℕ
sentence fault = opening fault ++ reason fault
