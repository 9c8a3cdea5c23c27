-- What requests of a log are answered now.
-- Source: own.
use Rattle.std.specs.Prelude.{ℕ, List, Bool, true, false, not, ◌&&◌, codes, if◌then◌else◌}
use Rattle.aa_logs.specs.declared.line.Then.{Then}
use Rattle.aa_logs.specs.declared.line.Then.TheVariants as was
use Rattle.aa_logs.specs.declared.answer.Now.{Now}
use Rattle.aa_logs.specs.declared.answer.Now.TheVariants as is

-- how what became of a request is called
abbrev pub then_name : Then → List ℕ
then_name was.Denied = codes "DENIED"
then_name was.Allowed = codes "ALLOWED"
then_name was.Granted = codes "GRANTED"

-- the word of an answer
abbrev pub now_name : Now → List ℕ
now_name is.Denied = codes "DENIED"
now_name is.Allowed = codes "ALLOWED"
now_name is.Granted = codes "GRANTED"
now_name is.NoProfile = codes "NO-PROFILE"

-- denied, or granted: by complain mode alone, or by the rules
abbrev pub answered : Bool → Bool → Now
answered granted complain = if granted then (if complain then is.Allowed else is.Granted) else is.Denied

-- the answer is what it was
abbrev pub stays : Then → Now → Bool
stays was.Denied is.Denied = true
stays was.Allowed is.Allowed = true
stays was.Granted is.Granted = true
stays _ _ = false

-- the policy has the profile
abbrev pub is_answer : Now → Bool
is_answer is.NoProfile = false
is_answer _ = true

-- a profile that is there answers otherwise now
abbrev pub changes : Then → Now → Bool
changes before after = is_answer after && not (stays before after)

-- it is denied now and wasn't
abbrev pub is_newly_denied : Then → Now → Bool
is_newly_denied was.Denied after = false
is_newly_denied before is.Denied = true
is_newly_denied before after = false

-- the order in which what was and what is now are printed
abbrev pub row_of : Then → ℕ
row_of was.Denied = 0
row_of was.Allowed = 1
row_of was.Granted = 2

-- the column of an answer among the counts
abbrev pub column_of : Now → ℕ
column_of is.Denied = 0
column_of is.Allowed = 1
column_of is.Granted = 2
column_of is.NoProfile = 3
