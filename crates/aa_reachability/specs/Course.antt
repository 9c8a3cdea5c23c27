-- How a task goes on beside profiles that weren't read.
-- Source: own.
use Rattle.std.specs.Prelude.{◌≡◌, List, map, false, true}
use Rattle.std.specs.Borrow.{Bor}
use Rattle.aa_model.specs.declared.label.Label.{Label}
use Rattle.aa_model.specs.declared.request.Request.{Request}
use Rattle.aa_skipping.specs.declared.unread.Unread.{Unread}
use Rattle.aa_reachability.specs.declared.beside.Course.{Course}
use Rattle.aa_reachability.specs.Moves.{is_left_out}
use Rattle.aa_reachability.specs.Beside.{is_doubted, label_taken, is_sure, AreOpenings}

-- the profiles that are pointed to, file by file
abbrev pub unreads_of : List (Bor Unread) → List Unread
unreads_of unreads = map (λ (u : Bor Unread). u.now) unreads

-- the label of a task after a request
unfoldable pub label_on : Course → Label → Request → Label
label_on c l r = label_taken c.only_clean c.going.as_enforced c.going.policies.now (unreads_of c.unreads.now) l r

-- a label at which no request is doubted, as far as is told
abbrev pub IsSureOn : Course → Label → Type 0
IsSureOn c l = is_sure (unreads_of c.unreads.now) c.openings.now l ≡ true

-- the request isn't doubted
abbrev pub IsDecidedOn : Course → Label → Request → Type 0
IsDecidedOn c l r = is_doubted c.going.policies.now (unreads_of c.unreads.now) l r ≡ false

-- nor is it left out
abbrev pub IsTakenOn : Course → Label → Request → Type 0
IsTakenOn c l r = IsDecidedOn c l r × (is_left_out c.only_clean r ≡ false)

-- it is told rightly of labels whether a request may be doubted there
abbrev pub HasOpenings : Course → Type 0
HasOpenings c = AreOpenings c.going.policies.now (unreads_of c.unreads.now) c.openings.now
