-- The texts on the way of a walk.
use Rattle.std.specs.Prelude.{ℕ, suc, ◌+◌, ◌≤◌, ◌≡◌, length, reverse, ◌⊎◌, false, List, [], ◌∷◌, map, Option, Some, None, Vec}
use Rattle.std.specs.Global.{Global}
use Rattle.aa_base.specs.declared.fault.PolicyKind.{PolicyKind}
use Rattle.aa_base.specs.declared.fault.PolicyKind.TheVariants.{VariableCircle}
use Rattle.aa_glob.specs.declared.summary.VariableSummary.{VariableSummary}
use Rattle.aa_glob.specs.declared.walk.Step.{Step}
use Rattle.aa_glob.specs.Variables.{Variable, values_of}
use Rattle.aa_glob.specs.Pieces.{Piece, Use, pieces_from}
use Rattle.aa_glob.specs.Expansions.{Outcome, Stops, Deeper, and_then, joined, in_turn, outcome, outcome_of, is_reserved}
use Rattle.aa_glob.specs.Known.{Table, found, AreKnown, AreTextsKnown, AreRight}

-- the walk stops at the fault, or it has no end
abbrev pub IsWalkFault : List Variable → List ℕ → PolicyKind → Type 0
IsWalkFault vars raw fault =
    ((depth : ℕ) × (outcome_of depth vars raw ≡ Stops fault)) ⊎ ((fault ≡ VariableCircle) × ((depth : ℕ) → outcome_of depth vars raw ≡ Deeper))

-- from some depth on the outcome is that fault
pub record Faults (of : ℕ → Outcome) (fault : PolicyKind) : Type 0 where
  pub from : ℕ
  pub stops : (depth : ℕ) → from ≤ depth → of depth ≡ Stops fault

-- what is before the rest comes to texts, so the whole stops or goes deeper where the rest does
pub record Passes (rest whole : ℕ → Outcome) : Type 0 where
  pub stops : (fault : PolicyKind) → Faults rest fault → Faults whole fault
  pub deeper : (depth : ℕ) → rest depth ≡ Deeper → whole depth ≡ Deeper

-- what the lists hold
abbrev pub items_of : List (Vec ℕ Global) → List (List ℕ)
items_of vs = map (λ v. v.items) vs

-- the pieces that a step has left
abbrev pub pieces_left : Step → List Piece
pieces_left f = pieces_from f.kept 0 f.rest.now

-- the outcome of what is left of a step
abbrev pub rest_of : List Variable → Step → ℕ → Outcome
rest_of vars f depth = and_then (joined (outcome depth vars) (pieces_left f)) (in_turn (outcome depth vars) (items_of f.later.now))

-- a step is what is left of the texts: all that is before comes to texts, and is known
pub record IsPart (vars : List Variable) (done : Table) (texts : List (List ℕ)) (f : Step) : Type 0 where
  pub passes : Passes (rest_of vars f) (λ depth. in_turn (outcome depth vars) texts)
  pub reads : AreKnown done (pieces_left f) → AreTextsKnown done (items_of f.later.now) → AreTextsKnown done texts

-- the variable comes next in the step, and has these values
pub record Calls (vars : List Variable) (f : Step) (name : List ℕ) (all : List (List ℕ)) : Type 0 where
  pub behind : List Piece
  pub next : pieces_left f ≡ Use name ∷ behind
  pub plain : is_reserved name ≡ false
  pub defined : values_of vars name ≡ Some all

-- each step on the way is what is left of the values of the variable that comes next in the one below, the lowest of the raw text
abbrev pub OnWay : List Variable → Table → List ℕ → Step → List Step → Type 0
OnWay vars done raw g [] = IsPart vars done (raw ∷ []) g
OnWay vars done raw g (f ∷ fs) = IsPart vars done (items_of g.all.now) g × Calls vars f g.name.now (items_of g.all.now) × OnWay vars done raw f fs

-- one of the steps but the lowest is a value of that variable; `own` is the name of the highest
abbrev pub IsAmong : List ℕ → List ℕ → List Step → Type 0
IsAmong name own [] = ⊥
IsAmong name own (f ∷ fs) = (own ≡ name) ⊎ IsAmong name f.name.now fs

-- the second table has all summaries' names that the first has
abbrev pub Grows : Table → Table → Type 0
Grows done more = (name : List ℕ) (s : VariableSummary) → found name done ≡ Some (Some s) → (t : VariableSummary) × (found name more ≡ Some (Some t))

-- the stack and the top of a walk, and its table: a variable without a summary is one on the way
pub record IsWalking (vars : List Variable) (raw : List ℕ) (stack : List Step) (top : Step) (done : Table) : Type 0 where
  pub way : (more : Table) → Grows done more → OnWay vars more raw top (reverse stack)
  pub right : (depth : ℕ) → length done ≤ depth + length stack → AreRight depth vars done
  pub open_names : (name : List ℕ) → found name done ≡ Some None → IsAmong name top.name.now (reverse stack)
  pub room : length stack ≤ length done

-- the bytes of texts, and their ends
abbrev pub bytes_of : List (List ℕ) → ℕ
bytes_of [] = 0
bytes_of (t ∷ ts) = suc (length t + bytes_of ts)

-- the number, where a name isn't in the table yet
abbrev pub unless_found : Option (Option VariableSummary) → ℕ → ℕ
unless_found (Some _) n = 0
unless_found None n = n

-- what the variables hold that the walk hasn't come to
abbrev pub unseen : List Variable → Table → ℕ
unseen [] done = 0
unseen (v ∷ vs) done = unless_found (found v.name done) (2 + bytes_of v.values) + unseen vs done

-- what is left of a text and of the values behind it
abbrev pub unread : Step → ℕ
unread f = length f.rest.now + bytes_of (items_of f.later.now)

-- how much is unread in all steps
abbrev pub unread_all : List Step → ℕ
unread_all [] = 0
unread_all (f ∷ fs) = suc (unread f + unread_all fs)

-- what the walk has still to read
abbrev pub walk_left : List Variable → Table → List Step → Step → ℕ
walk_left vars done stack top = unseen vars done + (unread_all stack + unread top)
