-- Tables of a walk that know all that a text needs.
use Rattle.std.specs.Prelude.{ℕ, ◌≡◌, List, [], ◌∷◌, length, Option, Some}
use Rattle.std.specs.Map.{lookup}
use Rattle.std.specs.Str.{bytes_eq}
use Rattle.std.specs.Borrow.{Bor}
use Rattle.aa_glob.specs.declared.summary.VariableSummary.{VariableSummary}
use Rattle.aa_glob.specs.Variables.{Variable, values_of}
use Rattle.aa_glob.specs.Pieces.{Piece, Plain, Use, Broken, pieces}
use Rattle.aa_glob.specs.Expansions.{outcome}
use Rattle.aa_glob.specs.Settled.{Settled, AreEnds}

-- names, with what is known of each variable
abbrev pub Table : Type 0
Table = List (Bor (List ℕ) × Option VariableSummary)

-- what a table has of a name
abbrev pub found : List ℕ → Table → Option (Option VariableSummary)
found name done = lookup (λ k. bytes_eq name k.now) done

-- a byte, or a variable that has a summary
abbrev pub IsKnown : Table → Piece → Type 0
IsKnown done (Plain b) = Unit {0}
IsKnown done (Use name) = (s : VariableSummary) × (found name done ≡ Some (Some s))
IsKnown done Broken = ⊥

-- all variables of these pieces are in the table
abbrev pub AreKnown : Table → List Piece → Type 0
AreKnown done [] = Unit {0}
AreKnown done (p ∷ ps) = IsKnown done p × AreKnown done ps

-- each piece of each text is known
abbrev pub AreTextsKnown : Table → List (List ℕ) → Type 0
AreTextsKnown done [] = Unit {0}
AreTextsKnown done (t ∷ ts) = AreKnown done (pieces t) × AreTextsKnown done ts

-- the summary of a variable that goes no deeper than that; what its values need has one too
pub record IsRight (depth : ℕ) (vars : List Variable) (done : Table) (name : List ℕ) (s : VariableSummary) : Type 0 where
  pub texts : Settled (outcome depth vars name) s.texts
  pub ends : (values : List (List ℕ)) → values_of vars name ≡ Some values → AreEnds vars 0 values s.ends.items
  pub closed : (values : List (List ℕ)) → values_of vars name ≡ Some values → AreTextsKnown done values

-- what the table says of a variable is right
abbrev pub AreRight : ℕ → List Variable → Table → Type 0
AreRight depth vars done = (name : List ℕ) (s : VariableSummary) → found name done ≡ Some (Some s) → IsRight depth vars done name s

-- The table of a text that was walked to its end. No variable lies deeper than the table has entries.
pub record IsWalked (vars : List Variable) (raw : List ℕ) (done : Table) : Type 0 where
  pub right : AreRight (length done) vars done
  pub known : AreKnown done (pieces raw)
