-- Rows of marks that decide whether rules are redundant.
-- Source: own.
use Rattle.std.specs.Prelude.{◌≡◌, ℕ, List, Bool, false, Contains}
use Rattle.aa_compile.specs.Gathered.{picked}
use Rattle.aa_redundancy.specs.declared.marks.RuleMark.{RuleMark}
use Rattle.aa_redundancy.specs.declared.saying.Saying.{Saying}
use Rattle.aa_redundancy.specs.declared.tables.Table.{Table}
use Rattle.aa_redundancy.specs.Marks.{said_by}

-- no rule is gone
abbrev pub none_gone : ℕ → Bool
none_gone n = false

-- a relation of what can be said
abbrev pub Relation : Type 1
Relation = Saying → Saying → Type 0

-- what the marks of a row say, of the owner and of others, when rules are gone is so related to what they say when others are
abbrev pub RowRelated : Relation → List RuleMark → (ℕ → Bool) → (ℕ → Bool) → List ℕ → Type 0
RowRelated R marks gone others row = (owned : Bool) → R (said_by gone owned (picked marks row)) (said_by others owned (picked marks row))

-- so is that of each row
abbrev pub RowsRelated : Relation → List RuleMark → (ℕ → Bool) → (ℕ → Bool) → List (List ℕ) → Type 0
RowsRelated R marks gone others rows = (row : List ℕ) → Contains rows row → RowRelated R marks gone others row

-- so in a table
abbrev pub TableRelated : Relation → Table → (ℕ → Bool) → (ℕ → Bool) → Type 0
TableRelated R t gone others = RowsRelated R t.marks.items gone others t.rows.items

-- so in each table
abbrev pub TablesRelated : Relation → List Table → (ℕ → Bool) → (ℕ → Bool) → Type 0
TablesRelated R ts gone others = (t : Table) → Contains ts t → TableRelated R t gone others

-- both are the same
abbrev pub Equal : Relation
Equal x y = x ≡ y

-- the marks of a row say the same, of the owner and of others, when rules are gone
abbrev pub SameRow : List RuleMark → (ℕ → Bool) → List ℕ → Type 0
SameRow marks gone row = RowRelated Equal marks gone none_gone row

-- so do those of each row
abbrev pub SameRows : List RuleMark → (ℕ → Bool) → List (List ℕ) → Type 0
SameRows marks gone rows = RowsRelated Equal marks gone none_gone rows

-- so in a table
abbrev pub SameTable : Table → (ℕ → Bool) → Type 0
SameTable t gone = TableRelated Equal t gone none_gone

-- so in each table
abbrev pub SameTables : List Table → (ℕ → Bool) → Type 0
SameTables ts gone = TablesRelated Equal ts gone none_gone

-- what a table says when rules are gone is so related to what it says when others are exactly where something else holds of both
pub record Decides (R : Relation) (t : Table) (Holds : (ℕ → Bool) → (ℕ → Bool) → Type 0) : Type 0 where
  pub same : (gone others : ℕ → Bool) → TableRelated R t gone others → Holds gone others
  pub told : (gone others : ℕ → Bool) → Holds gone others → TableRelated R t gone others

-- so in all of these tables
pub record AllDecide (R : Relation) (ts : List Table) (Holds : (ℕ → Bool) → (ℕ → Bool) → Type 0) : Type 0 where
  pub same : (gone others : ℕ → Bool) → TablesRelated R ts gone others → Holds gone others
  pub told : (gone others : ℕ → Bool) → Holds gone others → TablesRelated R ts gone others
