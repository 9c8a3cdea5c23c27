use Rattle.std.proofs.Common.{◌≡◌, ◌++◌, Bool, All, length, map, drop}
use Rattle.aa_redundancy.specs.Tables.{Equal, TablesRelated}
use Rattle.aa_redundancy.specs.Covering.{Within}
use Rattle.aa_redundancy.specs.Plain.{positions_from}
use Rattle.aa_redundancy.specs.Reasons.{IsReason}
use Rattle.aa_redundancy.specs.Keeping.{KeepsNone}
use Rattle.aa_redundancy.proofs.reasons.reasons_by.Given as goal

abbrev pub invariant-loop-place : goal.invariant-loop-place
invariant-loop-place l = record {
  none : KeepsNone (length l.listed) l.beside;
  each : All (IsReason (TablesRelated Equal l.tables) (TablesRelated Within l.tables) (length l.listed)) l.reasons.items;
  places : map (λ r. r.place) l.reasons.items ++ positions_from (λ (b : Bool). b) l.place (drop l.place l.flags) ≡ positions_from (λ (b : Bool). b) 0 l.flags;
}
