-- Parts one after another, and the lists that name them.
-- Source: own.
use Rattle.std.specs.Prelude.{ℕ, ◌≡◌, ◌<◌, List, [], ◌∷◌, flat_map, length, is_some, Option, Some, None}
use Rattle.aa_files.specs.Texts.{texts}
use Rattle.aa_logs.specs.LogLines.{LogLine}
use Rattle.aa_log.specs.Limits.{most_requests}
use Rattle.aa_merge.specs.declared.adding.Merging.{Merging}
use Rattle.aa_merge.specs.declared.names.Names.{Names}
use Rattle.aa_merge.specs.declared.fault.PartFault.{PartFault}
use Rattle.aa_merge.specs.declared.fault.PartFault.TheVariants.{NoMemory, NotJson, NotAReport, Answered, Unlike, TooMany}
use Rattle.aa_merge.specs.Held.{AreRows, IsSaidAs}
use Rattle.aa_merge.specs.Parts.{Report, all_merged, merged}

-- what the parts so far say together, with their requests found by their keys
pub record IsHeld (r : Report) (m : Merging) : Type 0 where
  pub said : IsSaidAs r (texts m.paths.items) m.said
  pub rows : AreRows r.requests (texts m.paths.items) m.said.report.entries.items m.numbers

-- reports list each line that asks nothing, or neither does; and likewise with lines that are left out
abbrev pub AreAlike : Report → Report → Type 0
AreAlike a b = (is_some a.each ≡ is_some b.each) × (is_some a.left_out ≡ is_some b.left_out)

-- why a report isn't added to others: it is unlike them, or there are more than 1,000,000 requests
abbrev pub IsNotAdded : Report → Report → PartFault → Type 0
IsNotAdded before r NoMemory = Unit {0}
IsNotAdded before r NotJson = ⊥
IsNotAdded before r (NotAReport m) = ⊥
IsNotAdded before r Answered = ⊥
IsNotAdded before r (Unlike m) = ¬ AreAlike before r
IsNotAdded before r TooMany = most_requests < length (merged before r).requests

-- what reports say together, where there are some
abbrev pub together : List Report → Option Report
together [] = None
together (r ∷ rs) = Some (all_merged r rs)

-- the paths that a line of a list names: one, unless the line is empty
abbrev pub named_by : List ℕ → List (List ℕ)
named_by [] = []
named_by (b ∷ bs) = (b ∷ bs) ∷ []

-- those of all lines
abbrev pub names_of : List LogLine → List (List ℕ)
names_of ls = flat_map (λ (l : LogLine). named_by l.bytes) ls

-- these are the paths that lines name
abbrev pub AreNames : Names → List LogLine → Type 0
AreNames n ls = texts n.paths.items ≡ names_of ls
