-- The way on which a reading of a unit's main text first comes to a source.
-- Source: own.
use Rattle.std.specs.Prelude.{ℕ, zero, suc, ◌≡◌, ◌==◌, ◌&&◌, not, is_some, Bool, true, false, ◌≢◌, All, Contains, List, [], ◌∷◌, flat_map, Option, option_map, option_to_list, if◌then◌else◌}
use Rattle.std.specs.List.{list_any}
use Rattle.aa_words.specs.Includes.{included_name}
use Rattle.aa_words.specs.Found.{IncludeData, HasIncludes}
use Rattle.aa_files.specs.declared.unit.Unit as unit
use Rattle.aa_files.specs.Nodes.{source_of_node, text_of_node, node_named}
use Rattle.aa_files.specs.declared.trail.Step.{Step}

-- the step from one text to another by an include
abbrev pub step_to : ℕ → ℕ → ℕ → Step
step_to from byte to = record { to = to; from = from; byte = byte }

-- an include as a step from its text to the source that it opens, where something lies at one of its name's paths
abbrev pub step_of : unit.Unit → ℕ → IncludeData → Option Step
step_of u from i = option_map (step_to from i.byte) (node_named u (included_name i.text))

-- the steps that a text has, in order
pub record AreSteps (u : unit.Unit) (node : ℕ) (steps : List Step) : Type 0 where
  pub includes : List IncludeData
  pub of_text : HasIncludes (text_of_node u node) includes
  pub each : steps ≡ flat_map (λ i. option_to_list (step_of u node i)) includes

-- a source to which none of these steps leads
abbrev pub is_new : unit.Unit → List Step → ℕ → Bool
is_new u met node = is_some (source_of_node u node) && not (list_any (λ (s : Step). s.to == node) met)

-- How a text is read whose steps these are, and which steps into new sources were met then, the last one first: a step into a source
-- that is new is followed by the reading of that source, and every other is passed over.
pub data Reads (u : unit.Unit) : List Step → List Step → List Step → Type 0 where
  End : (met : List Step) → Reads u [] met met
  Again : (s : Step) (ss met last : List Step) → is_new u met s.to ≡ false → Reads u ss met last → Reads u (s ∷ ss) met last
  New : (s : Step) (ss inner met between last : List Step) → is_new u met s.to ≡ true → AreSteps u s.to inner → Reads u inner (s ∷ met) between → Reads u ss between last → Reads u (s ∷ ss) met last

-- the main text is read, and these are its steps into new sources, the last one first
pub record IsReading (u : unit.Unit) (met : List Step) : Type 0 where
  pub steps : List Step
  pub of_main : AreSteps u 0 steps
  pub reads : Reads u steps [] met

-- the steps that lead to a node, from the last one back to the main text
abbrev pub way_back : List Step → ℕ → List Step
way_back [] node = []
way_back (s ∷ met) node = if s.to == node then s ∷ way_back met s.from else way_back met node

-- the steps by which a reading of the main text first comes to a node, innermost first; none to the main text itself
abbrev pub IsTrail : unit.Unit → ℕ → List Step → Type 0
IsTrail u zero way = way ≡ []
IsTrail u (suc n) way = (met : List Step) × IsReading u met × (way ≡ way_back met (suc n))

-- one of the steps of its text
pub record IsStep (u : unit.Unit) (s : Step) : Type 0 where
  pub steps : List Step
  pub are : AreSteps u s.from steps
  pub has : Contains steps s

-- A way from the main text to a node, innermost first: each step leads to where the one before it was taken from, and no two lead to
-- one text.
abbrev pub IsWay : unit.Unit → ℕ → List Step → Type 0
IsWay u node [] = node ≡ 0
IsWay u node (s ∷ way) = (s.to ≡ node) × IsStep u s × IsWay u s.from way × All (λ (t : Step). t.to ≢ s.to) way
