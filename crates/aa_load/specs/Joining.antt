-- Units that become one policy.
-- Source: own.
use Rattle.std.specs.Prelude.{ℕ, ◌≡◌, ◌+◌, List, [], ◌∷◌, ◌++◌, map, None}
use Rattle.aa_model.specs.declared.policy.Policy.{Policy}
use Rattle.aa_compile.specs.Checks.{IsAccepted}
use Rattle.aa_load.specs.Rows.{Rows, no_rows}
use Rattle.aa_load.specs.Joined.{rows_of, joined}
use Rattle.aa_load.specs.Faults.{fault_of}
use Rattle.aa_explain.specs.Places.{PlacesData}
use Rattle.aa_load.specs.declared.texts.Texts.{Texts}
use Rattle.aa_load.specs.Spelled.{IsRead}

-- what was joined: the profiles, of each the number of its unit, and where it and its rules stand there
pub record JoinedData : Type 0 where
  pub rows : Rows
  pub owners : List ℕ
  pub places : List PlacesData

-- what is joined before the first policy
abbrev pub nothing : JoinedData
nothing = record { rows = no_rows; owners = []; places = [] }

-- the policy of the unit of that number, behind what was joined
abbrev pub added : ℕ → Policy → List PlacesData → JoinedData → JoinedData
added number policy places j = record {
  rows = joined j.rows (rows_of policy);
  owners = j.owners ++ map (λ _. number) places;
  places = j.places ++ places;
}

-- the unit of that number is added: it spells a policy, which can be joined to what was, and is
abbrev pub Adds : ℕ → Texts → JoinedData → JoinedData → Type 0
Adds number u j k = (policy : Policy) × (places : List PlacesData) × IsRead u policy places × (fault_of j.rows (rows_of policy) ≡ None) × (k ≡ added number policy places j)

-- units, of which the first has that number, are added one after another
abbrev pub Joins : ℕ → JoinedData → List Texts → JoinedData → Type 0
Joins number j [] k = k ≡ j
Joins number j (u ∷ us) k = (next : JoinedData) × Adds number u j next × Joins (number + 1) next us k

-- the units are one policy, which compiles
pub record IsOnePolicy (units : List Texts) (limit : ℕ) (owners : List ℕ) (places : List PlacesData) (policies : List Policy) : Type 0 where
  pub policy : Policy
  pub joined : Joins 0 nothing units (record { rows = rows_of policy; owners = owners; places = places })
  pub accepted : IsAccepted policy.profiles limit
  pub policies_are : policies ≡ policy ∷ []
