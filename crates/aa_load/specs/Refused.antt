-- Why units are no policy.
-- Source: own.
use Rattle.std.specs.Prelude.{ℕ, ◌≡◌, ◌⊎◌, List, ◌∷◌, ◌++◌, length, Some, option_map, slice_get}
use Rattle.aa_base.specs.declared.fault.PolicyFault.{PolicyFault}
use Rattle.aa_model.specs.declared.policy.Policy.{Policy}
use Rattle.aa_compile.specs.Checks.{IsRefused}
use Rattle.aa_load.specs.declared.join_fault.Repeated.{Repeated}
use Rattle.aa_load.specs.declared.join_fault.JoinFault.{JoinFault}
use Rattle.aa_load.specs.declared.join_fault.JoinFault.TheVariants as join
use Rattle.aa_load.specs.Joined.{rows_of}
use Rattle.aa_load.specs.Faults.{fault_of}
use Rattle.aa_explain.specs.Places.{PlacesData}
use Rattle.aa_load.specs.declared.texts.Texts.{Texts}
use Rattle.aa_load.specs.declared.fault.RepeatedName.{RepeatedName}
use Rattle.aa_load.specs.declared.fault.LoadingFault.{LoadingFault}
use Rattle.aa_load.specs.declared.fault.LoadingFault.TheVariants as fault
use Rattle.aa_load.specs.Spelled.{IsRead, IsUnread, AreGood, IsRefusedAlone}
use Rattle.aa_load.specs.Joining.{JoinedData, nothing, Joins}

-- two profiles of one name, each with the number of its unit and where its name stands there: the earlier is one that was joined
pub record TellsBoth (number : ℕ) (owners : List ℕ) (before places : List PlacesData) (r : Repeated) (t : RepeatedName) : Type 0 where
  pub number_is : t.number ≡ number
  pub stands : option_map (λ (p : PlacesData). p.at) (slice_get places r.later) ≡ Some t.at
  pub earlier_is : slice_get owners r.earlier ≡ Some t.earlier
  pub earlier_stands : option_map (λ (p : PlacesData). p.at) (slice_get before r.earlier) ≡ Some t.earlier_at

-- what is said of the unit of that number, whose policy can't be joined
abbrev pub IsTold : ℕ → List ℕ → List PlacesData → List PlacesData → JoinFault → LoadingFault → Type 0
IsTold number owners before places (join.DuplicateProfile r) f = (t : RepeatedName) × TellsBoth number owners before places r t × (f ≡ fault.Repeated t)
IsTold number owners before places join.TooLarge f = f ≡ fault.TooLarge number
IsTold number owners before places join.NoMemory f = ⊥

-- why its policy can't be joined to what was: a name that was joined before, or else a limit
abbrev pub IsUnjoined : ℕ → JoinedData → Policy → List PlacesData → LoadingFault → Type 0
IsUnjoined number j policy places f = (why : JoinFault) × (fault_of j.rows (rows_of policy) ≡ Some why) × IsTold number j.owners j.places places why f

-- why the unit of that number is refused: it spells no policy, or one that can't be joined
pub data IsRefusedAt (number : ℕ) (u : Texts) (j : JoinedData) (f : LoadingFault) : Type 0 where
  Unspelled : (e : PolicyFault) → f ≡ fault.OfTexts number e → IsUnread u e → IsRefusedAt number u j f
  Unjoined : (policy : Policy) (places : List PlacesData) → IsRead u policy places → IsUnjoined number j policy places f → IsRefusedAt number u j f

-- of these units it is the first that is refused, behind what those before it become
pub record IsFirstRefused (units : List Texts) (f : LoadingFault) : Type 0 where
  pub before : List Texts
  pub one : Texts
  pub behind : List Texts
  pub are : units ≡ before ++ one ∷ behind
  pub so_far : JoinedData
  pub joined : Joins 0 nothing before so_far
  pub refused : IsRefusedAt (length before) one so_far f

-- of these units it is the first that is refused by itself
pub record IsFirstAlone (limit : ℕ) (units : List Texts) (f : LoadingFault) : Type 0 where
  pub before : List Texts
  pub one : Texts
  pub behind : List Texts
  pub are : units ≡ before ++ one ∷ behind
  pub good : AreGood limit before
  pub cause : PolicyFault
  pub fault_is : f ≡ fault.OfTexts (length before) cause
  pub refused : IsRefusedAlone limit one cause

-- the units can be joined, but what they become is refused so
pub record IsUncompiled (limit : ℕ) (units : List Texts) (e : PolicyFault) : Type 0 where
  pub policy : Policy
  pub so_far : JoinedData
  pub joined : Joins 0 nothing units so_far
  pub rows_are : so_far.rows ≡ rows_of policy
  pub refused : IsRefused policy.profiles limit e

-- what is said where they are: the fault of the first that is refused by itself, or else that of all together
abbrev pub IsBlamed : ℕ → List Texts → PolicyFault → LoadingFault → Type 0
IsBlamed limit units e f = IsFirstAlone limit units f ⊎ (AreGood limit units × (f ≡ fault.Together e))

-- why units are no policy: the first that can't be joined, or else what they become doesn't compile
pub data IsRefusedBy (limit : ℕ) (units : List Texts) (f : LoadingFault) : Type 0 where
  AtUnit : IsFirstRefused units f → IsRefusedBy limit units f
  OfAll : (e : PolicyFault) → IsUncompiled limit units e → IsBlamed limit units e f → IsRefusedBy limit units f
