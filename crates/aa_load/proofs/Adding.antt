-- Units that are added one after another, and the first that is refused.
use Rattle.std.proofs.Common.{◌≡◌, ℕ, ◌+◌, ◌<◌, ◌≤◌, List, [], ◌∷◌, ◌++◌, length, take, drop, get_or, ap, sym, subst, ◌∙◌, refl, Some, None, ◌⊎◌, inl, inr, arith}
use Rattle.aa_load.specs.Rows.{Rows}
use Rattle.aa_explain.specs.Places.{PlacesData}
use Rattle.std.proofs.lemmas.List.{take_more, take_all}
use Rattle.aa_load.specs.declared.texts.Texts.{Texts}
use Rattle.aa_load.specs.declared.fault.LoadingFault.{LoadingFault}
use Rattle.aa_load.specs.Joining.{JoinedData, nothing, Adds, Joins}
use Rattle.aa_load.specs.Refused.{IsTold, IsUnjoined, IsRefusedAt, IsFirstRefused}
use Rattle.aa_model.specs.declared.policy.Policy.{Policy}
use Rattle.aa_load.specs.declared.join_fault.JoinFault.{JoinFault}
use Rattle.aa_load.specs.declared.join_fault.JoinFault.TheVariants.{NoMemory}
use Rattle.aa_load.specs.Joined.{rows_of}
use Rattle.aa_load.specs.Faults.{fault_of}
use Rattle.aa_load.proofs.Cuts.{cut_at, as_many}

joins_more : (number : ℕ) (j k l : JoinedData) (us : List Texts) (u : Texts) → Joins number j us k → Adds (number + length us) u k l → Joins number j (us ++ u ∷ []) l
joins_more number j k l [] u joins adds =
    let here : number + 0 ≡ number = omega arith in
    (l, subst (λ (x : JoinedData). Adds number u x l) joins (subst (λ (n : ℕ). Adds n u k l) here adds), refl)
joins_more number j k l (v ∷ vs) u joins adds =
    let here : number + length (v ∷ vs) ≡ (number + 1) + length vs = omega arith in
    (joins.0, joins.1, joins_more (number + 1) joins.0 k l vs u joins.2 (subst (λ (n : ℕ). Adds n u k l) here adds))

pub joins_next : (units : List Texts) (i : ℕ) (u : Texts) (k l : JoinedData) → i < length units → u ≡ get_or units i u
    → Adds i u k l → Joins 0 nothing (take i units) k → Joins 0 nothing (take (i + 1) units) l
joins_next units i u k l lt item adds joins =
    let here : i ≡ 0 + length (take i units) = omega (arith, as_many units i lt) in
    rw (take_more units i u lt, ← item) (joins_more 0 nothing k l (take i units) u joins (subst (λ (n : ℕ). Adds n u k l) here adds))

pub joins_all : (units : List Texts) (i : ℕ) (k : JoinedData) → length units ≤ i → Joins 0 nothing (take i units) k → Joins 0 nothing units k
joins_all units i k le joins = subst (λ (us : List Texts). Joins 0 nothing us k) (take_all i units le) joins

pub refused_there : (units : List Texts) (i : ℕ) (u : Texts) (k : JoinedData) (f : LoadingFault) → i < length units → u ≡ get_or units i u
    → IsRefusedAt i u k f → Joins 0 nothing (take i units) k → IsFirstRefused units f
refused_there units i u k f lt item refused joins = record {
  before = take i units;
  one = u;
  behind = drop (i + 1) units;
  are = cut_at units i u lt item;
  so_far = k;
  joined = joins;
  refused = subst (λ (n : ℕ). IsRefusedAt n u k f) (sym (as_many units i lt)) refused;
}

abbrev pub joined_data : Rows → List ℕ → List PlacesData → JoinedData
joined_data rows owners places = record { rows = rows; owners = owners; places = places }

pub same_data : (r s : Rows) (o p : List ℕ) (a b : List PlacesData) → r ≡ s → o ≡ p → a ≡ b → joined_data r o a ≡ joined_data s p b
same_data r s o p a b e f g = ap (λ (x : Rows). joined_data x o a) e ∙ ap (λ (x : List ℕ). joined_data s x a) f ∙ ap (λ (x : List PlacesData). joined_data s p x) g

-- what is said of a policy that can't be joined
pub unjoined : (number : ℕ) (j : JoinedData) (policy : Policy) (places : List PlacesData) (why : JoinFault) (f : LoadingFault)
    → (fault_of j.rows (rows_of policy) ≡ Some why) ⊎ ((why ≡ NoMemory) × (fault_of j.rows (rows_of policy) ≡ None))
    → IsTold number j.owners j.places places why f → IsUnjoined number j policy places f
unjoined number j policy places why f (inl is) told = (why, is, told)
unjoined number j policy places why f (inr none) told = absurd (subst (λ (w : JoinFault). IsTold number j.owners j.places places w f) none.0 told)
