-- The names of the profiles of units, one unit after another.
use Rattle.std.proofs.Common.{◌≡◌, ℕ, ◌+◌, ◌<◌, ◌≤◌, List, [], ◌∷◌, ◌++◌, length, take, drop, get_or, Bool, true, Vec, ap, sym, ◌∙◌}
use Rattle.std.specs.declared.alloc.Global.{Global}
use Rattle.std.specs.List.{AllZip}
use Rattle.std.proofs.lemmas.List.{take_more, take_all, drop_more, take-append-drop, map-append, length-map}
use Rattle.aa_base.specs.declared.fault.PolicyFault.{PolicyFault}
use Rattle.aa_model.specs.declared.policy.Policy.{Policy}
use Rattle.aa_model.specs.declared.policy.Profile.{Profile}
use Rattle.aa_model.specs.Lawful.{names_of}
use Rattle.aa_files.specs.Texts.{texts}
use Rattle.aa_files.specs.declared.unit.Unit as unit
use Rattle.aa_load.specs.UnitPolicy.{IsPolicyOfUnit, IsFaultOfUnit}
use Rattle.aa_notation.specs.Jobs.{is_policy_count}
use Rattle.aa_job.specs.Policies.{HaveNames, IsFirstRefused}

-- the name of one profile more
pub name_more : (profiles : List Profile) (i : ℕ) (p : Profile) (name : Vec ℕ Global) (names more : List (Vec ℕ Global)) → i < length profiles → p ≡ get_or profiles i p → name.items ≡ p.name → more ≡ names ++ name ∷ []
    → texts names ≡ names_of (take i profiles) → texts more ≡ names_of (take (i + 1) profiles)
name_more profiles i p name names more lt item is_name is_more are =
    ap texts is_more ∙ map-append (λ (v : Vec ℕ Global). v.items) names (name ∷ [])
    ∙ ap (λ (l : List (List ℕ)). l ++ name.items ∷ []) are ∙ ap (λ (n : List ℕ). names_of (take i profiles) ++ n ∷ []) is_name
    ∙ sym (ap names_of (take_more profiles i p lt ∙ ap (λ (q : Profile). take i profiles ++ q ∷ []) (sym item)) ∙ map-append (λ (q : Profile). q.name) (take i profiles) (p ∷ []))

pub names_all : (profiles : List Profile) (i : ℕ) (names : List (List ℕ)) → length profiles ≤ i → names ≡ names_of (take i profiles) → names ≡ names_of profiles
names_all profiles i names le are = are ∙ ap names_of (take_all i profiles le)

-- units whose profiles have names are policies
policies_named : (limit : ℕ) (us : List unit.Unit) (all : List (Vec (Vec ℕ Global) Global)) → HaveNames limit us all → (policies : List Policy) × AllZip (IsPolicyOfUnit limit) us policies
policies_named limit [] [] are = ([], tt)
policies_named limit [] (n ∷ ns) are = absurd are
policies_named limit (u ∷ us) [] are = absurd are
policies_named limit (u ∷ us) (n ∷ ns) are = let rest = policies_named limit us ns are.1 in (are.0.0 ∷ rest.0, (are.0.1, rest.1))

-- the unit behind those whose profiles have names is the first that is refused
pub refused_there : (limit : ℕ) (us : List unit.Unit) (i : ℕ) (u : unit.Unit) (all : List (Vec (Vec ℕ Global) Global)) (e : PolicyFault) → i < length us → u ≡ get_or us i u
    → HaveNames limit (take i us) all → IsFaultOfUnit limit u e → IsFirstRefused limit us u e
refused_there limit us i u all e lt item are why =
    let policies = policies_named limit (take i us) all are in
    record {
      before = take i us;
      behind = drop (i + 1) us;
      are = sym (take-append-drop i us) ∙ ap (λ (l : List unit.Unit). take i us ++ l) (drop_more us i u lt ∙ ap (λ (x : unit.Unit). x ∷ drop (i + 1) us) (sym item));
      policies = policies.0;
      compile = policies.1;
      fault = why;
    }

-- a job may have as many policies as there are paths
pub may_be_policies : (paths : List (Vec ℕ Global)) (b : Bool) → b ≡ is_policy_count (length paths) → b ≡ true → is_policy_count (length (texts paths)) ≡ true
may_be_policies paths b is so = ap is_policy_count (length-map paths (λ v. v.items)) ∙ sym is ∙ so
