-- Each fault of words is what they are refused with.
use Rattle.std.proofs.Common.{◌≡◌, ℕ, List, [], ◌∷◌, ◌++◌, Bool, true, false, refl, sym, ap, subst, ◌∙◌, ◌⊎◌, inl, inr}
use Rattle.std.specs.Prelude.{◌≢◌}
use Rattle.std.specs.List.{AllZip, IsDistinct, list_any}
use Rattle.std.specs.Str.{bytes_eq}
use Rattle.std.proofs.lemmas.List.{map-append}
use Rattle.aa_base.specs.declared.fault.Spot.{Spot}
use Rattle.aa_base.specs.declared.fault.PolicyFault.{PolicyFault}
use Rattle.aa_base.specs.declared.fault.PolicyKind.{PolicyKind}
use Rattle.aa_base.specs.declared.fault.PolicyKind.TheVariants.{NoMemory, Unsupported, DuplicateProfile, TooLarge}
use Rattle.aa_base.specs.Kinds.{no_memory, at_start}
use Rattle.aa_words.specs.declared.word.Word.{Word}
use Rattle.aa_words.specs.Splits.{WordData, words_data}
use Rattle.aa_glob.specs.Variables.{Variable}
use Rattle.aa_policy.specs.Preamble.{IsMisnamed, IsPreambleRefusal, is_preamble_fault, misnamed}
use Rattle.aa_policy.proofs.Refusals.{unless_wanting}
use Rattle.aa_rules.specs.Faults.{is_word_fault, IsPlaceIn}
use Rattle.aa_model.specs.declared.policy.Profile.{Profile}
use Rattle.aa_policy.specs.Bodies.{ProfileData, IsPolicy}
use Rattle.aa_policy.specs.Expansion.{IsFirstRefused}
use Rattle.aa_policy.specs.Faults.{IsPathRefusal, is_path_fault, is_parse_fault}
use Rattle.aa_model.specs.Lawful.{IsWithinLimits, names_of}
use Rattle.aa_policy.specs.Refusals.{IsStop, IsUnwritten, is_word_only, IsFault, SetTwice, NeverSet, AtPath, NamedTwice, PastLimits}
use Rattle.aa_policy.specs.Sameness.{SameProfile}
use Rattle.aa_policy.specs.Spelling.{IsPathFault, IsRepeated, MeansProfiles, paths_of}
use Rattle.aa_policy.proofs.Expanded.{first_once, never_refused, same_fault}
use Rattle.aa_policy.proofs.Meaning.{tree_expands}
use Rattle.aa_policy.proofs.Profiles.{policy_once}
use Rattle.aa_policy.proofs.Spelled.{moved, not_repeated, profiles_once, same_limits, same_names}
use Rattle.aa_rules.proofs.Phrases.{false_true}

-- ---- the first name that an earlier profile has is one alone

-- two elements stand at one place, or one of them stands before the other's
data Cut {X : Type 0} (R : X → X → Type 0) (xs ys : List X) (p q : X) : Type 0 where
  Level : R p q → Cut R xs ys p q
  Before : (us : List X) (r : X) (vs : List X) → ys ≡ us ++ r ∷ vs → AllZip R xs us → R p r → Cut R xs ys p q
  Behind : (us : List X) (r : X) (vs : List X) → xs ≡ us ++ r ∷ vs → AllZip R us ys → R r q → Cut R xs ys p q

cut_more : {X : Type 0} (R : X → X → Type 0) (x y : X) (xs ys : List X) (p q : X) → R x y → Cut R xs ys p q → Cut R (x ∷ xs) (y ∷ ys) p q
cut_more R x y xs ys p q h (Level r) = Level r
cut_more {X} R x y xs ys p q h (Before us r vs e z s) = Before (y ∷ us) r vs (ap (λ (l : List X). y ∷ l) e) (h, z) s
cut_more {X} R x y xs ys p q h (Behind us r vs e z s) = Behind (x ∷ us) r vs (ap (λ (l : List X). x ∷ l) e) (h, z) s

cut : {X : Type 0} (R : X → X → Type 0) (xs ys : List X) (p q : X) (us vs : List X) → AllZip R (xs ++ p ∷ us) (ys ++ q ∷ vs) → Cut R xs ys p q
cut R [] [] p q us vs z = Level z.0
cut R [] (y ∷ ys) p q us vs z = Before [] y ys refl tt z.0
cut R (x ∷ xs) [] p q us vs z = Behind [] x xs refl tt z.0
cut R (x ∷ xs) (y ∷ ys) p q us vs z = cut_more R x y xs ys p q z.0 (cut R xs ys p q us vs z.1)

-- a name that is among those before is not distinct from them
not_distinct : (before us : List Profile) (r : Profile) (vs : List Profile) (name : List ℕ) (names : List (List ℕ)) → before ≡ us ++ r ∷ vs → names ≡ names_of us → name ≡ r.name
    → list_any (bytes_eq name) names ≡ true → IsDistinct bytes_eq (names_of before) → ⊥
not_distinct before us r vs name names e n m h d =
    let there : list_any (bytes_eq r.name) (names_of us) ≡ true = subst (λ (x : List ℕ). list_any (bytes_eq x) (names_of us) ≡ true) m (subst (λ (xs : List (List ℕ)). list_any (bytes_eq name) xs ≡ true) n h) in
    let split : names_of before ≡ names_of us ++ r.name ∷ names_of vs = ap names_of e ∙ map-append (λ (x : Profile). x.name) us (r ∷ vs) in
    not_repeated (names_of us) r.name (names_of vs) there (subst (λ (ns : List (List ℕ)). IsDistinct bytes_eq ns) split d)

repeated_by : (ps qs : List Profile) (a b : Spot) (x : IsRepeated ps a) (y : IsRepeated qs b) → Cut SameProfile x.before y.before x.profile y.profile → a ≡ b
repeated_by ps qs a b x y (Level s) = sym x.at_is ∙ s.at ∙ y.at_is
repeated_by ps qs a b x y (Before us r vs e z s) = absurd (not_distinct y.before us r vs x.profile.name (names_of x.before) e (same_names x.before us z) s.name x.repeats y.first)
repeated_by ps qs a b x y (Behind us r vs e z s) = absurd (not_distinct x.before us r vs y.profile.name (names_of y.before) e (sym (same_names us y.before z)) (sym s.name) y.repeats x.first)

repeated_once : (ps qs : List Profile) (a b : Spot) → AllZip SameProfile ps qs → IsRepeated ps a → IsRepeated qs b → a ≡ b
repeated_once ps qs a b z x y =
    let w = subst (λ (l : List Profile). AllZip SameProfile l qs) x.cut z in
    let v = subst (λ (l : List Profile). AllZip SameProfile (x.before ++ x.profile ∷ x.after) l) y.cut w in
    repeated_by ps qs a b x y (cut SameProfile x.before y.before x.profile y.profile x.after y.after v)

-- a repeated name is no distinct one
not_both : (ps qs : List Profile) (at : Spot) → AllZip SameProfile ps qs → IsRepeated ps at → IsDistinct bytes_eq (names_of qs) → ⊥
not_both ps qs at z r d =
    not_distinct ps r.before r.profile r.after r.profile.name (names_of r.before) r.cut refl refl r.repeats
    (subst (λ (ns : List (List ℕ)). IsDistinct bytes_eq ns) (sym (same_names ps qs z)) d)

-- ---- at each end of the reading

abbrev Answer : PolicyFault → PolicyFault → Type 0
Answer e f = (e ≡ no_memory) ⊎ (e ≡ f)

answer_is : (e f g : PolicyFault) → g.kind ≡ f.kind → g.at ≡ f.at → Answer e g → Answer e f
answer_is e f g k a (inl h) = inl h
answer_is e f g k a (inr h) = inr (h ∙ same_fault g f k a)

abbrev pub IsNotMisnamed : List WordData → Type 0
IsNotMisnamed ws = (adds : Bool) (spot : Spot) → IsMisnamed adds ws spot → ⊥

-- where the words are written wrong
unwritten : (ws : List WordData) (e f : PolicyFault) (vars : List Variable) (tree : List ProfileData) → IsPolicy ws vars tree → IsUnwritten ws ⊎ (e ≡ no_memory) → Answer e f
unwritten ws e f vars tree w (inl u) = absurd (u vars tree w)
unwritten ws e f vars tree w (inr q) = inl q

pub exact_words : (ws : List WordData) (e f : PolicyFault) → IsPreambleRefusal e → (e.kind ≢ NoMemory → IsUnwritten ws)
    → ((adds : Bool) (spot : Spot) → IsMisnamed adds ws spot → Answer e (misnamed adds spot)) → IsFault ws f → Answer e f
exact_words ws e f c n m (SetTwice k t) = answer_is e f (misnamed false f.at) (sym k) refl (m false f.at t)
exact_words ws e f c n m (NeverSet k t) = answer_is e f (misnamed true f.at) (sym k) refl (m true f.at t)
exact_words ws e f c n m (AtPath p) = unwritten ws e f p.vars p.tree p.written (unless_wanting is_preamble_fault (IsUnwritten ws) e refl c n)
exact_words ws e f c n m (NamedTwice k d) = unwritten ws e f d.vars d.tree d.written (unless_wanting is_preamble_fault (IsUnwritten ws) e refl c n)
exact_words ws e f c n m (PastLimits k a o) = unwritten ws e f o.vars o.tree o.written (unless_wanting is_preamble_fault (IsUnwritten ws) e refl c n)

-- another reading is the same
first_here : (ws : List WordData) (vars : List Variable) (tree : List ProfileData) (f : PolicyFault) → IsPolicy ws vars tree → IsPathFault ws f → IsFirstRefused vars (paths_of tree) f
first_here ws vars tree f w p =
    let o = policy_once ws p.vars vars p.tree tree p.written w in
    subst (λ (t : List ProfileData). IsFirstRefused vars (paths_of t) f) o.1 (subst (λ (v : List Variable). IsFirstRefused v (paths_of p.tree) f) o.0 p.first)

means_here : (ws : List WordData) (u vars : List Variable) (t tree : List ProfileData) (ps : List Profile) → IsPolicy ws u t → IsPolicy ws vars tree → MeansProfiles u t ps → MeansProfiles vars tree ps
means_here ws u vars t tree ps x w m = let o = policy_once ws u vars t tree x w in moved u vars t tree ps o.0 o.1 m

-- where a path or a name is refused
first_is : (vars : List Variable) (tree : List ProfileData) (e f : PolicyFault) → IsFirstRefused vars (paths_of tree) f → IsFirstRefused vars (paths_of tree) e ⊎ (e ≡ no_memory) → Answer e f
first_is vars tree e f h (inl g) = inr (first_once vars (paths_of tree) e f g h)
first_is vars tree e f h (inr q) = inl q

expanding : (vars : List Variable) (tree : List ProfileData) (ps : List Profile) (e f : PolicyFault) → MeansProfiles vars tree ps → IsFirstRefused vars (paths_of tree) e ⊎ (e ≡ no_memory) → Answer e f
expanding vars tree ps e f m (inl g) = absurd (never_refused vars (paths_of tree) e (tree_expands vars tree ps m) g)
expanding vars tree ps e f m (inr q) = inl q

pub exact_paths : (ws : List WordData) (vars : List Variable) (tree : List ProfileData) (e f : PolicyFault) → IsPolicy ws vars tree → IsNotMisnamed ws
    → IsPathRefusal e → (e.kind ≢ NoMemory → IsFirstRefused vars (paths_of tree) e) → IsFault ws f → Answer e f
exact_paths ws vars tree e f w n c r (SetTwice k t) = absurd (n false f.at t)
exact_paths ws vars tree e f w n c r (NeverSet k t) = absurd (n true f.at t)
exact_paths ws vars tree e f w n c r (AtPath p) =
    first_is vars tree e f (first_here ws vars tree f w p) (unless_wanting is_path_fault (IsFirstRefused vars (paths_of tree) e) e refl c r)
exact_paths ws vars tree e f w n c r (NamedTwice k d) =
    expanding vars tree d.profiles e f (means_here ws d.vars vars d.tree tree d.profiles d.written w d.means) (unless_wanting is_path_fault (IsFirstRefused vars (paths_of tree) e) e refl c r)
exact_paths ws vars tree e f w n c r (PastLimits k a o) =
    expanding vars tree o.profiles e f (means_here ws o.vars vars o.tree tree o.profiles o.written w o.means) (unless_wanting is_path_fault (IsFirstRefused vars (paths_of tree) e) e refl c r)

-- where a name is an earlier profile's
pub exact_names : (ws : List WordData) (vars : List Variable) (tree : List ProfileData) (ps : List Profile) (e f : PolicyFault) → IsPolicy ws vars tree → IsNotMisnamed ws → MeansProfiles vars tree ps
    → (e ≡ no_memory) ⊎ ((e.kind ≡ DuplicateProfile) × IsRepeated ps e.at) → IsFault ws f → Answer e f
exact_names ws vars tree ps e f w n m (inl q) x = inl q
exact_names ws vars tree ps e f w n m (inr r) (SetTwice k t) = absurd (n false f.at t)
exact_names ws vars tree ps e f w n m (inr r) (NeverSet k t) = absurd (n true f.at t)
exact_names ws vars tree ps e f w n m (inr r) (AtPath p) = absurd (never_refused vars (paths_of tree) f (tree_expands vars tree ps m) (first_here ws vars tree f w p))
exact_names ws vars tree ps e f w n m (inr r) (NamedTwice k d) =
    inr (same_fault e f (r.0 ∙ sym k) (repeated_once ps d.profiles e.at f.at (profiles_once ws vars d.vars tree d.tree ps d.profiles w d.written m d.means) r.1 d.repeated))
exact_names ws vars tree ps e f w n m (inr r) (PastLimits k a o) =
    absurd (not_both ps o.profiles e.at (profiles_once ws vars o.vars tree o.tree ps o.profiles w o.written m o.means) r.1 o.distinct)

-- no fault is left where names are distinct but that of the limits
pub exact_limits : (ws : List WordData) (vars : List Variable) (tree : List ProfileData) (ps : List Profile) (f : PolicyFault) → IsPolicy ws vars tree → IsNotMisnamed ws → MeansProfiles vars tree ps
    → IsDistinct bytes_eq (names_of ps) → IsFault ws f → (at_start TooLarge ≡ f) × (IsWithinLimits ps → ⊥)
exact_limits ws vars tree ps f w n m d (SetTwice k t) = absurd (n false f.at t)
exact_limits ws vars tree ps f w n m d (NeverSet k t) = absurd (n true f.at t)
exact_limits ws vars tree ps f w n m d (AtPath p) = absurd (never_refused vars (paths_of tree) f (tree_expands vars tree ps m) (first_here ws vars tree f w p))
exact_limits ws vars tree ps f w n m d (NamedTwice k x) =
    absurd (not_both x.profiles ps f.at (profiles_once ws x.vars vars x.tree tree x.profiles ps x.written w x.means m) x.repeated d)
exact_limits ws vars tree ps f w n m d (PastLimits k a o) =
    (same_fault (at_start TooLarge) f (sym k) (sym a), λ l. o.over (same_limits ps o.profiles (profiles_once ws vars o.vars tree o.tree ps o.profiles w o.written m o.means) l))

-- ---- kinds

pub word_only : (kind : PolicyKind) → is_word_only kind ≡ true → kind ≢ NoMemory
word_only kind h = λ e. false_true (sym (ap is_word_only e) ∙ h)

pub unsupported : (kind : PolicyKind) → kind ≡ Unsupported → kind ≢ NoMemory
unsupported kind h = λ e. false_true (sym (ap is_word_fault e) ∙ ap is_word_fault h)

pub duplicate : (kind : PolicyKind) → kind ≡ DuplicateProfile → kind ≢ NoMemory
duplicate kind h = λ e. false_true (sym (ap is_parse_fault e) ∙ ap is_parse_fault h)

-- ---- where reading stops

pub stop_at : (words others : List Word) (end at : Spot) → words ≡ others → IsUnwritten (words_data words) → IsPlaceIn words end at → IsStop others end at
stop_at words others end at same none place = subst (λ (ws : List Word). IsStop ws end at) same (record { unwritten = none; place = place })
