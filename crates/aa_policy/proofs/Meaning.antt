-- What is written has one meaning.
use Rattle.std.proofs.Common.{◌≡◌, ℕ, suc, ◌+◌, ◌<◌, ◌≤◌, arith, List, [], ◌∷◌, ◌++◌, map, length, take, get_or, refl, ap, subst, ◌∙◌, Option, Some, None}
use Rattle.std.specs.Prelude.{flat_map}
use Rattle.std.specs.List.{AllByRecursion, AllZip}
use Rattle.std.proofs.lemmas.List.{map_more, append-nil, length-map}
use Rattle.std.proofs.lemmas.List.Concat.{flat_map-cons}
use Rattle.std.proofs.lemmas.Grind.{flat_map-append}
use Rattle.aa_pattern.specs.declared.pattern.Pattern.{Pattern}
use Rattle.aa_glob.specs.Variables.{Variable}
use Rattle.aa_model.specs.declared.rule.ChangeRule.{ChangeRule}
use Rattle.aa_model.specs.declared.rule.FileRule.{FileRule}
use Rattle.aa_model.specs.declared.policy.Profile.{Profile}
use Rattle.aa_rules.specs.declared.tree.RuleTree.{RuleTree}
use Rattle.aa_policy.specs.declared.tree.ProfileTree.{ProfileTree}
use Rattle.aa_glob.specs.Reading.{spelled}
use Rattle.aa_policy.specs.Expansion.{PathData, IsExpanding, alone, tokens_of}
use Rattle.aa_policy.specs.Bodies.{ProfileData, profile_data, tree_data}
use Rattle.aa_policy.specs.Heads.{AttachmentData}
use Rattle.aa_rules.specs.Reading.{NameData, RuleData, OnFile, OnCap, OnNet, OnChange, Listed, rule_data}
use Rattle.aa_policy.specs.Spelling.{AttachesTo, Aims, MeansRule, MeansChange, MeansProfile, MeansProfiles, on_file, files_of, on_change, changes_of}
use Rattle.aa_policy.specs.Spelling.{rule_paths, named_paths, change_paths, paths_of_rules, attachment_paths, profile_paths, paths_of}

-- ---- lists that are related element by element

pub zip_append : {X Y : Type 0} (R : X → Y → Type 0) (xs us : List X) (ys vs : List Y) → AllZip R xs ys → AllZip R us vs → AllZip R (xs ++ us) (ys ++ vs)
zip_append R [] us [] vs h k = k
zip_append R [] us (y ∷ ys) vs h k = absurd h
zip_append R (x ∷ xs) us [] vs h k = absurd h
zip_append R (x ∷ xs) us (y ∷ ys) vs h k = (h.0, zip_append R xs us ys vs h.1 k)

-- what is related to the same
pub zip_join : {X Y Z : Type 0} (R : X → Y → Type 0) (S : X → Z → Type 0) (T : Y → Z → Type 0) → ((x : X) (y : Y) (z : Z) → R x y → S x z → T y z)
    → (xs : List X) (ys : List Y) (zs : List Z) → AllZip R xs ys → AllZip S xs zs → AllZip T ys zs
zip_join R S T f [] [] [] h k = tt
zip_join R S T f [] [] (z ∷ zs) h k = absurd k
zip_join R S T f [] (y ∷ ys) zs h k = absurd h
zip_join R S T f (x ∷ xs) [] zs h k = absurd h
zip_join R S T f (x ∷ xs) (y ∷ ys) [] h k = absurd k
zip_join R S T f (x ∷ xs) (y ∷ ys) (z ∷ zs) h k = (f x y z h.0 k.0, zip_join R S T f xs ys zs h.1 k.1)

pub zip_long : {X Y : Type 0} (R : X → Y → Type 0) (xs : List X) (ys : List Y) → AllZip R xs ys → length xs ≡ length ys
zip_long R [] [] h = refl
zip_long R [] (y ∷ ys) h = absurd h
zip_long R (x ∷ xs) [] h = absurd h
zip_long R (x ∷ xs) (y ∷ ys) h = ap suc (zip_long R xs ys h.1)

-- what the others are alike in
pub zip_same : {X Y Z : Type 0} (R : X → Y → Type 0) (f : X → Z) (g : Y → Z) → ((x : X) (y : Y) → R x y → f x ≡ g y) → (xs : List X) (ys : List Y) → AllZip R xs ys → map f xs ≡ map g ys
zip_same R f g e [] [] h = refl
zip_same R f g e [] (y ∷ ys) h = absurd h
zip_same R f g e (x ∷ xs) [] h = absurd h
zip_same {X} {Y} {Z} R f g e (x ∷ xs) (y ∷ ys) h = ap (λ (z : Z). z ∷ map f xs) (e x y h.0) ∙ ap (λ (zs : List Z). g y ∷ zs) (zip_same R f g e xs ys h.1)

-- what then holds of each of the others
pub zip_all : {X Y : Type 0} (R : X → Y → Type 0) (P : Y → Type 0) → ((x : X) (y : Y) → R x y → P y) → (xs : List X) (ys : List Y) → AllZip R xs ys → AllByRecursion P ys
zip_all R P f [] [] h = tt
zip_all R P f [] (y ∷ ys) h = absurd h
zip_all R P f (x ∷ xs) [] h = absurd h
zip_all R P f (x ∷ xs) (y ∷ ys) h = (f x y h.0, zip_all R P f xs ys h.1)

-- ---- the rules of one kind in a body

more_rules : {Y : Type 0} (f : RuleData → List Y) (xs : List RuleTree) (i : ℕ) (d : RuleTree) → i < length xs
    → flat_map f (map rule_data (take (i + 1) xs)) ≡ flat_map f (map rule_data (take i xs)) ++ f (rule_data (get_or xs i d))
more_rules {Y} f xs i d h =
    ap (λ (rs : List RuleData). flat_map f rs) (map_more rule_data xs i d h) ∙ flat_map-append f (map rule_data (take i xs)) (rule_data (get_or xs i d) ∷ [])
    ∙ ap (λ (x : List Y). flat_map f (map rule_data (take i xs)) ++ x) (flat_map-cons f (rule_data (get_or xs i d)) [] ∙ append-nil (f (rule_data (get_or xs i d))))

pub rules_more : {Y Z : Type 0} (f : RuleData → List Y) (R : Y → Z → Type 0) (xs : List RuleTree) (i : ℕ) (d : RuleTree) (found new : List Z) → i < length xs
    → AllZip R (flat_map f (map rule_data (take i xs))) found
    → (rs : List Z) × (new ≡ found ++ rs) × AllZip R (f (rule_data (get_or xs i d))) rs
    → AllZip R (flat_map f (map rule_data (take (i + 1) xs))) new
rules_more f R xs i d found new h z p =
    rw (more_rules f xs i d h, p.1) (zip_append R (flat_map f (map rule_data (take i xs))) (f (rule_data (get_or xs i d))) found p.0 z p.2)

-- ---- the profiles

pub profiles_more : (vars : List Variable) (xs : List ProfileTree) (i : ℕ) (d : ProfileTree) (found : List Profile) (p : Profile) → i < length xs
    → MeansProfiles vars (map profile_data (take i xs)) found → MeansProfile vars (profile_data (get_or xs i d)) p → MeansProfiles vars (map profile_data (take (i + 1) xs)) (found ++ p ∷ [])
profiles_more vars xs i d found p h z m = rw (map_more profile_data xs i d h) (zip_append (MeansProfile vars) (map profile_data (take i xs)) (profile_data (get_or xs i d) ∷ []) found (p ∷ []) z (m, tt))

-- ---- what has a meaning expands

pub all_append : {X : Type 0} (P : X → Type 0) (xs ys : List X) → AllByRecursion P xs → AllByRecursion P ys → AllByRecursion P (xs ++ ys)
all_append P [] ys a b = b
all_append P (x ∷ xs) ys a b = (a.0, all_append P xs ys a.1 b)

pub rule_expands : (vars : List Variable) (r : RuleData) (rs : List FileRule) → AllZip (MeansRule vars) (on_file r) rs → AllByRecursion (IsExpanding vars) (rule_paths r)
rule_expands vars (OnFile f) [] z = absurd z
rule_expands vars (OnFile f) (r ∷ rs) z = ((tokens_of r.patterns, z.0.stands), tt)
rule_expands vars (OnCap rule) rs z = tt
rule_expands vars (OnNet rule) rs z = tt
rule_expands vars (OnChange c) rs z = tt
rule_expands vars (Listed keyword) rs z = tt

zip_cut : {X Y : Type 0} (R : X → Y → Type 0) (xs us : List X) (zs : List Y) → AllZip R (xs ++ us) zs → (ys : List Y) × (vs : List Y) × AllZip R xs ys × AllZip R us vs
zip_cut R [] us zs h = ([], zs, tt, h)
zip_cut R (x ∷ xs) us [] h = absurd h
zip_cut R (x ∷ xs) us (z ∷ zs) h = let c = zip_cut R xs us zs h.1 in (z ∷ c.0, c.1, (h.0, c.2), c.3)

each_expands : {Y Z : Type 0} (vars : List Variable) (f : RuleData → List Y) (paths : RuleData → List PathData) (R : Y → Z → Type 0)
    → ((r : RuleData) (zs : List Z) → AllZip R (f r) zs → AllByRecursion (IsExpanding vars) (paths r))
    → (rules : List RuleData) (zs : List Z) → AllZip R (flat_map f rules) zs → AllByRecursion (IsExpanding vars) (flat_map paths rules)
each_expands vars f paths R h [] zs z = tt
each_expands {Y} vars f paths R h (r ∷ rules) zs z =
    let c = zip_cut R (f r) (flat_map f rules) zs (subst (λ (xs : List Y). AllZip R xs zs) (flat_map-cons f r rules) z) in
    rw (flat_map-cons paths r rules) (all_append (IsExpanding vars) (paths r) (flat_map paths rules) (h r c.0 c.2) (each_expands vars f paths R h rules c.1 c.3))

pub rules_expand : (vars : List Variable) (rules : List RuleData) (fs : List FileRule) → AllZip (MeansRule vars) (files_of rules) fs → AllByRecursion (IsExpanding vars) (flat_map rule_paths rules)
rules_expand vars rules fs z = each_expands vars on_file rule_paths (MeansRule vars) (rule_expands vars) rules fs z

-- ---- rules on changes of profile

aim_expands : (vars : List Variable) (n : Option NameData) (p : Option Pattern) → Aims n p → AllByRecursion (IsExpanding vars) (named_paths n)
aim_expands vars None p h = tt
aim_expands vars (Some n) None h = absurd h
aim_expands vars (Some n) (Some p) h = ((spelled p.items.items ∷ [], ap alone h), tt)

pub change_expands : (vars : List Variable) (r : RuleData) (rs : List ChangeRule) → AllZip MeansChange (on_change r) rs → AllByRecursion (IsExpanding vars) (change_paths r)
change_expands vars (OnFile f) rs z = tt
change_expands vars (OnCap rule) rs z = tt
change_expands vars (OnNet rule) rs z = tt
change_expands vars (OnChange c) [] z = absurd z
change_expands vars (OnChange c) (r ∷ rs) z = aim_expands vars c.name r.pattern z.0.aims
change_expands vars (Listed keyword) rs z = tt

changes_expand : (vars : List Variable) (rules : List RuleData) (rs : List ChangeRule) → AllZip MeansChange (changes_of rules) rs → AllByRecursion (IsExpanding vars) (flat_map change_paths rules)
changes_expand vars rules rs z = each_expands vars on_change change_paths MeansChange (change_expands vars) rules rs z

-- ---- profiles

pub attachment_expands : (vars : List Variable) (a : Option AttachmentData) (ps : List Pattern) → AttachesTo vars a ps → AllByRecursion (IsExpanding vars) (attachment_paths a)
attachment_expands vars None ps h = tt
attachment_expands vars (Some a) ps h = ((tokens_of ps, h), tt)

pub rules_read : (vars : List Variable) (rules : List RuleData) (fs : List FileRule) (cs : List ChangeRule) → AllZip (MeansRule vars) (files_of rules) fs → AllZip MeansChange (changes_of rules) cs
    → AllByRecursion (IsExpanding vars) (paths_of_rules rules)
rules_read vars rules fs cs z y = all_append (IsExpanding vars) (flat_map rule_paths rules) (flat_map change_paths rules) (rules_expand vars rules fs z) (changes_expand vars rules cs y)

pub profile_expands : (vars : List Variable) (p : ProfileData) (q : Profile) → MeansProfile vars p q → AllByRecursion (IsExpanding vars) (profile_paths p)
profile_expands vars p q m =
    all_append (IsExpanding vars) (attachment_paths p.attachment) (paths_of_rules p.rules) (attachment_expands vars p.attachment q.attachments m.attaches) (rules_read vars p.rules q.files q.changes m.files_are m.changes_are)

pub tree_expands : (vars : List Variable) (tree : List ProfileData) (profiles : List Profile) → MeansProfiles vars tree profiles → AllByRecursion (IsExpanding vars) (paths_of tree)
tree_expands vars [] [] z = tt
tree_expands vars [] (q ∷ qs) z = absurd z
tree_expands vars (p ∷ ps) [] z = absurd z
tree_expands vars (p ∷ ps) (q ∷ qs) z =
    rw (flat_map-cons profile_paths p ps) (all_append (IsExpanding vars) (profile_paths p) (paths_of ps) (profile_expands vars p q z.0) (tree_expands vars ps qs z.1))

-- few profiles are written where they mean few
pub few_trees : (vars : List Variable) (trees : List ProfileTree) (profiles : List Profile) → MeansProfiles vars (tree_data trees) profiles → length profiles ≤ 4096 → length trees ≤ 65536
few_trees vars trees profiles m few =
    let one = length-map trees profile_data in
    let same = zip_long (MeansProfile vars) (tree_data trees) profiles m in
    omega (arith, one, same, few)
