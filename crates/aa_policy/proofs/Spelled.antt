-- The policy that words spell is one alone, and keeps what every policy keeps.
use Rattle.std.proofs.Common.{◌≡◌, ℕ, ◌≤◌, List, [], ◌∷◌, ◌++◌, length, Bool, true, false, Option, Some, None, sym, ap, subst, ◌∙◌}
use Rattle.std.specs.Prelude.{codes, flat_map, ◌||◌, is_some, option_map, Result, Ok}
use Rattle.std.specs.Str.{bytes_eq}
use Rattle.std.specs.List.{All, AllByRecursion, AllZip, IsDistinct, list_any}
use Rattle.std.proofs.lemmas.List.{map-append}
use Rattle.std.proofs.lemmas.List.Elements.{All-from_recursion, recursion_from_All, length_all_zip}
use Rattle.std.specs.Cmp.Lexicographic.{nat_list_eq_equiv}
use Rattle.aa_base.specs.declared.fault.Spot.{Spot}
use Rattle.aa_base.specs.declared.fault.PolicyFault.{PolicyFault}
use Rattle.aa_base.specs.declared.fault.PolicyKind.{PolicyKind}
use Rattle.aa_words.specs.Splits.{WordData}
use Rattle.aa_pattern.specs.declared.pattern.Pattern.{Pattern}
use Rattle.aa_glob.specs.declared.sign.Token.{Token}
use Rattle.aa_glob.specs.Reading.{spelled}
use Rattle.aa_glob.specs.Variables.{Variable}
use Rattle.aa_glob.proofs.Depths.{expands_once}
use Rattle.aa_glob.proofs.Spellings.{tokens_decide_items}
use Rattle.aa_model.specs.declared.rule.ChangeRule.{ChangeRule}
use Rattle.aa_model.specs.declared.rule.Exec.{Exec}
use Rattle.aa_model.specs.declared.rule.FileRule.{FileRule}
use Rattle.aa_model.specs.declared.policy.Profile.{Profile}
use Rattle.aa_model.specs.declared.policy.Policy.{Policy}
use Rattle.aa_policy.specs.Expansion.{tokens_of, IsFirstRefused}
use Rattle.aa_policy.specs.Bodies.{ProfileData, IsPolicy, if_any}
use Rattle.aa_policy.specs.Heads.{AttachmentData}
use Rattle.aa_rules.specs.Reading.{FileData, NameData, ChangeData}
use Rattle.aa_model.specs.Lawful.{IsLawful, IsLawfulRule, IsWithinLimits, IsWithinCounts, file_patterns, has_exec, names_of}
use Rattle.aa_policy.specs.Sameness.{SamePatterns, SameIfAny, SameRule, SameChange, SameProfile, SamePolicy}
use Rattle.aa_policy.specs.Spelling.{Spells, IsRepeated, AttachesTo, Aims, MeansRule, MeansChange, MeansProfile, MeansProfiles, exec_meant, files_of, changes_of, paths_of, passed_over_from}
use Rattle.aa_policy.proofs.Attachments.{same_sum, same_attachments}
use Rattle.aa_policy.proofs.Expanded.{never_refused, expanded}
use Rattle.aa_policy.proofs.Kept.{IsKept, policy_kept}
use Rattle.aa_policy.proofs.LawfulModes.{IsLawfulFile}
use Rattle.aa_policy.proofs.Parents.{parents_first}
use Rattle.aa_policy.proofs.Profiles.{policy_once}
use Rattle.aa_policy.proofs.Meaning.{zip_join, zip_same, tree_expands}
use Rattle.aa_rules.proofs.Phrases.{false_true}
use Rattle.aa_policy.proofs.Keeping.{HasShortName, HasFewPatterns}

-- ---- what is written means one thing

same_ok : (a b : List (List Token)) → expanded a ≡ expanded b → a ≡ b
same_ok a b e = cc

same_patterns : (ps qs : List Pattern) → tokens_of ps ≡ tokens_of qs → SamePatterns ps qs
same_patterns [] [] e = tt
same_patterns [] (q ∷ qs) e = absurd cc
same_patterns (p ∷ ps) [] e = absurd cc
same_patterns (p ∷ ps) (q ∷ qs) e =
    (tokens_decide_items p.items.items q.items.items (let h : spelled p.items.items ≡ spelled q.items.items = cc in h), same_patterns ps qs (let h : tokens_of ps ≡ tokens_of qs = cc in h))

rule_once : (vars : List Variable) (f : FileData) (r s : FileRule) → MeansRule vars f r → MeansRule vars f s → SameRule r s
rule_once vars f r s a b = record {
  audit = a.audit_is ∙ sym b.audit_is;
  deny = a.deny_is ∙ sym b.deny_is;
  owner = a.owner_is ∙ sym b.owner_is;
  perms = a.perms_are ∙ sym b.perms_are;
  exec = a.exec_is ∙ sym b.exec_is;
  patterns = same_patterns r.patterns s.patterns (same_ok (tokens_of r.patterns) (tokens_of s.patterns) (expands_once vars f.path (Ok (tokens_of r.patterns)) (Ok (tokens_of s.patterns)) a.stands b.stands));
}

attachments_once : (vars : List Variable) (a : Option AttachmentData) (ps qs : List Pattern) → AttachesTo vars a ps → AttachesTo vars a qs → SamePatterns ps qs
attachments_once vars None ps qs h k = rw (h, k) tt
attachments_once vars (Some a) ps qs h k =
    same_patterns ps qs (same_ok (tokens_of ps) (tokens_of qs) (expands_once vars a.path (Ok (tokens_of ps)) (Ok (tokens_of qs)) h k))

abbrev read : List Token → Result (List Token) PolicyKind
read ts = Ok ts

same_read : (a b : List Token) → read a ≡ read b → a ≡ b
same_read a b e = cc

aim_once : (n : Option NameData) (p q : Option Pattern) → Aims n p → Aims n q → SameIfAny p q
aim_once None None None h k = tt
aim_once None None (Some q) h k = absurd k
aim_once None (Some p) q h k = absurd h
aim_once (Some n) None q h k = absurd h
aim_once (Some n) (Some p) None h k = absurd k
aim_once (Some n) (Some p) (Some q) h k = tokens_decide_items p.items.items q.items.items (same_read (spelled p.items.items) (spelled q.items.items) (sym h ∙ k))

change_once : (c : ChangeData) (r s : ChangeRule) → MeansChange c r → MeansChange c s → SameChange r s
change_once c r s a b = record {
  audit = a.audit_is ∙ sym b.audit_is;
  deny = a.deny_is ∙ sym b.deny_is;
  pattern = aim_once c.name r.pattern s.pattern a.aims b.aims;
}

profile_once : (vars : List Variable) (d : ProfileData) (p q : Profile) → MeansProfile vars d p → MeansProfile vars d q → SameProfile p q
profile_once vars d p q a b = record {
  at = a.at_is ∙ sym b.at_is;
  name = a.name_is ∙ sym b.name_is;
  parent = a.parent_is ∙ sym b.parent_is;
  attachments = attachments_once vars d.attachment p.attachments q.attachments a.attaches b.attaches;
  complain = a.complain_is ∙ sym b.complain_is;
  audit = a.audit_is ∙ sym b.audit_is;
  files = zip_join (MeansRule vars) (MeansRule vars) SameRule (rule_once vars) (files_of d.rules) p.files q.files a.files_are b.files_are;
  caps = a.caps_are ∙ sym b.caps_are;
  nets = a.nets_are ∙ sym b.nets_are;
  changes = zip_join MeansChange MeansChange SameChange change_once (changes_of d.rules) p.changes q.changes a.changes_are b.changes_are;
}

pub moved : (u v : List Variable) (s t : List ProfileData) (ps : List Profile) → u ≡ v → s ≡ t → MeansProfiles u s ps → MeansProfiles v t ps
moved u v s t ps e h m = subst (λ (x : List Variable). MeansProfiles x t ps) e (subst (λ (x : List ProfileData). MeansProfiles u x ps) h m)

pub profiles_once : (ws : List WordData) (u v : List Variable) (s t : List ProfileData) (ps qs : List Profile)
    → IsPolicy ws u s → IsPolicy ws v t → MeansProfiles u s ps → MeansProfiles v t qs → AllZip SameProfile ps qs
profiles_once ws u v s t ps qs w x a b =
    let p = policy_once ws u v s t w x in
    zip_join (MeansProfile v) (MeansProfile v) SameProfile (profile_once v) t ps qs (moved u v s t ps p.0 p.1 a) b

-- ---- what is the same of profiles that are the same

pub same_names : (ps qs : List Profile) → AllZip SameProfile ps qs → names_of ps ≡ names_of qs
same_names ps qs h = zip_same SameProfile (λ p. p.name) (λ q. q.name) (λ p q s. s.name) ps qs h

same_count : (p q : Profile) → SameProfile p q → file_patterns p ≡ file_patterns q
same_count p q s = same_sum (λ r. length r.patterns) SameRule (λ r t h. length_all_zip _ r.patterns t.patterns h.patterns) p.files q.files s.files

same_all : (P : Profile → Type 0) → ((p q : Profile) → SameProfile p q → P p → P q) → (ps qs : List Profile) → AllZip SameProfile ps qs → AllByRecursion P ps → AllByRecursion P qs
same_all P f [] [] h a = tt
same_all P f [] (q ∷ qs) h a = absurd h
same_all P f (p ∷ ps) [] h a = absurd h
same_all P f (p ∷ ps) (q ∷ qs) h a = (f p q h.0 a.0, same_all P f ps qs h.1 a.1)

same_counts : (ps qs : List Profile) → AllZip SameProfile ps qs → IsWithinCounts ps → IsWithinCounts qs
same_counts ps qs h c = record {
  few = subst (λ (n : ℕ). n ≤ 4096) (length_all_zip SameProfile ps qs h) c.few;
  short_names = All-from_recursion HasShortName qs
      (same_all HasShortName (λ p q s. subst (λ (n : List ℕ). length n ≤ 1024) s.name) ps qs h (recursion_from_All HasShortName ps c.short_names));
  few_patterns = All-from_recursion HasFewPatterns qs
      (same_all HasFewPatterns (λ p q s. subst (λ (n : ℕ). n ≤ 65535) (same_count p q s)) ps qs h (recursion_from_All HasFewPatterns ps c.few_patterns));
}

pub same_limits : (ps qs : List Profile) → AllZip SameProfile ps qs → IsWithinLimits ps → IsWithinLimits qs
same_limits ps qs h l = record {
  counts = same_counts ps qs h l.counts;
  few_attachments = λ parent. subst (λ (n : ℕ). n ≤ 65535) (same_attachments parent ps qs h) (l.few_attachments parent);
}

-- ---- what every policy keeps

-- what holds of what is written holds of what it means
zip_both : {X Y : Type 0} (R : X → Y → Type 0) (P : X → Type 0) (Q : Y → Type 0) → ((x : X) (y : Y) → R x y → P x → Q y) → (xs : List X) (ys : List Y)
    → AllZip R xs ys → AllByRecursion P xs → AllByRecursion Q ys
zip_both R P Q f [] [] h a = tt
zip_both R P Q f [] (y ∷ ys) h a = absurd h
zip_both R P Q f (x ∷ xs) [] h a = absurd h
zip_both R P Q f (x ∷ xs) (y ∷ ys) h a = (f x y h.0 a.0, zip_both R P Q f xs ys h.1 a.1)

abbrev IsConfined : Profile → Type 0
IsConfined p = bytes_eq p.name (codes "unconfined") ≡ false

profile_confined : (vars : List Variable) (d : ProfileData) (p : Profile) → MeansProfile vars d p → IsKept d → IsConfined p
profile_confined vars d p m k = ap (λ (n : List ℕ). bytes_eq n (codes "unconfined")) m.name_is ∙ k.confined

rule_lawful : (vars : List Variable) (f : FileData) (r : FileRule) → MeansRule vars f r → IsLawfulFile f → IsLawfulRule r
rule_lawful vars f r m l =
    let said : is_some r.exec ≡ is_some (option_map exec_meant f.exec) = ap (λ (o : Option Exec). is_some o) m.exec_is in
    record { allowed = λ h. ap has_exec m.perms_are ∙ l.allowed (sym m.deny_is ∙ h) ∙ sym said; denied = λ h. said ∙ l.denied (sym m.deny_is ∙ h) }

abbrev HasLawfulRules : Profile → Type 0
HasLawfulRules p = All IsLawfulRule p.files

profile_lawful : (vars : List Variable) (d : ProfileData) (p : Profile) → MeansProfile vars d p → IsKept d → HasLawfulRules p
profile_lawful vars d p m k = All-from_recursion IsLawfulRule p.files (zip_both (MeansRule vars) IsLawfulFile IsLawfulRule (rule_lawful vars) (files_of d.rules) p.files m.files_are k.lawful)

-- what is written is lawful within the limits and with distinct names
pub lawful : (ws : List WordData) (vars : List Variable) (tree : List ProfileData) (ps : List Profile) → IsPolicy ws vars tree → MeansProfiles vars tree ps
    → IsDistinct bytes_eq (names_of ps) → IsWithinLimits ps → IsLawful ps
lawful ws vars tree ps w m d l =
    let kept = policy_kept ws vars tree w in
    let row = subst (λ (t : List ProfileData). MeansProfiles vars t ps) w.profiles_are m in
    record {
      limits = l;
      distinct = d;
      confined = All-from_recursion IsConfined ps (zip_both (MeansProfile vars) IsKept IsConfined (profile_confined vars) tree ps m kept);
      parents = parents_first vars (flat_map if_any w.items) ps row;
      rules = All-from_recursion HasLawfulRules ps (zip_both (MeansProfile vars) IsKept HasLawfulRules (profile_lawful vars) tree ps m kept);
    }

-- ---- what is refused is spelled by none

-- a path that doesn't expand
pub no_paths : (ws : List WordData) (vars : List Variable) (tree : List ProfileData) (e : PolicyFault) → IsPolicy ws vars tree → IsFirstRefused vars (paths_of tree) e → (p : Policy) → Spells ws p → ⊥
no_paths ws vars tree e w f p s =
    let o = policy_once ws s.vars vars s.tree tree s.written w in
    never_refused vars (paths_of tree) e (tree_expands vars tree p.profiles (moved s.vars vars s.tree tree p.profiles o.0 o.1 s.means)) f

-- words that are written wrong
pub no_policy : (ws : List WordData) → ((vars : List Variable) (tree : List ProfileData) → IsPolicy ws vars tree → ⊥) → (p : Policy) → Spells ws p → ⊥
no_policy ws h p s = h s.vars s.tree s.written

all_at : (P : List ℕ → Type 0) (xs : List (List ℕ)) (y : List ℕ) (ys : List (List ℕ)) → AllByRecursion P (xs ++ y ∷ ys) → P y
all_at P [] y ys a = a.0
all_at P (x ∷ xs) y ys a = all_at P xs y ys a.1

or_false : (a b : Bool) → a ≡ false → (a || b) ≡ true → b ≡ true
or_false true b f e = absurd cc
or_false false b f e = e

pub not_repeated : (xs : List (List ℕ)) (y : List ℕ) (ys : List (List ℕ)) → list_any (bytes_eq y) xs ≡ true → IsDistinct bytes_eq (xs ++ y ∷ ys) → ⊥
unfolding IsDistinct
not_repeated [] y ys h d = false_true h
not_repeated (x ∷ xs) y ys h d =
    let apart : bytes_eq x y ≡ false = all_at (λ z. bytes_eq x z ≡ false) xs y ys d.0 in
    not_repeated xs y ys (or_false (bytes_eq y x) (list_any (bytes_eq y) xs) (nat_list_eq_equiv.symm y x ∙ apart) h) d.1

-- a name that is there twice
pub no_names : (ws : List WordData) (vars : List Variable) (tree : List ProfileData) (profiles : List Profile) (at : Spot)
    → IsPolicy ws vars tree → MeansProfiles vars tree profiles → IsRepeated profiles at → (p : Policy) → Spells ws p → ⊥
no_names ws vars tree profiles at w m r p s =
    let cut : names_of profiles ≡ names_of r.before ++ r.profile.name ∷ names_of r.after = ap names_of r.cut ∙ map-append (λ (x : Profile). x.name) r.before (r.profile ∷ r.after) in
    let same = profiles_once ws s.vars vars s.tree tree p.profiles profiles s.written w s.means m in
    not_repeated (names_of r.before) r.profile.name (names_of r.after) r.repeats
    (subst (λ (ns : List (List ℕ)). IsDistinct bytes_eq ns) (same_names p.profiles profiles same ∙ cut) s.distinct)

-- a limit that is passed
pub no_limits : (ws : List WordData) (vars : List Variable) (tree : List ProfileData) (profiles : List Profile)
    → IsPolicy ws vars tree → MeansProfiles vars tree profiles → (IsWithinLimits profiles → ⊥) → (p : Policy) → Spells ws p → ⊥
no_limits ws vars tree profiles w m h p s =
    h (same_limits p.profiles profiles (profiles_once ws s.vars vars s.tree tree p.profiles profiles s.written w s.means m) s.limits)

-- ---- one policy alone

pub spells_once : (ws : List WordData) (p q : Policy) → Spells ws p → Spells ws q → SamePolicy p q
spells_once ws p q a b = record {
  profiles = profiles_once ws a.vars b.vars a.tree b.tree p.profiles q.profiles a.written b.written a.means b.means;
  passed_over = a.passed_over ∙ ap (passed_over_from 0) (policy_once ws a.vars b.vars a.tree b.tree a.written b.written).1 ∙ sym b.passed_over;
}
