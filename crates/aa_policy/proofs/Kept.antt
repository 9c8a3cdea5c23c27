-- What each profile of a policy keeps as it is written: its name is no word for no profile, and its file rules are lawful.
use Rattle.std.proofs.Common.{◌≡◌, ℕ, ◌+◌, List, [], ◌∷◌, ◌++◌, length, map, Bool, true, false, Option, Some, None, refl, sym, ap, subst, ◌∙◌, inl, inr}
use Rattle.std.specs.Prelude.{not, ◌&&◌, ◌||◌, ◌==◌, codes, flat_map}
use Rattle.std.specs.Str.{bytes_eq}
use Rattle.std.specs.List.{AllByRecursion, list_any}
use Rattle.std.proofs.Common.{append_assoc}
use Rattle.std.proofs.lemmas.List.Concat.{flat_map-cons}
use Rattle.std.proofs.lemmas.Slice.Eq.{bytes_eq-Decides}
use Rattle.aa_words.specs.Splits.{WordData}
use Rattle.aa_glob.specs.Variables.{Variable}
use Rattle.aa_policy.specs.Bodies.{ChildData, FamilyData, ProfileData, PartData, Stated, Held, IsStatement, IsChild, IsBodyPart, IsProfile, IsItem, IsPolicy, if_any, rules_in, children_in, child_name, child_profile, family, row_from}
use Rattle.aa_rules.specs.Grammar.{Production, Ending, Many, IsRule, Closes, IsEnd}
use Rattle.aa_policy.specs.Heads.{TitleData, IsTitle}
use Rattle.aa_rules.specs.Names.{is_full_name, is_right_name, is_plain_name}
use Rattle.aa_rules.specs.Reading.{RuleData, OnFile, OnCap, OnNet, OnChange, Listed}
use Rattle.aa_policy.specs.Spelling.{on_file, files_of}
use Rattle.aa_policy.proofs.LawfulModes.{IsLawfulFile, file_lawful}
use Rattle.aa_policy.proofs.Meaning.{all_append}
use Rattle.aa_rules.proofs.Phrases.{false_true}

-- ---- lists

-- what holds of each element that is read holds of all
many_all : {X : Type 0} (Is : Production X) (Ends : Ending) (P : X → Type 0) → ((ws : List WordData) (x : X) (rest : List WordData) → Is ws x rest → P x)
    → (ws : List WordData) (xs : List X) (rest : List WordData) → Many Is Ends ws xs rest → AllByRecursion P xs
many_all Is Ends P h ws [] rest m = tt
many_all Is Ends P h ws (x ∷ xs) rest m = (h ws x m.0 m.1, many_all Is Ends P h m.0 xs rest m.2)

-- of all that each gives
all_flat : {X Y : Type 0} (P : Y → Type 0) (f : X → List Y) (xs : List X) → AllByRecursion (λ x. AllByRecursion P (f x)) xs → AllByRecursion P (flat_map f xs)
all_flat P f [] a = tt
all_flat P f (x ∷ xs) a = rw (flat_map-cons f x xs) (all_append P (f x) (flat_map f xs) a.0 (all_flat P f xs a.1))

all_map : {X Y : Type 0} (P : Y → Type 0) (Q : X → Type 0) (f : X → Y) → ((x : X) → Q x → P (f x)) → (xs : List X) → AllByRecursion Q xs → AllByRecursion P (map f xs)
all_map P Q f h [] a = tt
all_map P Q f h (x ∷ xs) a = (h x a.0, all_map P Q f h xs a.1)

all_both : {X : Type 0} (P Q : X → Type 0) (xs : List X) → AllByRecursion (λ x. P x × Q x) xs → AllByRecursion P xs × AllByRecursion Q xs
all_both P Q [] a = (tt, tt)
all_both P Q (x ∷ xs) a = let r = all_both P Q xs a.1 in ((a.0.0, r.0), (a.0.1, r.1))

-- ---- names

last_and : (a b : Bool) → (a && b) ≡ true → b ≡ true
last_and true b e = e
last_and false b e = absurd cc

first_and : (a b : Bool) → (a && b) ≡ true → a ≡ true
first_and true b e = refl
first_and false b e = absurd cc

not_true : (b : Bool) → not b ≡ true → b ≡ false
not_true true e = absurd cc
not_true false e = refl

false_unless : (b : Bool) → (b ≡ true → ⊥) → b ≡ false
false_unless true h = absurd (h refl)
false_unless false h = refl

abbrev IsConfined : List ℕ → Type 0
IsConfined name = bytes_eq name (codes "unconfined") ≡ false

full_confined : (name : List ℕ) → is_full_name name ≡ true → IsConfined name
unfolding is_full_name
full_confined name e = not_true _ (first_and (not (bytes_eq name (codes "unconfined"))) _ e)

right_full : (name : List ℕ) → is_right_name true name ≡ true → is_full_name name ≡ true
unfolding is_right_name
right_full name e = last_and _ (is_full_name name) e

plain_right : (top : Bool) (name : List ℕ) → is_plain_name top name ≡ true → is_right_name top name ≡ true
unfolding is_plain_name
plain_right top name e = first_and (is_right_name top name) _ e

title_confined : (ws : List WordData) (title : TitleData) (rest : List WordData) → IsTitle true ws title rest → IsConfined title.name
title_confined ws title rest (inl a) = subst IsConfined (sym a.2.name_is) (full_confined a.2.name.text (right_full a.2.name.text (plain_right true a.2.name.text a.2.is_right)))
title_confined ws title rest (inr a) = subst IsConfined (sym a.name_is) (full_confined a.path.text (right_full a.path.text a.is_right))

or_true : (a b : Bool) → b ≡ true → (a || b) ≡ true
or_true true b e = refl
or_true false b e = e

has_slash : (xs ys : List ℕ) → list_any (λ b. b == 47) (xs ++ 47 ∷ ys) ≡ true
has_slash [] ys = refl
has_slash (x ∷ xs) ys = or_true (x == 47) (list_any (λ b. b == 47) (xs ++ 47 ∷ ys)) (has_slash xs ys)

child_confined : (parent name : List ℕ) → IsConfined (child_name parent name)
child_confined parent name = false_unless _ (λ e.
    let same : child_name parent name ≡ codes "unconfined" = (bytes_eq-Decides (child_name parent name) (codes "unconfined")).0 e in
    let none : list_any (λ b. b == 47) (codes "unconfined") ≡ false = refl in
    let two : child_name parent name ≡ parent ++ 47 ∷ 47 ∷ name = append_assoc parent (codes "//") name in
    false_true (sym none ∙ ap (list_any (λ b. b == 47)) (sym same ∙ two) ∙ has_slash parent (47 ∷ name)))

-- ---- rules

-- the file rules are lawful as they are written
abbrev pub AreLawful : List RuleData → Type 0
AreLawful rules = AllByRecursion IsLawfulFile (files_of rules)

abbrev RuleLawful : RuleData → Type 0
RuleLawful r = AllByRecursion IsLawfulFile (on_file r)

rule_lawful : (ws : List WordData) (r : RuleData) (rest : List WordData) → IsRule ws r rest → RuleLawful r
rule_lawful ws (OnFile f) rest i = (file_lawful i.qualifiers i.unqualified f i.after i.says, tt)
rule_lawful ws (OnCap rule) rest i = tt
rule_lawful ws (OnNet rule) rest i = tt
rule_lawful ws (OnChange c) rest i = tt
rule_lawful ws (Listed keyword) rest i = tt

statement_lawful : (ws : List WordData) (s : Option RuleData) (rest : List WordData) → IsStatement ws s rest → AllByRecursion RuleLawful (if_any s)
statement_lawful ws (Some r) rest i = (rule_lawful ws r rest i, tt)
statement_lawful ws None rest i = tt

abbrev ChildLawful : ChildData → Type 0
ChildLawful c = AreLawful c.rules

child_lawful : (ws : List WordData) (c : ChildData) (rest : List WordData) → IsChild ws c rest → ChildLawful c
child_lawful ws c rest i =
    let all = many_all IsStatement Closes (λ s. AllByRecursion RuleLawful (if_any s)) statement_lawful i.after i.statements rest i.body_stands in
    all_flat IsLawfulFile on_file c.rules (subst (AllByRecursion RuleLawful) (sym i.rules_are) (all_flat RuleLawful if_any i.statements all))

abbrev PartLawful : PartData → Type 0
PartLawful p = AllByRecursion RuleLawful (rules_in p) × AllByRecursion ChildLawful (children_in p)

part_lawful : (ws : List WordData) (p : PartData) (rest : List WordData) → IsBodyPart ws p rest → PartLawful p
part_lawful ws (Stated s) rest i = (statement_lawful ws s rest i, tt)
part_lawful ws (Held c) rest i = (tt, (child_lawful ws c rest i, tt))

-- ---- profiles

-- what is kept of a profile in the row of all
pub record IsKept (p : ProfileData) : Type 0 where
  pub confined : IsConfined p.name
  pub lawful : AreLawful p.rules

child_kept : (number : ℕ) (parent : List ℕ) (c : ChildData) → ChildLawful c → IsKept (child_profile number parent c)
child_kept number parent c h = record { confined = child_confined parent c.head.title.name; lawful = h }

abbrev FamilyKept : FamilyData → Type 0
FamilyKept f = (number : ℕ) → AllByRecursion IsKept (family number f)

family_kept : (ws : List WordData) (f : FamilyData) (rest : List WordData) → IsProfile ws f rest → FamilyKept f
family_kept ws f rest i = λ number.
    let parts = all_both (λ p. AllByRecursion RuleLawful (rules_in p)) (λ p. AllByRecursion ChildLawful (children_in p)) i.parts (many_all IsBodyPart Closes PartLawful part_lawful i.after i.parts rest i.body_stands) in
    let rules : AreLawful f.rules = all_flat IsLawfulFile on_file f.rules (subst (AllByRecursion RuleLawful) (sym i.rules_are) (all_flat RuleLawful rules_in i.parts parts.0)) in
    let children : AllByRecursion ChildLawful f.children = subst (AllByRecursion ChildLawful) (sym i.children_are) (all_flat ChildLawful children_in i.parts parts.1) in (
      record { confined = title_confined ws f.head.title i.head_stands.after i.head_stands.title; lawful = rules },
      all_map IsKept ChildLawful (child_profile number f.head.title.name) (child_kept number f.head.title.name) f.children children,
    )

item_kept : (ws : List WordData) (item : Option FamilyData) (rest : List WordData) → IsItem ws item rest → AllByRecursion FamilyKept (if_any item)
item_kept ws (Some f) rest i = (family_kept ws f rest i, tt)
item_kept ws None rest i = tt

row_kept : (number : ℕ) (fs : List FamilyData) → AllByRecursion FamilyKept fs → AllByRecursion IsKept (row_from number fs)
row_kept number [] a = tt
row_kept number (f ∷ fs) a = all_append IsKept (family number f) (row_from (number + length (family number f)) fs) (a.0 number) (row_kept (number + length (family number f)) fs a.1)

-- of all profiles of a policy
pub policy_kept : (ws : List WordData) (vars : List Variable) (tree : List ProfileData) → IsPolicy ws vars tree → AllByRecursion IsKept tree
policy_kept ws vars tree w =
    let items = many_all IsItem IsEnd (λ i. AllByRecursion FamilyKept (if_any i)) item_kept w.after w.items [] w.items_stand in
    subst (AllByRecursion IsKept) (sym w.profiles_are) (row_kept 0 (flat_map if_any w.items) (all_flat FamilyKept if_any w.items items))
