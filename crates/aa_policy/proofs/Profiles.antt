-- Bodies, profiles and policies read in one way alone.
use Rattle.std.proofs.Common.{◌≡◌, ℕ, ◌+◌, length, arith, List, [], ◌∷◌, refl, sym, ap, subst, ◌∙◌, Option, Some, None, true, false, inl, inr}
use Rattle.std.specs.Prelude.{flat_map, codes, ◌++◌}
use Rattle.std.proofs.lemmas.Grind.{flat_map-append}
use Rattle.std.proofs.lemmas.List.Concat.{flat_map-cons}
use Rattle.std.proofs.lemmas.List.{append-nil, append_assoc, length-append}
use Rattle.std.proofs.lemmas.Option.{same_Some}
use Rattle.aa_glob.specs.Variables.{Variable}
use Rattle.std.specs.Str.{bytes_eq}
use Rattle.aa_words.specs.Splits.{WordData}
use Rattle.aa_rules.specs.Grammar.{Keyword, LacksKeyword, LacksAll, Many, IsRule, Closes, IsEnd, is_path_kind}
use Rattle.aa_policy.specs.Heads.{HeadData, IsHead, BeginsProfile}
use Rattle.aa_policy.specs.Preamble.{PreambleData, IsAbi, IsPreamble, variables_of}
use Rattle.aa_rules.specs.Reading.{RuleData}
use Rattle.aa_policy.specs.Bodies.{ChildData, FamilyData, ProfileData, PartData, Stated, Held, IsStatement, IsChild, IsBodyPart, IsProfile, IsItem, IsPolicy, if_any, rules_in, children_in, row_from, row_of, family}
use Rattle.aa_rules.proofs.Phrases.{keyword_apart, keyword_or_path}
use Rattle.aa_rules.proofs.Productions.{rule_once, closes_once, rule_apart, end_once, keyword_or_close}
use Rattle.aa_rules.proofs.Repetition.{Reads, many_once}
use Rattle.aa_policy.proofs.HeadProductions.{head_once, head_begins, profile_or_closes}
use Rattle.aa_policy.proofs.Preambles.{abi_once, preamble_once, no_word}
use Rattle.aa_policy.proofs.RuleWords.{rule_or_keyword, rule_or_profile, no_rule_begins_abi}

-- what elements give, and what one more gives
pub more_given : {X A : Type 0} (f : X → List A) (xs : List X) (x : X) (ys zs : List A) → zs ≡ ys ++ f x → ys ≡ flat_map f xs → zs ≡ flat_map f (xs ++ x ∷ [])
more_given {X} {A} f xs x ys zs a b =
    let single : flat_map f (x ∷ []) ≡ f x = flat_map-cons f x [] ∙ append-nil (f x) in
    a ∙ ap (λ (l : List A). l ++ f x) b ∙ ap (λ (l : List A). flat_map f xs ++ l) (sym single) ∙ sym (flat_map-append f xs (x ∷ []))

-- ---- what tells rules, abi rules, profiles and the end apart

-- another keyword begins no profile
keyword_or_profile : (text : List ℕ) (ws r : List WordData) → bytes_eq text (codes "profile") ≡ false → Keyword text ws r → BeginsProfile ws → ⊥
keyword_or_profile text ws r d k (inl b) = keyword_apart text (codes "profile") ws r b.0 d k b.1
keyword_or_profile text ws r d k (inr b) = keyword_or_path text ws r b.path b.after k b.path_stands

abi_or_profile : (ws r : List WordData) → IsAbi ws r → BeginsProfile ws → ⊥
abi_or_profile ws r a b = keyword_or_profile (codes "abi") ws a.named refl a.keyword_stands b

-- where neither the keyword nor a path stands no profile begins
unnamed : (ws : List WordData) → LacksKeyword (codes "profile") ws → LacksAll is_path_kind ws → BeginsProfile ws → ⊥
unnamed ws g h (inl b) = g b.0 b.1
unnamed ws g h (inr b) = h b.path b.after b.path_stands

abi_or_close : (ws r s : List WordData) → IsAbi ws r → Closes ws s → ⊥
abi_or_close ws r s a b = keyword_or_close (codes "abi") ws a.named b.0 s a.keyword_stands b.1

rule_or_abi : (ws : List WordData) (x : RuleData) (r s : List WordData) → IsRule ws x r → IsAbi ws s → ⊥
rule_or_abi ws x r s a b = rule_or_keyword (codes "abi") ws x r b.named no_rule_begins_abi a b.keyword_stands

-- ---- statements

statement_once : (ws : List WordData) (x y : Option RuleData) (r s : List WordData) → IsStatement ws x r → IsStatement ws y s → (x ≡ y) × (r ≡ s)
statement_once ws (Some x) (Some y) r s a b = let p = rule_once ws x y r s a b in (ap (λ (z : RuleData). Some z) p.0, p.1)
statement_once ws (Some x) None r s a b = absurd (rule_or_abi ws x r s a b)
statement_once ws None (Some y) r s a b = absurd (rule_or_abi ws y s r b a)
statement_once ws None None r s a b = (refl, abi_once ws r s a b)

statement_apart : (ws : List WordData) (x : Option RuleData) (r s : List WordData) → IsStatement ws x r → Closes ws s → ⊥
statement_apart ws (Some x) r s a b = rule_apart ws x r s a b
statement_apart ws None r s a b = abi_or_close ws r s a b

-- the statements of a child
pub statement_reads : Reads IsStatement Closes
statement_reads = record { once = statement_once; ends_once = closes_once; apart = statement_apart }

-- neither a rule nor an abi rule
pub no_statement : (ws : List WordData) → ((x : RuleData) (rest : List WordData) → IsRule ws x rest → ⊥) → LacksKeyword (codes "abi") ws
    → (s : Option RuleData) (rest : List WordData) → IsStatement ws s rest → ⊥
no_statement ws h g (Some x) rest a = h x rest a
no_statement ws h g None rest a = g a.named a.keyword_stands

-- an abi rule that doesn't read
pub no_abi_statement : (ws after : List WordData) → Keyword (codes "abi") ws after → ((rest : List WordData) → IsAbi ws rest → ⊥)
    → (s : Option RuleData) (rest : List WordData) → IsStatement ws s rest → ⊥
no_abi_statement ws after k h (Some x) rest a = rule_or_keyword (codes "abi") ws x rest after no_rule_begins_abi a k
no_abi_statement ws after k h None rest a = h rest a

-- a statement is no profile
pub statement_or_profile : (ws : List WordData) → BeginsProfile ws → (s : Option RuleData) (rest : List WordData) → IsStatement ws s rest → ⊥
statement_or_profile ws b (Some x) rest a = rule_or_profile ws x rest a b
statement_or_profile ws b None rest a = abi_or_profile ws rest a b

-- ---- children

abbrev child : HeadData → List RuleData → ChildData
child head rules = record { head = head; rules = rules }

child_once : (ws : List WordData) (x y : ChildData) (r s : List WordData) → IsChild ws x r → IsChild ws y s → (x ≡ y) × (r ≡ s)
child_once ws x y r s a b =
    let h = head_once false ws x.head y.head a.after b.after a.head_stands b.head_stands in
    let i = many_once IsStatement Closes statement_reads b.after a.statements b.statements r s (subst (λ (z : List WordData). Many IsStatement Closes z a.statements r) h.1 a.body_stands) b.body_stands in
    let rules : x.rules ≡ y.rules = a.rules_are ∙ ap (flat_map if_any) i.0 ∙ sym b.rules_are in
    (ap (λ (z : HeadData). child z x.rules) h.0 ∙ ap (child y.head) rules, i.1)

-- a child without a head, and one without a body
pub no_child_head : (ws : List WordData) → ((h : HeadData) (r : List WordData) → IsHead false ws h r → ⊥) → (c : ChildData) (rest : List WordData) → IsChild ws c rest → ⊥
no_child_head ws h c rest a = h c.head a.after a.head_stands

pub no_child_body : (ws : List WordData) (head : HeadData) (after : List WordData) → IsHead false ws head after
    → ((ss : List (Option RuleData)) (r : List WordData) → Many IsStatement Closes after ss r → ⊥) → (c : ChildData) (rest : List WordData) → IsChild ws c rest → ⊥
no_child_body ws head after h none c rest a =
    let q = head_once false ws c.head head a.after after a.head_stands h in
    none a.statements rest (subst (λ (z : List WordData). Many IsStatement Closes z a.statements rest) q.1 a.body_stands)

-- ---- parts

part_once : (ws : List WordData) (x y : PartData) (r s : List WordData) → IsBodyPart ws x r → IsBodyPart ws y s → (x ≡ y) × (r ≡ s)
part_once ws (Stated x) (Stated y) r s a b = let p = statement_once ws x y r s a b in (ap Stated p.0, p.1)
part_once ws (Stated x) (Held y) r s a b = absurd (statement_or_profile ws (head_begins false ws y.head b.after b.head_stands) x r a)
part_once ws (Held x) (Stated y) r s a b = absurd (statement_or_profile ws (head_begins false ws x.head a.after a.head_stands) y s b)
part_once ws (Held x) (Held y) r s a b = let p = child_once ws x y r s a b in (ap Held p.0, p.1)

part_apart : (ws : List WordData) (x : PartData) (r s : List WordData) → IsBodyPart ws x r → Closes ws s → ⊥
part_apart ws (Stated x) r s a b = statement_apart ws x r s a b
part_apart ws (Held x) r s a b = profile_or_closes ws s (head_begins false ws x.head a.after a.head_stands) b

-- the parts of a top-level profile
pub part_reads : Reads IsBodyPart Closes
part_reads = record { once = part_once; ends_once = closes_once; apart = part_apart }

-- where a profile begins, only a child goes on; elsewhere only a statement
pub no_child_part : (ws : List WordData) → BeginsProfile ws → ((c : ChildData) (rest : List WordData) → IsChild ws c rest → ⊥)
    → (e : PartData) (rest : List WordData) → IsBodyPart ws e rest → ⊥
no_child_part ws b h (Stated s) rest a = statement_or_profile ws b s rest a
no_child_part ws b h (Held c) rest a = h c rest a

pub no_part : (ws : List WordData) → (BeginsProfile ws → ⊥) → ((s : Option RuleData) (rest : List WordData) → IsStatement ws s rest → ⊥)
    → (e : PartData) (rest : List WordData) → IsBodyPart ws e rest → ⊥
no_part ws b h (Stated s) rest a = h s rest a
no_part ws b h (Held c) rest a = b (head_begins false ws c.head a.after a.head_stands)

-- ---- profiles

abbrev profile : HeadData → List RuleData → List ChildData → FamilyData
profile head rules children = record { head = head; rules = rules; children = children }

pub profile_once : (ws : List WordData) (x y : FamilyData) (r s : List WordData) → IsProfile ws x r → IsProfile ws y s → (x ≡ y) × (r ≡ s)
profile_once ws x y r s a b =
    let h = head_once true ws x.head y.head a.after b.after a.head_stands b.head_stands in
    let i = many_once IsBodyPart Closes part_reads b.after a.parts b.parts r s (subst (λ (z : List WordData). Many IsBodyPart Closes z a.parts r) h.1 a.body_stands) b.body_stands in
    let rules : x.rules ≡ y.rules = a.rules_are ∙ ap (flat_map rules_in) i.0 ∙ sym b.rules_are in
    let children : x.children ≡ y.children = a.children_are ∙ ap (flat_map children_in) i.0 ∙ sym b.children_are in
    (ap (λ (z : HeadData). profile z x.rules x.children) h.0 ∙ ap (λ (z : List RuleData). profile y.head z x.children) rules ∙ ap (profile y.head y.rules) children, i.1)

pub no_profile_head : (ws : List WordData) → ((h : HeadData) (r : List WordData) → IsHead true ws h r → ⊥) → (p : FamilyData) (rest : List WordData) → IsProfile ws p rest → ⊥
no_profile_head ws h p rest a = h p.head a.after a.head_stands

pub no_profile_body : (ws : List WordData) (head : HeadData) (after : List WordData) → IsHead true ws head after
    → ((es : List PartData) (r : List WordData) → Many IsBodyPart Closes after es r → ⊥) → (p : FamilyData) (rest : List WordData) → IsProfile ws p rest → ⊥
no_profile_body ws head after h none p rest a =
    let q = head_once true ws p.head head a.after after a.head_stands h in
    none a.parts rest (subst (λ (z : List WordData). Many IsBodyPart Closes z a.parts rest) q.1 a.body_stands)

-- ---- items

item_once : (ws : List WordData) (x y : Option FamilyData) (r s : List WordData) → IsItem ws x r → IsItem ws y s → (x ≡ y) × (r ≡ s)
item_once ws (Some x) (Some y) r s a b = let p = profile_once ws x y r s a b in (ap (λ (z : FamilyData). Some z) p.0, p.1)
item_once ws (Some x) None r s a b = absurd (abi_or_profile ws s b (head_begins true ws x.head a.after a.head_stands))
item_once ws None (Some y) r s a b = absurd (abi_or_profile ws r a (head_begins true ws y.head b.after b.head_stands))
item_once ws None None r s a b = (refl, abi_once ws r s a b)

begins_something : (ws : List WordData) → BeginsProfile ws → ws ≡ [] → ⊥
begins_something ws (inl a) e = no_word a.1.word a.0 (sym e ∙ a.1.stands.words)
begins_something ws (inr a) e = no_word a.path a.after (sym e ∙ a.path_stands.words)

item_apart : (ws : List WordData) (x : Option FamilyData) (r s : List WordData) → IsItem ws x r → IsEnd ws s → ⊥
item_apart ws (Some x) r s a b = begins_something ws (head_begins true ws x.head a.after a.head_stands) b.0
item_apart ws None r s a b = no_word a.keyword_stands.word a.named (sym b.0 ∙ a.keyword_stands.stands.words)

-- the items of a policy
pub item_reads : Reads IsItem IsEnd
item_reads = record { once = item_once; ends_once = end_once; apart = item_apart }

-- an abi rule that doesn't read, and where neither begins
pub no_abi_item : (ws after : List WordData) → Keyword (codes "abi") ws after → ((rest : List WordData) → IsAbi ws rest → ⊥)
    → (i : Option FamilyData) (rest : List WordData) → IsItem ws i rest → ⊥
no_abi_item ws after k h (Some x) rest a = keyword_or_profile (codes "abi") ws after refl k (head_begins true ws x.head a.after a.head_stands)
no_abi_item ws after k h None rest a = h rest a

pub no_item : (ws : List WordData) → LacksKeyword (codes "abi") ws → ((p : FamilyData) (rest : List WordData) → IsProfile ws p rest → ⊥)
    → (i : Option FamilyData) (rest : List WordData) → IsItem ws i rest → ⊥
no_item ws g h (Some p) rest a = h p rest a
no_item ws g h None rest a = g a.named a.keyword_stands

-- no profile is named there
pub no_named_profile : (ws : List WordData) → LacksKeyword (codes "profile") ws → LacksAll is_path_kind ws → (p : FamilyData) (rest : List WordData) → IsProfile ws p rest → ⊥
no_named_profile ws g h p rest a = unnamed ws g h (head_begins true ws p.head a.after a.head_stands)

-- ---- a policy

-- the preamble and the rows of two readings are the same
pub policy_once : (ws : List WordData) (u v : List Variable) (s t : List ProfileData) → IsPolicy ws u s → IsPolicy ws v t → (u ≡ v) × (s ≡ t)
policy_once ws u v s t a b =
    let p = preamble_once ws a.preamble b.preamble a.after b.after a.preamble_stands b.preamble_stands in
    let i = many_once IsItem IsEnd item_reads b.after a.items b.items [] [] (subst (λ (z : List WordData). Many IsItem IsEnd z a.items []) p.1 a.items_stand) b.items_stand in
    (same_Some u v (sym a.variables_are ∙ ap variables_of p.0 ∙ b.variables_are), a.profiles_are ∙ ap (λ (is : List (Option FamilyData)). row_from 0 (flat_map if_any is)) i.0 ∙ sym b.profiles_are)

-- a policy without a preamble, and one without items
pub no_preamble : (ws : List WordData) → ((items : List PreambleData) (vars : List Variable) (rest : List WordData) → IsPreamble ws items rest → variables_of items ≡ Some vars → ⊥)
    → (vars : List Variable) (tree : List ProfileData) → IsPolicy ws vars tree → ⊥
no_preamble ws h vars tree a = h a.preamble vars a.after a.preamble_stands a.variables_are

pub no_items : (ws : List WordData) (items : List PreambleData) (start : List WordData) → IsPreamble ws items start
    → ((is : List (Option FamilyData)) → Many IsItem IsEnd start is [] → ⊥) → (vars : List Variable) (tree : List ProfileData) → IsPolicy ws vars tree → ⊥
no_items ws items start p h vars tree a =
    let q = preamble_once ws a.preamble items a.after start a.preamble_stands p in
    h a.items (subst (λ (z : List WordData). Many IsItem IsEnd z a.items []) q.1 a.items_stand)

-- ---- the row

row_more : (n : ℕ) (fs : List FamilyData) (f : FamilyData) → row_from n (fs ++ f ∷ []) ≡ row_from n fs ++ family (n + length (row_from n fs)) f
row_more n [] f = append-nil (family n f) ∙ ap (λ (k : ℕ). family k f) (omega arith)
row_more n (g ∷ fs) f =
    let m = n + length (family n g) in
    let k : m + length (row_from m fs) ≡ n + length (family n g ++ row_from m fs) = omega (arith, length-append (family n g) (row_from m fs)) in
    ap (λ (l : List ProfileData). family n g ++ l) (row_more m fs f) ∙ sym (append_assoc (family n g) (row_from m fs) (family (m + length (row_from m fs)) f))
    ∙ ap (λ (x : ℕ). (family n g ++ row_from m fs) ++ family x f) k

items_more : (is : List (Option FamilyData)) (i : Option FamilyData) → flat_map if_any is ++ if_any i ≡ flat_map if_any (is ++ i ∷ [])
items_more is i = more_given if_any is i (flat_map if_any is) (flat_map if_any is ++ if_any i) refl refl

-- the profiles of one item more
pub row_next : (is : List (Option FamilyData)) (i : Option FamilyData) (old new : List ProfileData) (n : ℕ) → n ≡ length old → new ≡ old ++ row_of n i
    → old ≡ row_from 0 (flat_map if_any is) → new ≡ row_from 0 (flat_map if_any (is ++ i ∷ []))
row_next is None old new n e h k = h ∙ append-nil old ∙ k ∙ ap (row_from 0) (sym (append-nil (flat_map if_any is)) ∙ items_more is None)
row_next is (Some f) old new n e h k =
    let fs = flat_map if_any is in
    let m : n ≡ 0 + length (row_from 0 fs) = e ∙ ap length k ∙ omega arith in
    h ∙ ap (λ (x : ℕ). old ++ family x f) m ∙ ap (λ (l : List ProfileData). l ++ family (0 + length (row_from 0 fs)) f) k ∙ sym (row_more 0 fs f) ∙ ap (row_from 0) (items_more is (Some f))
