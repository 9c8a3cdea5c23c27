-- Each production reads in one way alone.
use Rattle.std.proofs.Common.{◌≡◌, ℕ, List, ◌∷◌, refl, sym, ap, subst, ◌∙◌, Bool, true, false}
use Rattle.aa_words.specs.declared.word.WordKind.TheVariants.{Comma, Close, Name, Skipped}
use Rattle.aa_words.specs.Splits.{WordData}
use Rattle.aa_rules.specs.declared.tree.Qualifiers.{Qualifiers}
use Rattle.std.specs.Prelude.{codes}
use Rattle.aa_rules.specs.Grammar.{IsPermission, IsQualified, IsPassedOver, Says, keyword_of, IsRule, Closes, IsEnd}
use Rattle.aa_rules.specs.FileRules.{IsFile}
use Rattle.aa_rules.specs.Phrases.{Starts, Keyword, LacksKeyword, is_path_kind}
use Rattle.aa_rules.specs.CapRules.{IsCaps}
use Rattle.aa_rules.specs.ChangeRules.{IsChanges}
use Rattle.aa_rules.specs.NetRules.{IsNets}
use Rattle.aa_model.specs.declared.rule.CapRule.{CapRule}
use Rattle.aa_model.specs.declared.rule.NetRule.{NetRule}
use Rattle.aa_rules.specs.Reading.{FileData, ChangeData, RuleData, OnFile, OnCap, OnNet, OnChange, Listed}
use Rattle.aa_rules.proofs.Phrases.{starts_same, starts_kind, keyword_once, keyword_apart, optional_once, false_true, no_keyword, left_out}
use Rattle.aa_rules.proofs.CapRules.{cap_once}
use Rattle.aa_rules.proofs.ChangeRules.{changes_once}
use Rattle.aa_rules.proofs.NetRules.{net_once}
use Rattle.aa_rules.proofs.FileRules.{file_once, file_begins}
use Rattle.aa_rules.proofs.FileWords.{file_or_keyword, capability_begins_none, network_begins_none, change_begins_none}
use Rattle.aa_rules.proofs.Repetition.{Reads}

permission_once : (ws : List WordData) (b c : Bool) (r s : List WordData) → IsPermission ws b r → IsPermission ws c s → (b ≡ c) × (r ≡ s)
permission_once ws true true r s a b = (refl, keyword_once (codes "deny") ws r s a b)
permission_once ws true false r s a b = absurd (b.0 r a)
permission_once ws false true r s a b = absurd (a.0 s b)
permission_once ws false false r s a b = (refl, (optional_once (codes "allow") ws a.1.0 b.1.0 r s a.1.1 b.1.1).1)

abbrev qualifiers : Bool → Bool → Qualifiers
qualifiers audit deny = record { audit = audit; deny = deny }

pub qualified_once : (ws : List WordData) (p q : Qualifiers) (r s : List WordData) → IsQualified ws p r → IsQualified ws q s → (p ≡ q) × (r ≡ s)
qualified_once ws p q r s a b =
    let o = optional_once (codes "audit") ws p.audit q.audit a.after b.after a.audit_stands b.audit_stands in
    let d = permission_once b.after p.deny q.deny r s (subst (λ (z : List WordData). IsPermission z p.deny r) o.1 a.permission_stands) b.permission_stands in
    (ap (λ (x : Bool). qualifiers x p.deny) o.0 ∙ ap (qualifiers q.audit) d.0, d.1)

passed_once : (ws : List WordData) (k l : List ℕ) (r s : List WordData) → IsPassedOver ws k r → IsPassedOver ws l s → (k ≡ l) × (r ≡ s)
passed_once ws k l r s a b =
    let w = starts_same ws a.skipped b.skipped r s a.stands.words b.stands.words in
    (a.keyword_is ∙ ap (λ (x : WordData). keyword_of x.text) w.0 ∙ sym b.keyword_is, w.1)

permission_left_out : (ws : List WordData) (w : WordData) (rest : List WordData) (b : Bool) (r : List WordData) → ws ≡ w ∷ rest → (w.kind ≡ Name → ⊥) → IsPermission ws b r → r ≡ ws
permission_left_out ws w rest true r e h a = absurd (no_keyword (codes "deny") ws w rest r e h a)
permission_left_out ws w rest false r e h a = left_out (codes "allow") ws w rest a.1.0 r e h a.1.1

pub unqualified : (ws : List WordData) (w : WordData) (rest : List WordData) (q : Qualifiers) (r : List WordData) → ws ≡ w ∷ rest → (w.kind ≡ Name → ⊥) → IsQualified ws q r → r ≡ ws
unqualified ws w rest q r e h a =
    let o = left_out (codes "audit") ws w rest q.audit a.after e h a.audit_stands in
    permission_left_out a.after w rest q.deny r (o ∙ e) h a.permission_stands ∙ o

skipped_name : Skipped ≡ Name → ⊥
skipped_name e = cc

close_name : Close ≡ Name → ⊥
close_name e = cc

close_skipped : Close ≡ Skipped → ⊥
close_skipped e = cc

-- a file rule doesn't begin with one that is passed over
file_or_passed : (q : Qualifiers) (ws : List WordData) (f : FileData) (k : List ℕ) (r s : List WordData) → IsFile q ws f r → IsPassedOver ws k s → ⊥
file_or_passed q ws f k r s a b =
    let no : b.skipped.kind ≡ Name → ⊥ = λ e. skipped_name (sym b.stands.kind_is ∙ e) in
    false_true (sym (ap is_path_kind b.stands.kind_is) ∙ file_begins q ws b.skipped s f r b.stands.words no a)

file_or_cap : (q : Qualifiers) (ws : List WordData) (f : FileData) (r s : List WordData) → IsFile q ws f r → Keyword (codes "capability") ws s → ⊥
file_or_cap q ws f r s a k = file_or_keyword (codes "capability") ws s q f r capability_begins_none k a

file_or_net : (q : Qualifiers) (ws : List WordData) (f : FileData) (r s : List WordData) → IsFile q ws f r → Keyword (codes "network") ws s → ⊥
file_or_net q ws f r s a k = file_or_keyword (codes "network") ws s q f r network_begins_none k a

cap_or_net : (ws r s : List WordData) → Keyword (codes "capability") ws r → Keyword (codes "network") ws s → ⊥
cap_or_net ws r s a b = keyword_apart (codes "capability") (codes "network") ws r s refl a b

file_or_change : (q : Qualifiers) (ws : List WordData) (f : FileData) (r s : List WordData) → IsFile q ws f r → Keyword (codes "change_profile") ws s → ⊥
file_or_change q ws f r s a k = file_or_keyword (codes "change_profile") ws s q f r change_begins_none k a

cap_or_change : (ws r s : List WordData) → Keyword (codes "capability") ws r → Keyword (codes "change_profile") ws s → ⊥
cap_or_change ws r s a b = keyword_apart (codes "capability") (codes "change_profile") ws r s refl a b

net_or_change : (ws r s : List WordData) → Keyword (codes "network") ws r → Keyword (codes "change_profile") ws s → ⊥
net_or_change ws r s a b = keyword_apart (codes "network") (codes "change_profile") ws r s refl a b

change_once : (q : Qualifiers) (ws : List WordData) (c d : ChangeData) (r s : List WordData) → Says q ws (OnChange c) r → Says q ws (OnChange d) s → (c ≡ d) × (r ≡ s)
change_once q ws c d r s a b =
    changes_once q b.0 c d r s (subst (λ (z : List WordData). IsChanges q z c r) (keyword_once (codes "change_profile") ws a.0 b.0 a.1 b.1) a.2) b.2

-- a keyword is neither passed over nor a sign
keyword_kind : (text : List ℕ) (ws : List WordData) (r : List WordData) (w : WordData) (s : List WordData) → ws ≡ w ∷ s → (w.kind ≡ Name → ⊥) → Keyword text ws r → ⊥
keyword_kind text ws r w s e h k = h (starts_kind ws w k.word s r e k.stands.words ∙ k.stands.kind_is)

pub keyword_or_passed : (text : List ℕ) (ws r s : List WordData) (k : List ℕ) → Keyword text ws r → IsPassedOver ws k s → ⊥
keyword_or_passed text ws r s k a b = keyword_kind text ws r b.skipped s b.stands.words (λ e. skipped_name (sym b.stands.kind_is ∙ e)) a

pub keyword_or_close : (text : List ℕ) (ws r : List WordData) (w : WordData) (s : List WordData) → Keyword text ws r → Starts Close ws w s → ⊥
keyword_or_close text ws r w s a b = keyword_kind text ws r w s b.words (λ e. close_name (sym b.kind_is ∙ e)) a

says_once : (q : Qualifiers) (ws : List WordData) (x y : RuleData) (r s : List WordData) → Says q ws x r → Says q ws y s → (x ≡ y) × (r ≡ s)
says_once q ws (OnFile f) (OnFile g) r s a b = let p = file_once q ws f g r s a b in (ap OnFile p.0, p.1)
says_once q ws (OnFile f) (OnCap c) r s a b = absurd (file_or_cap q ws f r b.0 a b.1)
says_once q ws (OnFile f) (OnNet n) r s a b = absurd (file_or_net q ws f r b.0 a b.1)
says_once q ws (OnFile f) (OnChange d) r s a b = absurd (file_or_change q ws f r b.0 a b.1)
says_once q ws (OnFile f) (Listed k) r s a b = absurd (file_or_passed q ws f k r s a b)
says_once q ws (OnCap c) (OnFile f) r s a b = absurd (file_or_cap q ws f s a.0 b a.1)
says_once q ws (OnCap c) (OnCap d) r s a b = let p = cap_once q ws c d r s a b in (ap OnCap p.0, p.1)
says_once q ws (OnCap c) (OnNet n) r s a b = absurd (cap_or_net ws a.0 b.0 a.1 b.1)
says_once q ws (OnCap c) (OnChange d) r s a b = absurd (cap_or_change ws a.0 b.0 a.1 b.1)
says_once q ws (OnCap c) (Listed k) r s a b = absurd (keyword_or_passed _ ws a.0 s k a.1 b)
says_once q ws (OnNet n) (OnFile f) r s a b = absurd (file_or_net q ws f s a.0 b a.1)
says_once q ws (OnNet n) (OnCap c) r s a b = absurd (cap_or_net ws b.0 a.0 b.1 a.1)
says_once q ws (OnNet n) (OnNet m) r s a b = let p = net_once q ws n m r s a b in (ap OnNet p.0, p.1)
says_once q ws (OnNet n) (OnChange d) r s a b = absurd (net_or_change ws a.0 b.0 a.1 b.1)
says_once q ws (OnNet n) (Listed k) r s a b = absurd (keyword_or_passed _ ws a.0 s k a.1 b)
says_once q ws (OnChange c) (OnFile f) r s a b = absurd (file_or_change q ws f s a.0 b a.1)
says_once q ws (OnChange c) (OnCap d) r s a b = absurd (cap_or_change ws b.0 a.0 b.1 a.1)
says_once q ws (OnChange c) (OnNet n) r s a b = absurd (net_or_change ws b.0 a.0 b.1 a.1)
says_once q ws (OnChange c) (OnChange d) r s a b = let p = change_once q ws c d r s a b in (ap OnChange p.0, p.1)
says_once q ws (OnChange c) (Listed k) r s a b = absurd (keyword_or_passed _ ws a.0 s k a.1 b)
says_once q ws (Listed k) (OnFile f) r s a b = absurd (file_or_passed q ws f k s r b a)
says_once q ws (Listed k) (OnCap c) r s a b = absurd (keyword_or_passed _ ws b.0 r k b.1 a)
says_once q ws (Listed k) (OnNet n) r s a b = absurd (keyword_or_passed _ ws b.0 r k b.1 a)
says_once q ws (Listed k) (OnChange d) r s a b = absurd (keyword_or_passed _ ws b.0 r k b.1 a)
says_once q ws (Listed k) (Listed l) r s a b = let p = passed_once ws k l r s a b in (ap Listed p.0, p.1)

-- the same behind equal qualifiers
says_moved : (p q : Qualifiers) (ws vs : List WordData) (x : RuleData) (rest : List WordData) → p ≡ q → ws ≡ vs → Says p ws x rest → Says q vs x rest
says_moved p q ws vs x rest e h a = subst (λ (y : Qualifiers). Says y vs x rest) e (subst (λ (z : List WordData). Says p z x rest) h a)

pub rule_once : (ws : List WordData) (x y : RuleData) (r s : List WordData) → IsRule ws x r → IsRule ws y s → (x ≡ y) × (r ≡ s)
rule_once ws x y r s a b =
    let q = qualified_once ws a.qualifiers b.qualifiers a.unqualified b.unqualified a.qualified b.qualified in
    let p = says_once b.qualifiers b.unqualified x y a.after b.after (says_moved _ _ _ _ x a.after q.0 q.1 a.says) b.says in
    let m = starts_same b.after a.comma b.comma r s (sym p.1 ∙ a.comma_stands.words) b.comma_stands.words in
    (p.0, m.1)

pub closes_once : (ws r s : List WordData) → Closes ws r → Closes ws s → r ≡ s
closes_once ws r s a b = (starts_same ws a.0 b.0 r s a.1.words b.1.words).1

says_apart : (q : Qualifiers) (ws : List WordData) (x : RuleData) (r : List WordData) (w : WordData) (s : List WordData) → Starts Close ws w s → Says q ws x r → ⊥
says_apart q ws (OnFile f) r w s b a = false_true (sym (ap is_path_kind b.kind_is) ∙ file_begins q ws w s f r b.words (λ e. close_name (sym b.kind_is ∙ e)) a)
says_apart q ws (OnCap c) r w s b a = keyword_or_close _ ws a.0 w s a.1 b
says_apart q ws (OnNet n) r w s b a = keyword_or_close _ ws a.0 w s a.1 b
says_apart q ws (OnChange c) r w s b a = keyword_or_close _ ws a.0 w s a.1 b
says_apart q ws (Listed k) r w s b a = close_skipped (sym b.kind_is ∙ starts_kind ws w a.skipped s r b.words a.stands.words ∙ a.stands.kind_is)

pub rule_apart : (ws : List WordData) (x : RuleData) (r s : List WordData) → IsRule ws x r → Closes ws s → ⊥
rule_apart ws x r s a b =
    let u = unqualified ws b.0 s a.qualifiers a.unqualified b.1.words (λ e. close_name (sym b.1.kind_is ∙ e)) a.qualified in
    says_apart a.qualifiers a.unqualified x a.after b.0 s (subst (λ (z : List WordData). Starts Close z b.0 s) (sym u) b.1) a.says

-- the rules of a body
pub rule_reads : Reads IsRule Closes
rule_reads = record { once = rule_once; ends_once = closes_once; apart = rule_apart }

pub end_once : (ws r s : List WordData) → IsEnd ws r → IsEnd ws s → r ≡ s
end_once ws r s a b = a.1 ∙ sym b.1

-- a rule without what its qualifiers are for, and one without a comma
pub no_meaning : (ws : List WordData) (q : Qualifiers) (bare : List WordData) (x : RuleData) (rest : List WordData) → IsQualified ws q bare
    → ((y : RuleData) (r : List WordData) → Says q bare y r → ⊥) → IsRule ws x rest → ⊥
no_meaning ws q bare x rest h none a =
    let p = qualified_once ws a.qualifiers q a.unqualified bare a.qualified h in
    none x a.after (says_moved _ _ _ _ x a.after p.0 p.1 a.says)

pub no_comma : (ws : List WordData) (q : Qualifiers) (bare : List WordData) (y : RuleData) (after : List WordData) (x : RuleData) (rest : List WordData) → IsQualified ws q bare → Says q bare y after
    → ((w : WordData) (r : List WordData) → Starts Comma after w r → ⊥) → IsRule ws x rest → ⊥
no_comma ws q bare y after x rest h i none a =
    let p = qualified_once ws a.qualifiers q a.unqualified bare a.qualified h in
    let m = says_once q bare x y a.after after (says_moved _ _ _ _ x a.after p.0 p.1 a.says) i in
    none a.comma rest (subst (λ (z : List WordData). Starts Comma z a.comma rest) m.1 a.comma_stands)

-- behind the keyword of a rule on capabilities, of one on sockets, and of one on changes of profile, no such rule goes on
pub says_no_cap : (q : Qualifiers) (ws behind : List WordData) → Keyword (codes "capability") ws behind → ((c : CapRule) (r : List WordData) → IsCaps q behind c r → ⊥)
    → (x : RuleData) (rest : List WordData) → Says q ws x rest → ⊥
says_no_cap q ws behind k h (OnFile f) rest a = file_or_cap q ws f rest behind a k
says_no_cap q ws behind k h (OnCap c) rest a = h c rest (subst (λ (z : List WordData). IsCaps q z c rest) (keyword_once (codes "capability") ws a.0 behind a.1 k) a.2)
says_no_cap q ws behind k h (OnNet n) rest a = cap_or_net ws behind a.0 k a.1
says_no_cap q ws behind k h (OnChange c) rest a = cap_or_change ws behind a.0 k a.1
says_no_cap q ws behind k h (Listed l) rest a = keyword_or_passed _ ws behind rest l k a

pub says_no_net : (q : Qualifiers) (ws behind : List WordData) → Keyword (codes "network") ws behind → ((n : NetRule) (r : List WordData) → IsNets q behind n r → ⊥)
    → (x : RuleData) (rest : List WordData) → Says q ws x rest → ⊥
says_no_net q ws behind k h (OnFile f) rest a = file_or_net q ws f rest behind a k
says_no_net q ws behind k h (OnCap c) rest a = cap_or_net ws a.0 behind a.1 k
says_no_net q ws behind k h (OnNet n) rest a = h n rest (subst (λ (z : List WordData). IsNets q z n rest) (keyword_once (codes "network") ws a.0 behind a.1 k) a.2)
says_no_net q ws behind k h (OnChange c) rest a = net_or_change ws behind a.0 k a.1
says_no_net q ws behind k h (Listed l) rest a = keyword_or_passed _ ws behind rest l k a

pub says_no_change : (q : Qualifiers) (ws behind : List WordData) → Keyword (codes "change_profile") ws behind → ((c : ChangeData) (r : List WordData) → IsChanges q behind c r → ⊥)
    → (x : RuleData) (rest : List WordData) → Says q ws x rest → ⊥
says_no_change q ws behind k h (OnFile f) rest a = file_or_change q ws f rest behind a k
says_no_change q ws behind k h (OnCap c) rest a = cap_or_change ws a.0 behind a.1 k
says_no_change q ws behind k h (OnNet n) rest a = net_or_change ws a.0 behind a.1 k
says_no_change q ws behind k h (OnChange c) rest a = h c rest (subst (λ (z : List WordData). IsChanges q z c rest) (keyword_once (codes "change_profile") ws a.0 behind a.1 k) a.2)
says_no_change q ws behind k h (Listed l) rest a = keyword_or_passed _ ws behind rest l k a

-- no rule at all
pub says_none : (q : Qualifiers) (ws : List WordData) → ((f : FileData) (r : List WordData) → IsFile q ws f r → ⊥) → LacksKeyword (codes "capability") ws → LacksKeyword (codes "network") ws
    → LacksKeyword (codes "change_profile") ws → ((w : WordData) (r : List WordData) → Starts Skipped ws w r → ⊥) → (x : RuleData) (rest : List WordData) → Says q ws x rest → ⊥
says_none q ws h c n d g (OnFile f) rest a = h f rest a
says_none q ws h c n d g (OnCap x) rest a = c a.0 a.1
says_none q ws h c n d g (OnNet x) rest a = n a.0 a.1
says_none q ws h c n d g (OnChange x) rest a = d a.0 a.1
says_none q ws h c n d g (Listed k) rest a = g a.skipped rest a.stands
