-- A head reads in one way alone.
use Rattle.std.proofs.Common.{◌≡◌, ℕ, ◌+◌, ◌<◌, ◌≤◌, List, [], ◌∷◌, ◌++◌, length, get_or, Bool, true, false, Option, Some, None, refl, sym, ap, subst, ◌∙◌, inl, inr}
use Rattle.std.specs.Prelude.{codes, ◌&&◌, ◌||◌}
use Rattle.std.proofs.lemmas.List.Folds.{list_any-append}
use Rattle.aa_base.specs.declared.fault.Spot.{Spot}
use Rattle.aa_words.specs.declared.word.Word.{Word}
use Rattle.aa_words.specs.declared.word.WordKind.{WordKind}
use Rattle.aa_words.specs.declared.word.WordKind.TheVariants.{Open, Equals, LeftParen, RightParen, Path, Name, Quoted}
use Rattle.aa_words.specs.Splits.{WordData, word_data}
use Rattle.aa_rules.specs.Grammar.{Starts, StartsAs, Lacks, LacksAll, Closes, IsPassedOver, Keyword, LacksKeyword, spot_of, is_path_kind, is_name_kind}
use Rattle.aa_policy.specs.declared.heads.HeadFlags.{HeadFlags}
use Rattle.aa_policy.specs.Heads.{AttachmentData, TitleData, HeadData, Stands, Fits, LacksFitting, OptionalPath, attached, attachment_of, IsNamed, IsPathNamed}
use Rattle.aa_policy.specs.Heads.{IsTitle, is_flag, is_the_flag, has_flag, said_by, flags_with, NamesFlags, OpensFlags, IsFlagList, IsFlags, OptionalFlags}
use Rattle.aa_policy.specs.Heads.{IsOpening, IsHead, goes_on, BeginsProfile}
use Rattle.aa_policy.specs.HeadFaults.{ends_in_flag}
use Rattle.aa_rules.specs.Reading.{rest_of}
use Rattle.aa_rules.specs.RuleFaults.{is_name}
use Rattle.aa_rules.proofs.Places.{here, nothing_here, no_cons}
use Rattle.aa_rules.proofs.Phrases.{starts_same, starts_kind, keyword_once, keyword_or_path, false_true}
use Rattle.aa_rules.proofs.Repetition.{Reads, Reaches, many_once}

-- ---- the word at a place

pub fits_word : (fits : WordKind → List ℕ → Bool) (words : List Word) (at : ℕ) (w : Word) → at < length words → w ≡ get_or words at w
    → true ≡ fits w.kind w.text.now → Fits fits (rest_of words at) (word_data w) (rest_of words (at + 1))
fits_word fits words at w h e k = record { words = here words at w h e; it_fits = sym k }

pub lacks_word : (fits : WordKind → List ℕ → Bool) (words : List Word) (at : ℕ) (w : Word) → at < length words → w ≡ get_or words at w → false ≡ fits w.kind w.text.now → LacksFitting fits (rest_of words at)
lacks_word fits words at w h e k = λ v rest s.
    let same : word_data w ≡ v = (starts_same (rest_of words at) (word_data w) v (rest_of words (at + 1)) rest (here words at w h e) s.words).0 in
    false_true (k ∙ ap (λ (x : WordData). fits x.kind x.text) same ∙ s.it_fits)

pub lacks_past : (fits : WordKind → List ℕ → Bool) (words : List Word) (at : ℕ) → length words ≤ at → LacksFitting fits (rest_of words at)
lacks_past fits words at h = λ v rest s. no_cons v rest (sym (nothing_here words at h) ∙ s.words)

-- ---- name and attachment

optional_path_once : (ws : List WordData) (p q : Option WordData) (r s : List WordData) → OptionalPath ws p r → OptionalPath ws q s → (p ≡ q) × (r ≡ s)
optional_path_once ws (Some v) (Some w) r s a b = let e = starts_same ws v w r s a.words b.words in (ap Some e.0, e.1)
optional_path_once ws (Some v) None r s a b = absurd (b.1 v r a)
optional_path_once ws None (Some w) r s a b = absurd (a.1 w s b)
optional_path_once ws None None r s a b = (refl, a.0 ∙ sym b.0)

abbrev title : Spot → List ℕ → Option AttachmentData → TitleData
title at name attachment = record { at = at; name = name; attachment = attachment }

title_same : (h g : TitleData) → h.at ≡ g.at → h.name ≡ g.name → h.attachment ≡ g.attachment → h ≡ g
title_same h g a n t =
    ap (λ (x : Spot). title x h.name h.attachment) a ∙ ap (λ (x : List ℕ). title g.at x h.attachment) n ∙ ap (λ (x : Option AttachmentData). title g.at g.name x) t

named_once : (top : Bool) (ws : List WordData) (h g : TitleData) (r s : List WordData) → IsNamed top ws h r → IsNamed top ws g s → (h ≡ g) × (r ≡ s)
named_once top ws h g r s a b =
    let n = starts_same ws a.name b.name a.after b.after a.name_stands.words b.name_stands.words in
    let p = optional_path_once b.after a.path b.path r s (subst (λ (z : List WordData). OptionalPath z a.path r) n.1 a.path_stands) b.path_stands in
    let at : h.at ≡ g.at = a.at_is ∙ ap spot_of n.0 ∙ sym b.at_is in
    let name : h.name ≡ g.name = a.name_is ∙ ap (λ (w : WordData). w.text) n.0 ∙ sym b.name_is in
    let attachment : h.attachment ≡ g.attachment =
    a.attachment_is ∙ ap (λ (w : WordData). attachment_of w a.path) n.0 ∙ ap (attachment_of b.name) p.0 ∙ sym b.attachment_is in
    (title_same h g at name attachment, p.1)

path_named_once : (top : Bool) (ws : List WordData) (h g : TitleData) (r s : List WordData) → IsPathNamed top ws h r → IsPathNamed top ws g s → (h ≡ g) × (r ≡ s)
path_named_once top ws h g r s a b =
    let p = starts_same ws a.path b.path r s a.path_stands.words b.path_stands.words in
    let at : h.at ≡ g.at = a.at_is ∙ ap spot_of p.0 ∙ sym b.at_is in
    let name : h.name ≡ g.name = a.name_is ∙ ap (λ (w : WordData). w.text) p.0 ∙ sym b.name_is in
    let attachment : h.attachment ≡ g.attachment = a.attachment_is ∙ ap (λ (w : WordData). Some (attached w)) p.0 ∙ sym b.attachment_is in
    (title_same h g at name attachment, p.1)

title_once : (top : Bool) (ws : List WordData) (h g : TitleData) (r s : List WordData) → IsTitle top ws h r → IsTitle top ws g s → (h ≡ g) × (r ≡ s)
title_once top ws h g r s (inl a) (inl b) =
    let k = keyword_once (codes "profile") ws a.0 b.0 a.1 b.1 in
    named_once top b.0 h g r s (subst (λ (z : List WordData). IsNamed top z h r) k a.2) b.2
title_once top ws h g r s (inl a) (inr b) = absurd (keyword_or_path (codes "profile") ws a.0 b.path s a.1 b.path_stands)
title_once top ws h g r s (inr a) (inl b) = absurd (keyword_or_path (codes "profile") ws b.0 a.path r b.1 a.path_stands)
title_once top ws h g r s (inr a) (inr b) = path_named_once top ws h g r s a b

-- behind the keyword no name, and without it no path that is one
pub no_named : (top : Bool) (ws bare : List WordData) → Keyword (codes "profile") ws bare → ((h : TitleData) (r : List WordData) → IsNamed top bare h r → ⊥)
    → (h : TitleData) (rest : List WordData) → IsTitle top ws h rest → ⊥
no_named top ws bare k none h rest (inl a) =
    none h rest (subst (λ (z : List WordData). IsNamed top z h rest) (keyword_once (codes "profile") ws a.0 bare a.1 k) a.2)
no_named top ws bare k none h rest (inr a) = keyword_or_path (codes "profile") ws bare a.path rest k a.path_stands

pub no_title : (top : Bool) (ws : List WordData) → LacksKeyword (codes "profile") ws → ((h : TitleData) (r : List WordData) → IsPathNamed top ws h r → ⊥)
    → (h : TitleData) (rest : List WordData) → IsTitle top ws h rest → ⊥
no_title top ws lacks none h rest (inl a) = lacks a.0 a.1
no_title top ws lacks none h rest (inr a) = none h rest a

-- ---- flags

fits_once : (fits : WordKind → List ℕ → Bool) (ws : List WordData) (v w : WordData) (r s : List WordData) → Fits fits ws v r → Fits fits ws w s → (v ≡ w) × (r ≡ s)
fits_once fits ws v w r s a b = starts_same ws v w r s a.words b.words

stands_once : (kind : WordKind) (ws r s : List WordData) → Stands kind ws r → Stands kind ws s → r ≡ s
stands_once kind ws r s a b = (starts_same ws a.0 b.0 r s a.1.words b.1.words).1

flag_or_end : (ws : List WordData) (w : WordData) (r s : List WordData) → Fits is_flag ws w r → Stands RightParen ws s → ⊥
flag_or_end ws w r s a b =
    let same : w.kind ≡ RightParen = starts_kind ws w b.0 r s a.words b.1.words ∙ b.1.kind_is in
    false_true (sym (ap (λ (k : WordKind). is_flag k w.text) same) ∙ a.it_fits)

-- the flags between parentheses
pub flag_reads : Reads (Fits is_flag) (Stands RightParen)
flag_reads = record { once = fits_once is_flag; ends_once = stands_once RightParen; apart = flag_or_end }

name_paren : Name ≡ LeftParen → ⊥
name_paren e = cc

open_paren : Open ≡ LeftParen → ⊥
open_paren e = cc

open_name : Open ≡ Name → ⊥
open_name e = cc

stands_kind : (kind other : WordKind) (ws : List WordData) (w : WordData) (r s : List WordData) → Stands kind ws r → Starts other ws w s → other ≡ kind
stands_kind kind other ws w r s a b = sym b.kind_is ∙ starts_kind ws w a.0 s r b.words a.1.words ∙ a.1.kind_is

names_flags_once : (ws r s : List WordData) → NamesFlags ws r → NamesFlags ws s → r ≡ s
names_flags_once ws r s a b =
    let k = keyword_once (codes "flags") ws a.after_keyword b.after_keyword a.keyword_stands b.keyword_stands in
    let e = stands_once Equals b.after_keyword a.after_equals b.after_equals (subst (λ (z : List WordData). Stands Equals z a.after_equals) k a.equals_stands) b.equals_stands in
    stands_once LeftParen b.after_equals r s (subst (λ (z : List WordData). Stands LeftParen z r) e a.paren_stands) b.paren_stands

opens_once : (ws r s : List WordData) → OpensFlags ws r → OpensFlags ws s → r ≡ s
opens_once ws r s (inl a) (inl b) = stands_once LeftParen ws r s a b
opens_once ws r s (inl a) (inr b) = absurd (name_paren (stands_kind LeftParen Name ws b.keyword_stands.word r b.after_keyword a b.keyword_stands.stands))
opens_once ws r s (inr a) (inl b) = absurd (name_paren (stands_kind LeftParen Name ws a.keyword_stands.word s a.after_keyword b a.keyword_stands.stands))
opens_once ws r s (inr a) (inr b) = names_flags_once ws r s a b

flag_list_once : (ws : List WordData) (f g : HeadFlags) (r s : List WordData) → IsFlagList ws f r → IsFlagList ws g s → (f ≡ g) × (r ≡ s)
flag_list_once ws f g r s a b =
    let m = many_once (Fits is_flag) (Stands RightParen) flag_reads ws a.between b.between r s a.written b.written in
    (a.flags_are ∙ ap said_by m.0 ∙ sym b.flags_are, m.1)

flags_once : (ws : List WordData) (f g : HeadFlags) (r s : List WordData) → IsFlags ws f r → IsFlags ws g s → (f ≡ g) × (r ≡ s)
flags_once ws f g r s a b =
    let o = opens_once ws a.inside b.inside a.opens b.opens in
    flag_list_once b.inside f g r s (subst (λ (z : List WordData). IsFlagList z f r) o a.listed) b.listed

pub no_flags : (ws inside : List WordData) → OpensFlags ws inside → ((flags : HeadFlags) (rest : List WordData) → IsFlagList inside flags rest → ⊥)
    → (flags : HeadFlags) (rest : List WordData) → IsFlags ws flags rest → ⊥
no_flags ws inside o none flags rest a =
    none flags rest (subst (λ (z : List WordData). IsFlagList z flags rest) (opens_once ws a.inside inside a.opens o) a.listed)

-- what one more word says
pub or_none : (b : Bool) → (b || false) ≡ b
or_none true = refl
or_none false = refl

has_more : (flag : List ℕ) (ws : List WordData) (w : WordData) → (has_flag flag ws || is_the_flag flag w.kind w.text) ≡ has_flag flag (ws ++ w ∷ [])
has_more flag ws w =
    ap (λ (b : Bool). has_flag flag ws || b) (sym (or_none (is_the_flag flag w.kind w.text)))
    ∙ sym (list_any-append (λ (x : WordData). is_the_flag flag x.kind x.text) ws (w ∷ []))

abbrev says : Bool → Bool → Bool → HeadFlags
says c e a = record { complain = c; enforce = e; audit = a }

pub said_more : (ws : List WordData) (w : WordData) → flags_with (said_by ws) w ≡ said_by (ws ++ w ∷ [])
said_more ws w =
    ap (λ (b : Bool). says b (has_flag (codes "enforce") ws || is_the_flag (codes "enforce") w.kind w.text) (has_flag (codes "audit") ws || is_the_flag (codes "audit") w.kind w.text)) (has_more (codes "complain") ws w)
    ∙ ap (λ (b : Bool). says (has_flag (codes "complain") (ws ++ w ∷ [])) b (has_flag (codes "audit") ws || is_the_flag (codes "audit") w.kind w.text)) (has_more (codes "enforce") ws w)
    ∙ ap (says (has_flag (codes "complain") (ws ++ w ∷ [])) (has_flag (codes "enforce") (ws ++ w ∷ []))) (has_more (codes "audit") ws w)

-- one word more stands last
pub ends_more : (ws : List WordData) (w : WordData) → is_name w.kind ≡ ends_in_flag (ws ++ w ∷ [])
ends_more [] w = refl
ends_more (v ∷ []) w = refl
ends_more (v ∷ u ∷ ws) w = ends_more (u ∷ ws) w

-- a flag that stands there stays
has_still : (flag : List ℕ) (ws others : List WordData) → has_flag flag ws ≡ true → has_flag flag (ws ++ others) ≡ true
has_still flag ws others h =
    list_any-append (λ (x : WordData). is_the_flag flag x.kind x.text) ws others ∙ ap (λ (b : Bool). b || has_flag flag others) h

both_true : (b c : Bool) → (b && c) ≡ true → (b ≡ true) × (c ≡ true)
both_true true true e = (refl, refl)
both_true true false e = absurd cc
both_true false c e = absurd cc

not_both : (b c : Bool) → b ≡ true → c ≡ true → (b && c) ≡ false → ⊥
not_both true true p q e = cc
not_both true false p q e = cc
not_both false c p q e = cc

-- no flags go on behind two that contradict each other
pub contradicted : (ws found rest : List WordData) → Reaches (Fits is_flag) (Stands RightParen) ws found rest → ((said_by found).complain && (said_by found).enforce) ≡ true
    → (flags : HeadFlags) (end : List WordData) → IsFlagList ws flags end → ⊥
contradicted ws found rest reach h flags end a =
    let p = both_true (said_by found).complain (said_by found).enforce h in
    let o = reach.only a.between end a.written in
    let same : flags ≡ said_by (found ++ o.0) = a.flags_are ∙ ap said_by o.1 in
    let complains : flags.complain ≡ true = ap (λ (f : HeadFlags). f.complain) same ∙ has_still (codes "complain") found o.0 p.0 in
    let enforces : flags.enforce ≡ true = ap (λ (f : HeadFlags). f.enforce) same ∙ has_still (codes "enforce") found o.0 p.1 in
    not_both flags.complain flags.enforce complains enforces a.agree

-- ---- the head

flags_or_open : (ws : List WordData) (r s : List WordData) → OpensFlags ws r → Stands Open ws s → ⊥
flags_or_open ws r s (inl a) b = open_paren (stands_kind LeftParen Open ws b.0 r s a b.1)
flags_or_open ws r s (inr a) b = open_name (sym (stands_kind Open Name ws a.keyword_stands.word s a.after_keyword b a.keyword_stands.stands))

optional_flags_once : (ws : List WordData) (f g : HeadFlags) (p q r s : List WordData) → OptionalFlags ws f p → Stands Open p r → OptionalFlags ws g q → Stands Open q s → (f ≡ g) × (r ≡ s)
optional_flags_once ws f g p q r s (inl a) b (inl c) d =
    let e = flags_once ws f g p q a c in
    (e.0, stands_once Open q r s (subst (λ (z : List WordData). Stands Open z r) e.1 b) d)
optional_flags_once ws f g p q r s (inl a) b (inr c) d = absurd (flags_or_open ws a.inside s a.opens (subst (λ (z : List WordData). Stands Open z s) c.0 d))
optional_flags_once ws f g p q r s (inr a) b (inl c) d = absurd (flags_or_open ws c.inside r c.opens (subst (λ (z : List WordData). Stands Open z r) a.0 b))
optional_flags_once ws f g p q r s (inr a) b (inr c) d = (a.1 ∙ sym c.1, stands_once Open q r s (subst (λ (z : List WordData). Stands Open z r) (a.0 ∙ sym c.0) b) d)

opening_once : (ws : List WordData) (f g : HeadFlags) (r s : List WordData) → IsOpening ws f r → IsOpening ws g s → (f ≡ g) × (r ≡ s)
opening_once ws f g r s a b = optional_flags_once ws f g a.after b.after r s a.flags_stand a.brace_stands b.flags_stand b.brace_stands

-- neither a brace nor flags, and flags without a brace behind them
no_optional : (ws : List WordData) → Lacks Open ws → ((flags : HeadFlags) (r : List WordData) → IsFlags ws flags r → ⊥)
    → (flags : HeadFlags) (after rest : List WordData) → OptionalFlags ws flags after → Stands Open after rest → ⊥
no_optional ws lacks none flags after rest (inl a) b = none flags after a
no_optional ws lacks none flags after rest (inr a) b = let o = subst (λ (z : List WordData). Stands Open z rest) a.0 b in lacks o.0 rest o.1

pub no_opening : (ws : List WordData) → Lacks Open ws → ((flags : HeadFlags) (r : List WordData) → IsFlags ws flags r → ⊥)
    → (flags : HeadFlags) (rest : List WordData) → IsOpening ws flags rest → ⊥
no_opening ws lacks none flags rest a = no_optional ws lacks none flags a.after rest a.flags_stand a.brace_stands

no_optional_brace : (ws : List WordData) (f : HeadFlags) (after : List WordData) → IsFlags ws f after → Lacks Open after
    → (flags : HeadFlags) (end rest : List WordData) → OptionalFlags ws flags end → Stands Open end rest → ⊥
no_optional_brace ws f after i lacks flags end rest (inl a) b =
    let o = subst (λ (z : List WordData). Stands Open z rest) (flags_once ws flags f end after a i).1 b in
    lacks o.0 rest o.1
no_optional_brace ws f after i lacks flags end rest (inr a) b = flags_or_open ws i.inside rest i.opens (subst (λ (z : List WordData). Stands Open z rest) a.0 b)

pub no_brace : (ws : List WordData) (f : HeadFlags) (after : List WordData) → IsFlags ws f after → Lacks Open after
    → (flags : HeadFlags) (rest : List WordData) → IsOpening ws flags rest → ⊥
no_brace ws f after i lacks flags rest a = no_optional_brace ws f after i lacks flags a.after rest a.flags_stand a.brace_stands

abbrev head : TitleData → HeadFlags → HeadData
head title flags = record { title = title; flags = flags }

pub head_once : (top : Bool) (ws : List WordData) (h g : HeadData) (r s : List WordData) → IsHead top ws h r → IsHead top ws g s → (h ≡ g) × (r ≡ s)
head_once top ws h g r s a b =
    let t = title_once top ws h.title g.title a.after b.after a.title b.title in
    let o = opening_once b.after h.flags g.flags r s (subst (λ (z : List WordData). IsOpening z h.flags r) t.1 a.opening) b.opening in
    (ap (λ (x : TitleData). head x h.flags) t.0 ∙ ap (head g.title) o.0, o.1)

pub no_open : (top : Bool) (ws : List WordData) (t : TitleData) (after : List WordData) → IsTitle top ws t after → ((flags : HeadFlags) (r : List WordData) → IsOpening after flags r → ⊥)
    → (h : HeadData) (rest : List WordData) → IsHead top ws h rest → ⊥
no_open top ws t after stands none h rest a =
    none h.flags rest (subst (λ (z : List WordData). IsOpening z h.flags rest) (title_once top ws h.title t a.after after a.title stands).1 a.opening)

-- ---- where a profile begins

stands_on : (ws : List WordData) (s : List WordData) → Stands Open ws s → (w : WordData) × Fits goes_on ws w s
stands_on ws s a = (a.0, record { words = a.1.words; it_fits = ap (λ (k : WordKind). goes_on k a.0.text) a.1.kind_is })

flags_on : (ws : List WordData) (s : List WordData) → OpensFlags ws s → (w : WordData) × (r : List WordData) × Fits goes_on ws w r
flags_on ws s (inl a) = (a.0, s, record { words = a.1.words; it_fits = ap (λ (k : WordKind). goes_on k a.0.text) a.1.kind_is })
flags_on ws s (inr a) =
    let w = a.keyword_stands.word in
    (w, a.after_keyword, record { words = a.keyword_stands.stands.words; it_fits = rw (a.keyword_stands.stands.kind_is, a.keyword_stands.is_it) refl })

optional_on : (ws : List WordData) (f : HeadFlags) (after s : List WordData) → OptionalFlags ws f after → Stands Open after s → (w : WordData) × (r : List WordData) × Fits goes_on ws w r
optional_on ws f after s (inl a) b = flags_on ws a.inside a.opens
optional_on ws f after s (inr a) b = let o = stands_on ws s (subst (λ (z : List WordData). Stands Open z s) a.0 b) in (o.0, s, o.1)

opening_on : (ws : List WordData) (f : HeadFlags) (s : List WordData) → IsOpening ws f s → (w : WordData) × (r : List WordData) × Fits goes_on ws w r
opening_on ws f s a = optional_on ws f a.after s a.flags_stand a.brace_stands

-- a profile begins with each head
title_begins : (top : Bool) (ws : List WordData) (t : TitleData) (after : List WordData) (f : HeadFlags) (r : List WordData) → IsTitle top ws t after → IsOpening after f r → BeginsProfile ws
title_begins top ws t after f r (inl a) o = inl (a.0, a.1)
title_begins top ws t after f r (inr a) o =
    let n = opening_on after f r o in
    inr (record { path = a.path; next = n.0; after = after; rest = n.1; path_stands = a.path_stands; next_stands = n.2 })

pub head_begins : (top : Bool) (ws : List WordData) (h : HeadData) (r : List WordData) → IsHead top ws h r → BeginsProfile ws
head_begins top ws h r a = title_begins top ws h.title a.after h.flags r a.title a.opening

-- neither the keyword nor a path that goes on
pub no_path_named : (ws : List WordData) → LacksKeyword (codes "profile") ws → LacksAll is_path_kind ws → BeginsProfile ws → ⊥
no_path_named ws lacks none (inl a) = lacks a.0 a.1
no_path_named ws lacks none (inr a) = none a.path a.after a.path_stands

pub no_profile : (ws : List WordData) (w : WordData) (after : List WordData) → LacksKeyword (codes "profile") ws → StartsAs is_path_kind ws w after → LacksFitting goes_on after → BeginsProfile ws → ⊥
no_profile ws w after lacks p none (inl a) = lacks a.0 a.1
no_profile ws w after lacks p none (inr a) =
    let e = (starts_same ws a.path w a.after after a.path_stands.words p.words).1 in
    none a.next a.rest (subst (λ (z : List WordData). Fits goes_on z a.next a.rest) e a.next_stands)

path_names : (k : WordKind) → is_path_kind k ≡ true → is_name_kind k ≡ true
path_names Name e = refl
path_names Path e = refl
path_names Quoted e = refl
path_names k e = absurd cc

-- a profile doesn't begin with a sign, or with a rule that is passed over
begins_kind : (ws : List WordData) (w : WordData) (rest : List WordData) → ws ≡ w ∷ rest → BeginsProfile ws → is_name_kind w.kind ≡ true
begins_kind ws w rest e (inl a) = ap is_name_kind (starts_kind ws w a.1.word rest a.0 e a.1.stands.words ∙ a.1.stands.kind_is)
begins_kind ws w rest e (inr a) = ap is_name_kind (starts_kind ws w a.path rest a.after e a.path_stands.words) ∙ path_names a.path.kind a.path_stands.kind_fits

pub profile_or_closes : (ws rest : List WordData) → BeginsProfile ws → Closes ws rest → ⊥
profile_or_closes ws rest a b = false_true (sym (ap is_name_kind b.1.kind_is) ∙ begins_kind ws b.0 rest b.1.words a)

pub profile_or_passed : (ws : List WordData) (k : List ℕ) (rest : List WordData) → BeginsProfile ws → IsPassedOver ws k rest → ⊥
profile_or_passed ws k rest a b = false_true (sym (ap is_name_kind b.stands.kind_is) ∙ begins_kind ws b.skipped rest b.stands.words a)
