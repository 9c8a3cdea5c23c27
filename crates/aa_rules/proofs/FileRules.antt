-- File rules read in one way alone.
use Rattle.std.proofs.Common.{◌≡◌, ◌⊎◌, inl, inr, ℕ, List, ◌∷◌, refl, sym, ap, subst, ◌∙◌, Option, Some, None, Bool, true, false}
use Rattle.std.specs.Prelude.{codes}
use Rattle.std.specs.Option.{IfNone}
use Rattle.std.proofs.lemmas.Option.{same_Some}
use Rattle.aa_base.specs.declared.fault.Spot.{Spot}
use Rattle.aa_words.specs.declared.word.WordKind.{WordKind}
use Rattle.aa_words.specs.declared.word.WordKind.TheVariants.{Arrow, Comma, Name}
use Rattle.aa_words.specs.Splits.{WordData}
use Rattle.aa_base.specs.declared.perms.Perms.{Perms}
use Rattle.aa_rules.specs.declared.modes.ExecMode.{ExecMode}
use Rattle.aa_rules.specs.declared.modes.Mode.{Mode}
use Rattle.aa_rules.specs.declared.tree.Qualifiers.{Qualifiers}
use Rattle.aa_rules.specs.Modes.{mode_of}
use Rattle.aa_rules.specs.FileRules.{IsPath, IsMode, IsPathFirst, IsModeFirst, IsPair, IsWhole, IsLeftOut, IsPathAndMode, IsEntry, IsArrow, IsTarget, exec_with, IsFile}
use Rattle.aa_rules.specs.Names.{is_left_out}
use Rattle.aa_rules.specs.Phrases.{Starts, StartsAs, Lacks, Optional, spot_of, is_path_kind}
use Rattle.aa_rules.specs.Reading.{EntryData, ExecData, FileData}
use Rattle.aa_rules.proofs.Phrases.{starts_same, starts_kind, keyword_once, optional_once, false_true, left_out}

abbrev entry : Spot → List ℕ → Mode → EntryData
entry at path mode = record { at = at; path = path; mode = mode }

entry_same : (e f : EntryData) → e.at ≡ f.at → e.path ≡ f.path → e.mode ≡ f.mode → e ≡ f
entry_same e f at path mode =
    ap (λ (x : Spot). entry x e.path e.mode) at ∙ ap (λ (x : List ℕ). entry f.at x e.mode) path ∙ ap (entry f.at f.path) mode

path_once : (ws : List WordData) (e f : EntryData) (r s : List WordData) → IsPath ws e r → IsPath ws f s → (e.at ≡ f.at) × (e.path ≡ f.path) × (r ≡ s)
path_once ws e f r s a b =
    let w = starts_same ws a.word b.word r s a.stands.words b.stands.words in
    (a.at_is ∙ ap spot_of w.0 ∙ sym b.at_is, a.path_is ∙ ap (λ (x : WordData). x.text) w.0 ∙ sym b.path_is, w.1)

mode_once : (deny : Bool) (ws : List WordData) (m n : Mode) (r s : List WordData) → IsMode deny ws m r → IsMode deny ws n s → (m ≡ n) × (r ≡ s)
mode_once deny ws m n r s a b =
    let w = starts_same ws a.word b.word r s a.stands.words b.stands.words in
    (same_Some m n (sym a.says ∙ ap (λ (x : WordData). mode_of deny x.text) w.0 ∙ b.says), w.1)

-- a word is no path where it is of another kind
path_kind : (ws : List WordData) (w : WordData) (kind : WordKind) (e : EntryData) (rest r : List WordData) → Starts kind ws w rest → is_path_kind kind ≡ false → IsPath ws e r → ⊥
path_kind ws w kind e rest r s k a =
    false_true (sym k ∙ ap is_path_kind (sym s.kind_is ∙ starts_kind ws w a.word rest r s.words a.stands.words) ∙ a.stands.kind_fits)

-- nor is it a mode
mode_kind : (deny : Bool) (ws : List WordData) (w : WordData) (kind : WordKind) (m : Mode) (rest r : List WordData) → Starts kind ws w rest → (kind ≡ Name → ⊥) → IsMode deny ws m r → ⊥
mode_kind deny ws w kind m rest r s h a = h (sym s.kind_is ∙ starts_kind ws w a.word rest r s.words a.stands.words ∙ a.stands.kind_is)

pair_once : (deny : Bool) (ws : List WordData) (e f : EntryData) (r s : List WordData) → IsPair deny ws e r → IsPair deny ws f s → (e ≡ f) × (r ≡ s)
pair_once deny ws e f r s (inl a) (inl b) =
    let p = path_once ws e f a.0 b.0 a.1 b.1 in
    let m = mode_once deny b.0 e.mode f.mode r s (subst (λ (z : List WordData). IsMode deny z e.mode r) p.2 a.2) b.2 in
    (entry_same e f p.0 p.1 m.0, m.1)
pair_once deny ws e f r s (inl a) (inr b) = absurd (path_kind ws b.1.word Name e b.0 a.0 b.1.stands refl a.1)
pair_once deny ws e f r s (inr a) (inl b) = absurd (path_kind ws a.1.word Name f a.0 b.0 a.1.stands refl b.1)
pair_once deny ws e f r s (inr a) (inr b) =
    let m = mode_once deny ws e.mode f.mode a.0 b.0 a.1 b.1 in
    let p = path_once b.0 e f r s (subst (λ (z : List WordData). IsPath z e r) m.1 a.2) b.2 in
    (entry_same e f p.0 p.1 m.0, p.2)

comma_name : Comma ≡ Name → ⊥
comma_name e = cc

-- no path and mode begin with a comma
pair_comma : (deny : Bool) (ws : List WordData) (w : WordData) (rest : List WordData) (e : EntryData) (r : List WordData) → Starts Comma ws w rest → IsPair deny ws e r → ⊥
pair_comma deny ws w rest e r s (inl a) = path_kind ws w Comma e rest a.0 s refl a.1
pair_comma deny ws w rest e r s (inr a) = mode_kind deny ws w Comma e.mode rest a.0 s comma_name a.1

-- `file` by itself is not one before a path and a mode
whole_apart : (deny : Bool) (ws : List WordData) (e f : EntryData) (r s : List WordData) (named : Bool) (bare : List WordData)
    → IsWhole deny ws e r → Optional (codes "file") ws named bare → IsPair deny bare f s → ⊥
whole_apart deny ws e f r s true bare a o p =
    let k = keyword_once (codes "file") ws r bare (record { word = a.word; stands = a.stands; is_it = a.is_it }) o in
    pair_comma deny r a.comma a.after f s a.comma_stands (subst (λ (z : List WordData). IsPair deny z f s) (sym k) p)
whole_apart deny ws e f r s false bare a o p = o.1 r (record { word = a.word; stands = a.stands; is_it = a.is_it })

whole_once : (deny : Bool) (ws : List WordData) (e f : EntryData) (r s : List WordData) → IsWhole deny ws e r → IsWhole deny ws f s → (e ≡ f) × (r ≡ s)
whole_once deny ws e f r s a b =
    let w = starts_same ws a.word b.word r s a.stands.words b.stands.words in
    (entry_same e f (a.at_is ∙ ap spot_of w.0 ∙ sym b.at_is) (a.path_is ∙ sym b.path_is) (same_Some e.mode f.mode (sym a.says ∙ b.says)), w.1)

entry_once : (deny : Bool) (ws : List WordData) (e f : EntryData) (r s : List WordData) → IsEntry deny ws e r → IsEntry deny ws f s → (e ≡ f) × (r ≡ s)
entry_once deny ws e f r s (inl a) (inl b) = whole_once deny ws e f r s a b
entry_once deny ws e f r s (inl a) (inr b) = absurd (whole_apart deny ws e f r s b.named b.bare a b.file_stands b.pair)
entry_once deny ws e f r s (inr a) (inl b) = absurd (whole_apart deny ws f e s r a.named a.bare b a.file_stands a.pair)
entry_once deny ws e f r s (inr a) (inr b) =
    let o = optional_once (codes "file") ws a.named b.named a.bare b.bare a.file_stands b.file_stands in
    pair_once deny b.bare e f r s (subst (λ (z : List WordData). IsPair deny z e r) o.1 a.pair) b.pair

arrow_once : (exec : Option ExecMode) (ws : List WordData) (n m : List ℕ) (r s : List WordData) → IsArrow exec ws n r → IsArrow exec ws m s → (n ≡ m) × (r ≡ s)
arrow_once exec ws n m r s a b =
    let w = starts_same ws a.arrow b.arrow a.after b.after a.arrow_stands.words b.arrow_stands.words in
    let v = starts_same b.after a.word b.word r s (sym w.1 ∙ a.stands.words) b.stands.words in
    (a.name_is ∙ ap (λ (x : WordData). x.text) v.0 ∙ sym b.name_is, v.1)

target_once : (exec : Option ExecMode) (ws : List WordData) (t u : Option (List ℕ)) (r s : List WordData) → IsTarget exec ws t r → IsTarget exec ws u s → (t ≡ u) × (r ≡ s)
target_once exec ws None None r s a b = (refl, a.0 ∙ sym b.0)
target_once exec ws None (Some n) r s a b = absurd (a.1 b.arrow b.after b.arrow_stands)
target_once exec ws (Some n) None r s a b = absurd (b.1 a.arrow a.after a.arrow_stands)
target_once exec ws (Some n) (Some m) r s a b = let p = arrow_once exec ws n m r s a b in (ap Some p.0, p.1)

abbrev file : Qualifiers → Bool → Spot → List ℕ → Perms → Option ExecData → FileData
file q owner at path p exec = record { qualifiers = q; owner = owner; at = at; path = path; perms = p; exec = exec }

-- what is read of the words says what the rule is
file_says : (q : Qualifiers) (ws : List WordData) (f : FileData) (r : List WordData) (a : IsFile q ws f r)
    → f ≡ file q f.owner a.entry.at a.entry.path a.entry.mode.perms (exec_with a.target a.entry.mode.exec)
file_says q ws f r a =
    ap (λ (x : Qualifiers). file x f.owner f.at f.path f.perms f.exec) a.qualifiers_are
    ∙ ap (λ (x : Spot). file q f.owner x f.path f.perms f.exec) a.at_is
    ∙ ap (λ (x : List ℕ). file q f.owner a.entry.at x f.perms f.exec) a.path_is
    ∙ ap (λ (x : Perms). file q f.owner a.entry.at a.entry.path x f.exec) a.perms_are
    ∙ ap (file q f.owner a.entry.at a.entry.path a.entry.mode.perms) a.exec_is

target_moved : (e f : EntryData) (ws vs : List WordData) (t : Option (List ℕ)) (r : List WordData) → e ≡ f → ws ≡ vs → IsTarget e.mode.exec ws t r → IsTarget f.mode.exec vs t r
target_moved e f ws vs t r h k a =
    subst (λ (x : EntryData). IsTarget x.mode.exec vs t r) h (subst (λ (z : List WordData). IsTarget e.mode.exec z t r) k a)

pub file_once : (q : Qualifiers) (ws : List WordData) (f g : FileData) (r s : List WordData) → IsFile q ws f r → IsFile q ws g s → (f ≡ g) × (r ≡ s)
file_once q ws f g r s a b =
    let o = optional_once (codes "owner") ws f.owner g.owner a.bare b.bare a.owner_stands b.owner_stands in
    let e = entry_once q.deny b.bare a.entry b.entry a.after b.after (subst (λ (z : List WordData). IsEntry q.deny z a.entry a.after) o.1 a.entry_stands) b.entry_stands in
    let t = target_once b.entry.mode.exec b.after a.target b.target r s (target_moved a.entry b.entry a.after b.after a.target r e.0 e.1 a.target_stands) b.target_stands in
    let same : f ≡ g =
    file_says q ws f r a
    ∙ ap (λ (x : Bool). file q x a.entry.at a.entry.path a.entry.mode.perms (exec_with a.target a.entry.mode.exec)) o.0
    ∙ ap (λ (x : EntryData). file q g.owner x.at x.path x.mode.perms (exec_with a.target x.mode.exec)) e.0
    ∙ ap (λ (x : Option (List ℕ)). file q g.owner b.entry.at b.entry.path b.entry.mode.perms (exec_with x b.entry.mode.exec)) t.0
    ∙ sym (file_says q ws g s b) in
    (same, t.1)

-- ---- what may stand first

pair_begins : (deny : Bool) (ws : List WordData) (w : WordData) (rest : List WordData) (e : EntryData) (r : List WordData) → ws ≡ w ∷ rest → (w.kind ≡ Name → ⊥) → IsPair deny ws e r → is_path_kind w.kind ≡ true
pair_begins deny ws w rest e r h g (inl a) = ap is_path_kind (starts_kind ws w a.1.word rest a.0 h a.1.stands.words) ∙ a.1.stands.kind_fits
pair_begins deny ws w rest e r h g (inr a) = absurd (g (starts_kind ws w a.1.word rest a.0 h a.1.stands.words ∙ a.1.stands.kind_is))

entry_begins : (deny : Bool) (ws : List WordData) (w : WordData) (rest : List WordData) (e : EntryData) (r : List WordData) → ws ≡ w ∷ rest → (w.kind ≡ Name → ⊥) → IsEntry deny ws e r → is_path_kind w.kind ≡ true
entry_begins deny ws w rest e r h g (inl a) = absurd (g (starts_kind ws w a.word rest r h a.stands.words ∙ a.stands.kind_is))
entry_begins deny ws w rest e r h g (inr a) =
    let o = left_out (codes "file") ws w rest a.named a.bare h g a.file_stands in
    pair_begins deny a.bare w rest e r (o ∙ h) g a.pair

-- a file rule begins with a name or a path
pub file_begins : (q : Qualifiers) (ws : List WordData) (w : WordData) (rest : List WordData) (f : FileData) (r : List WordData) → ws ≡ w ∷ rest → (w.kind ≡ Name → ⊥) → IsFile q ws f r → is_path_kind w.kind ≡ true
file_begins q ws w rest f r h g a =
    let o = left_out (codes "owner") ws w rest f.owner a.bare h g a.owner_stands in
    entry_begins q.deny a.bare w rest a.entry a.after (o ∙ h) g a.entry_stands

-- ---- what is missing

pub no_path_first : (deny : Bool) (ws : List WordData) (path : WordData) (after : List WordData) → StartsAs is_path_kind ws path after
    → ((m : Mode) (r : List WordData) → IsMode deny after m r → ⊥) → (e : EntryData) (rest : List WordData) → IsPathFirst deny ws e rest → ⊥
no_path_first deny ws path after h none e rest a =
    let w = starts_same ws a.1.word path a.0 after a.1.stands.words h.words in
    none e.mode rest (subst (λ (z : List WordData). IsMode deny z e.mode rest) w.1 a.2)

pub no_mode_first : (deny : Bool) (ws : List WordData) (m : Mode) (after : List WordData) → IsMode deny ws m after
    → ((w : WordData) (r : List WordData) → StartsAs is_path_kind after w r → ⊥) → (e : EntryData) (rest : List WordData) → IsModeFirst deny ws e rest → ⊥
no_mode_first deny ws m after h none e rest a =
    let w = mode_once deny ws e.mode m a.0 after a.1 h in
    none a.2.word rest (subst (λ (z : List WordData). StartsAs is_path_kind z a.2.word rest) w.1 a.2.stands)

pub no_named : (deny : Bool) (ws : List WordData) (named : Bool) (bare : List WordData) → Optional (codes "file") ws named bare
    → ((e : EntryData) (r : List WordData) → IsPair deny bare e r → ⊥) → (e : EntryData) (rest : List WordData) → IsPathAndMode deny ws e rest → ⊥
no_named deny ws named bare h none e rest a =
    let o = optional_once (codes "file") ws a.named named a.bare bare a.file_stands h in
    none e rest (subst (λ (z : List WordData). IsPair deny z e rest) o.1 a.pair)

-- a word that is left out begins no path and mode
pub none_left_out : (deny : Bool) (ws : List WordData) → IsLeftOut ws → (e : EntryData) (rest : List WordData) → IsPathAndMode deny ws e rest → ⊥
none_left_out deny ws h e rest a = a.read h

-- a name is left out where it stands, or it isn't
pub read_here : (ws : List WordData) (w : WordData) (after : List WordData) → Starts Name ws w after → is_left_out w.text ≡ false → IsLeftOut ws → ⊥
read_here ws w after h none a =
    false_true (sym none ∙ ap (λ (x : WordData). is_left_out x.text) (starts_same ws w a.word after a.rest h.words a.stands.words).0 ∙ a.left_out)

pub read_without : (ws : List WordData) → Lacks Name ws → IsLeftOut ws → ⊥
read_without ws none a = none a.word a.rest a.stands

pub no_either : {A B : EntryData → List WordData → Type 0} → ((e : EntryData) (r : List WordData) → A e r → ⊥) → ((e : EntryData) (r : List WordData) → B e r → ⊥)
    → (e : EntryData) (r : List WordData) → A e r ⊎ B e r → ⊥
no_either h g e r (inl a) = h e r a
no_either h g e r (inr b) = g e r b

pub if_none : {X P Q : Type 0} (r : Option X) → (P → Q) → IfNone r P → IfNone r Q
if_none None h p = h p
if_none (Some x) h p = tt

pub no_target : (exec : Option ExecMode) (ws : List WordData) → ((n : List ℕ) (r : List WordData) → IsArrow exec ws n r → ⊥) → (w : WordData) (after : List WordData) → Starts Arrow ws w after
    → (t : Option (List ℕ)) (rest : List WordData) → IsTarget exec ws t rest → ⊥
no_target exec ws none w after h None rest a = a.1 w after h
no_target exec ws none w after h (Some n) rest a = none n rest a

-- a rule without what it grants, and one without a right name behind its arrow
pub no_entry : (q : Qualifiers) (ws : List WordData) (owner : Bool) (bare : List WordData) → Optional (codes "owner") ws owner bare
    → ((e : EntryData) (r : List WordData) → IsEntry q.deny bare e r → ⊥) → (f : FileData) (rest : List WordData) → IsFile q ws f rest → ⊥
no_entry q ws owner bare h none f rest a =
    let o = optional_once (codes "owner") ws f.owner owner a.bare bare a.owner_stands h in
    none a.entry a.after (subst (λ (z : List WordData). IsEntry q.deny z a.entry a.after) o.1 a.entry_stands)

pub no_name : (q : Qualifiers) (ws : List WordData) (owner : Bool) (bare : List WordData) (e : EntryData) (after : List WordData) → Optional (codes "owner") ws owner bare → IsEntry q.deny bare e after
    → ((t : Option (List ℕ)) (r : List WordData) → IsTarget e.mode.exec after t r → ⊥) → (f : FileData) (rest : List WordData) → IsFile q ws f rest → ⊥
no_name q ws owner bare e after h i none f rest a =
    let o = optional_once (codes "owner") ws f.owner owner a.bare bare a.owner_stands h in
    let p = entry_once q.deny bare a.entry e a.after after (subst (λ (z : List WordData). IsEntry q.deny z a.entry a.after) o.1 a.entry_stands) i in
    none a.target rest (target_moved a.entry e a.after after a.target rest p.0 p.1 a.target_stands)
