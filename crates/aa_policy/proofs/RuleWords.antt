-- What a rule doesn't begin with: the keyword of something else, or the path of a profile.
use Rattle.std.proofs.Common.{◌≡◌, inl, inr, ℕ, List, [], ◌∷◌, refl, sym, ap, subst, ◌∙◌, Some, None, Bool, true, false}
use Rattle.std.specs.Prelude.{codes, ◌||◌}
use Rattle.std.specs.Str.{bytes_eq}
use Rattle.std.proofs.lemmas.Slice.Eq.{bytes_eq-Decides}
use Rattle.aa_words.specs.declared.word.WordKind.{WordKind}
use Rattle.aa_words.specs.declared.word.WordKind.TheVariants.{Name}
use Rattle.aa_words.specs.Splits.{WordData, is_one_of}
use Rattle.aa_rules.specs.declared.tree.Qualifiers.{Qualifiers}
use Rattle.aa_rules.specs.Grammar.{IsPermission, IsQualified, Says, IsRule}
use Rattle.aa_rules.specs.declared.modes.Mode.{Mode}
use Rattle.aa_rules.specs.FileRules.{IsMode, IsPair, IsEntry, IsFile}
use Rattle.aa_rules.specs.Modes.{mode_of, letters_bits}
use Rattle.aa_policy.specs.Heads.{Fits, goes_on, BeginsPathNamed, BeginsProfile}
use Rattle.aa_rules.specs.Phrases.{Keyword, is_path_kind}
use Rattle.aa_rules.specs.Reading.{EntryData, FileData, RuleData, OnFile, OnCap, OnNet, OnChange, Listed}
use Rattle.aa_rules.proofs.Phrases.{starts_same, starts_kind, keyword_apart, other_left_out, keyword_or_path, left_out, false_true}
use Rattle.aa_rules.proofs.FileWords.{BeginsNoFile, file_or_keyword, abi_begins_none, profile_begins_none, none_some}
use Rattle.aa_rules.proofs.Productions.{unqualified, keyword_or_passed}

permission_left_out : (text : List ℕ) (ws r : List WordData) (b : Bool) (bare : List WordData) → BeginsNoFile text → Keyword text ws r → IsPermission ws b bare → bare ≡ ws
permission_left_out text ws r true bare h k a = absurd (keyword_apart text (codes "deny") ws r bare h.deny k a)
permission_left_out text ws r false bare h k a = other_left_out text (codes "allow") ws r a.1.0 bare h.allow k a.1.1

unqualified_keyword : (text : List ℕ) (ws r : List WordData) (q : Qualifiers) (bare : List WordData) → BeginsNoFile text → Keyword text ws r → IsQualified ws q bare → bare ≡ ws
unqualified_keyword text ws r q bare h k a =
    let o = other_left_out text (codes "audit") ws r q.audit a.after h.audit k a.audit_stands in
    permission_left_out text a.after r q.deny bare h (subst (λ (z : List WordData). Keyword text z r) (sym o) k) a.permission_stands ∙ o

-- ---- another keyword

-- a word with which no rule begins
pub record BeginsNoRule (text : List ℕ) : Type 0 where
  pub no_file : BeginsNoFile text
  pub capability : bytes_eq text (codes "capability") ≡ false
  pub network : bytes_eq text (codes "network") ≡ false
  pub change : bytes_eq text (codes "change_profile") ≡ false

says_or_keyword : (text : List ℕ) (ws r : List WordData) (q : Qualifiers) (x : RuleData) (s : List WordData) → BeginsNoRule text → Keyword text ws r → Says q ws x s → ⊥
says_or_keyword text ws r q (OnFile f) s h k a = file_or_keyword text ws r q f s h.no_file k a
says_or_keyword text ws r q (OnCap c) s h k a = keyword_apart text (codes "capability") ws r a.0 h.capability k a.1
says_or_keyword text ws r q (OnNet n) s h k a = keyword_apart text (codes "network") ws r a.0 h.network k a.1
says_or_keyword text ws r q (OnChange c) s h k a = keyword_apart text (codes "change_profile") ws r a.0 h.change k a.1
says_or_keyword text ws r q (Listed l) s h k a = keyword_or_passed text ws r s l k a

pub rule_or_keyword : (text : List ℕ) (ws : List WordData) (x : RuleData) (r s : List WordData) → BeginsNoRule text → IsRule ws x r → Keyword text ws s → ⊥
rule_or_keyword text ws x r s h a k =
    let u = unqualified_keyword text ws s a.qualifiers a.unqualified h.no_file k a.qualified in
    says_or_keyword text a.unqualified s a.qualifiers x a.after h (subst (λ (z : List WordData). Keyword text z s) (sym u) k) a.says

pub no_rule_begins_abi : BeginsNoRule (codes "abi")
no_rule_begins_abi = record { no_file = abi_begins_none; capability = refl; network = refl; change = refl }

pub no_rule_begins_profile : BeginsNoRule (codes "profile")
no_rule_begins_profile = record { no_file = profile_begins_none; capability = refl; network = refl; change = refl }

-- ---- a profile that is named by its path

-- the words that go on behind such a path are no modes
flags_no_mode : (deny : Bool) → mode_of deny (codes "flags") ≡ None
unfolding mode_of letters_bits
flags_no_mode deny = refl

xattrs_no_mode : (deny : Bool) → mode_of deny (codes "xattrs") ≡ None
unfolding mode_of letters_bits
xattrs_no_mode deny = refl

no_mode_in : (deny : Bool) (text : List ℕ) (b c : Bool) → b ≡ bytes_eq text (codes "flags") → c ≡ bytes_eq text (codes "xattrs") → (b || (c || false)) ≡ true → mode_of deny text ≡ None
no_mode_in deny text true c p q e = ap (mode_of deny) ((bytes_eq-Decides text (codes "flags")).0 (sym p)) ∙ flags_no_mode deny
no_mode_in deny text false true p q e = ap (mode_of deny) ((bytes_eq-Decides text (codes "xattrs")).0 (sym q)) ∙ xattrs_no_mode deny
no_mode_in deny text false false p q e = absurd (false_true e)

no_mode_there : (deny : Bool) (text : List ℕ) → is_one_of (codes "flags" ∷ codes "xattrs" ∷ []) text ≡ true → mode_of deny text ≡ None
no_mode_there deny text e = no_mode_in deny text (bytes_eq text (codes "flags")) (bytes_eq text (codes "xattrs")) refl refl e

-- a path that begins a profile is followed by no mode
goes_on_or_mode : (deny : Bool) (ws : List WordData) (w : WordData) (rest : List WordData) (m : Mode) (s : List WordData) → Fits goes_on ws w rest → IsMode deny ws m s → ⊥
goes_on_or_mode deny ws w rest m s f a =
    let v = starts_same ws a.word w s rest a.stands.words f.words in
    let fits : goes_on Name a.word.text ≡ true = ap (λ (k : WordKind). goes_on k a.word.text) (sym a.stands.kind_is) ∙ ap (λ (x : WordData). goes_on x.kind x.text) v.0 ∙ f.it_fits in
    none_some m (sym (no_mode_there deny a.word.text fits) ∙ a.says)

path_no_name : (w : WordData) → is_path_kind w.kind ≡ true → w.kind ≡ Name → ⊥
path_no_name w e f = false_true (sym (ap is_path_kind f) ∙ e)

pair_or_path : (deny : Bool) (ws : List WordData) (b : BeginsPathNamed ws) (e : EntryData) (s : List WordData) → IsPair deny ws e s → ⊥
pair_or_path deny ws b e s (inl a) =
    let p = starts_same ws a.1.word b.path a.0 b.after a.1.stands.words b.path_stands.words in
    goes_on_or_mode deny b.after b.next b.rest e.mode s b.next_stands (subst (λ (z : List WordData). IsMode deny z e.mode s) p.1 a.2)
pair_or_path deny ws b e s (inr a) = path_no_name b.path b.path_stands.kind_fits (starts_kind ws b.path a.1.word b.after a.0 b.path_stands.words a.1.stands.words ∙ a.1.stands.kind_is)

entry_or_path : (deny : Bool) (ws : List WordData) (b : BeginsPathNamed ws) (e : EntryData) (s : List WordData) → IsEntry deny ws e s → ⊥
entry_or_path deny ws b e s (inl a) = path_no_name b.path b.path_stands.kind_fits (starts_kind ws b.path a.word b.after s b.path_stands.words a.stands.words ∙ a.stands.kind_is)
entry_or_path deny ws b e s (inr a) =
    let o = left_out (codes "file") ws b.path b.after a.named a.bare b.path_stands.words (path_no_name b.path b.path_stands.kind_fits) a.file_stands in
    pair_or_path deny ws b e s (subst (λ (z : List WordData). IsPair deny z e s) o a.pair)

file_or_path : (q : Qualifiers) (ws : List WordData) (b : BeginsPathNamed ws) (f : FileData) (s : List WordData) → IsFile q ws f s → ⊥
file_or_path q ws b f s a =
    let o = left_out (codes "owner") ws b.path b.after f.owner a.bare b.path_stands.words (path_no_name b.path b.path_stands.kind_fits) a.owner_stands in
    entry_or_path q.deny ws b a.entry a.after (subst (λ (z : List WordData). IsEntry q.deny z a.entry a.after) o a.entry_stands)

says_or_path : (q : Qualifiers) (ws : List WordData) (b : BeginsPathNamed ws) (x : RuleData) (s : List WordData) → Says q ws x s → ⊥
says_or_path q ws b (OnFile f) s a = file_or_path q ws b f s a
says_or_path q ws b (OnCap c) s a = keyword_or_path (codes "capability") ws a.0 b.path b.after a.1 b.path_stands
says_or_path q ws b (OnNet n) s a = keyword_or_path (codes "network") ws a.0 b.path b.after a.1 b.path_stands
says_or_path q ws b (OnChange c) s a = keyword_or_path (codes "change_profile") ws a.0 b.path b.after a.1 b.path_stands
says_or_path q ws b (Listed l) s a = false_true (sym (ap is_path_kind a.stands.kind_is) ∙ ap is_path_kind (starts_kind ws a.skipped b.path s b.after a.stands.words b.path_stands.words) ∙ b.path_stands.kind_fits)

-- no rule begins where a profile does
pub rule_or_profile : (ws : List WordData) (x : RuleData) (r : List WordData) → IsRule ws x r → BeginsProfile ws → ⊥
rule_or_profile ws x r a (inl b) = rule_or_keyword (codes "profile") ws x r b.0 no_rule_begins_profile a b.1
rule_or_profile ws x r a (inr b) =
    let u = unqualified ws b.path b.after a.qualifiers a.unqualified b.path_stands.words (path_no_name b.path b.path_stands.kind_fits) a.qualified in
    says_or_path a.qualifiers ws b x a.after (subst (λ (z : List WordData). Says a.qualifiers z x a.after) u a.says)
