-- What a file rule doesn't begin with: the keyword of something else.
use Rattle.std.proofs.Common.{◌≡◌, inl, inr, ℕ, List, refl, sym, ap, subst, ◌∙◌, Some, None, Bool, false}
use Rattle.std.specs.Prelude.{codes}
use Rattle.std.specs.Str.{bytes_eq}
use Rattle.std.proofs.lemmas.Slice.Eq.{bytes_eq-Decides}
use Rattle.aa_words.specs.Splits.{WordData}
use Rattle.aa_rules.specs.declared.modes.Mode.{Mode}
use Rattle.aa_rules.specs.declared.tree.Qualifiers.{Qualifiers}
use Rattle.aa_rules.specs.FileRules.{IsMode, IsPair, IsEntry, IsFile}
use Rattle.aa_rules.specs.Modes.{mode_of, letters_bits}
use Rattle.aa_rules.specs.Phrases.{Keyword}
use Rattle.aa_rules.specs.Reading.{EntryData, FileData}
use Rattle.aa_rules.proofs.Phrases.{starts_same, keyword_apart, other_left_out, keyword_or_path}

pub none_some : (m : Mode) → None ≡ Some m → ⊥
none_some m e = cc

-- a word with which no file rule begins, nor its qualifiers: it is none of their words, and no mode
pub record BeginsNoFile (text : List ℕ) : Type 0 where
  pub audit : bytes_eq text (codes "audit") ≡ false
  pub allow : bytes_eq text (codes "allow") ≡ false
  pub deny : bytes_eq text (codes "deny") ≡ false
  pub owner : bytes_eq text (codes "owner") ≡ false
  pub file : bytes_eq text (codes "file") ≡ false
  pub mode : (denied : Bool) → mode_of denied text ≡ None

mode_or_keyword : (text : List ℕ) (ws r : List WordData) (deny : Bool) (m : Mode) (s : List WordData) → mode_of deny text ≡ None → Keyword text ws r → IsMode deny ws m s → ⊥
mode_or_keyword text ws r deny m s none k a =
    let w = starts_same ws a.word k.word s r a.stands.words k.stands.words in
    let same : a.word.text ≡ text = ap (λ (x : WordData). x.text) w.0 ∙ (bytes_eq-Decides k.word.text text).0 k.is_it in
    none_some m (sym none ∙ ap (mode_of deny) (sym same) ∙ a.says)

pair_or_keyword : (text : List ℕ) (ws r : List WordData) (deny : Bool) (e : EntryData) (s : List WordData) → mode_of deny text ≡ None → Keyword text ws r → IsPair deny ws e s → ⊥
pair_or_keyword text ws r deny e s none k (inl a) = keyword_or_path text ws r a.1.word a.0 k a.1.stands
pair_or_keyword text ws r deny e s none k (inr a) = mode_or_keyword text ws r deny e.mode a.0 none k a.1

entry_or_keyword : (text : List ℕ) (ws r : List WordData) (deny : Bool) (e : EntryData) (s : List WordData) → BeginsNoFile text → Keyword text ws r → IsEntry deny ws e s → ⊥
entry_or_keyword text ws r deny e s h k (inl a) = keyword_apart text (codes "file") ws r s h.file k (record { word = a.word; stands = a.stands; is_it = a.is_it })
entry_or_keyword text ws r deny e s h k (inr a) =
    let o = other_left_out text (codes "file") ws r a.named a.bare h.file k a.file_stands in
    pair_or_keyword text a.bare r deny e s (h.mode deny) (subst (λ (z : List WordData). Keyword text z r) (sym o) k) a.pair

pub file_or_keyword : (text : List ℕ) (ws r : List WordData) (q : Qualifiers) (f : FileData) (s : List WordData) → BeginsNoFile text → Keyword text ws r → IsFile q ws f s → ⊥
file_or_keyword text ws r q f s h k a =
    let o = other_left_out text (codes "owner") ws r f.owner a.bare h.owner k a.owner_stands in
    entry_or_keyword text a.bare r q.deny a.entry a.after h (subst (λ (z : List WordData). Keyword text z r) (sym o) k) a.entry_stands

pub capability_begins_none : BeginsNoFile (codes "capability")
unfolding mode_of letters_bits
capability_begins_none = record { audit = refl; allow = refl; deny = refl; owner = refl; file = refl; mode = λ d. refl }

pub network_begins_none : BeginsNoFile (codes "network")
unfolding mode_of letters_bits
network_begins_none = record { audit = refl; allow = refl; deny = refl; owner = refl; file = refl; mode = λ d. refl }

pub change_begins_none : BeginsNoFile (codes "change_profile")
unfolding mode_of letters_bits
change_begins_none = record { audit = refl; allow = refl; deny = refl; owner = refl; file = refl; mode = λ d. refl }

pub abi_begins_none : BeginsNoFile (codes "abi")
unfolding mode_of letters_bits
abi_begins_none = record { audit = refl; allow = refl; deny = refl; owner = refl; file = refl; mode = λ d. refl }

pub profile_begins_none : BeginsNoFile (codes "profile")
unfolding mode_of letters_bits
profile_begins_none = record { audit = refl; allow = refl; deny = refl; owner = refl; file = refl; mode = λ d. refl }
