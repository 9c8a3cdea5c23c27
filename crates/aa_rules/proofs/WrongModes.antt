-- What stands where no file rule is read: no mode before or behind its path.
use Rattle.std.proofs.Common.{◌≡◌, inl, inr, List, refl, sym, ap, ◌∙◌, Option, Some, None, Bool, true, false}
use Rattle.std.specs.Prelude.{codes, is_some}
use Rattle.std.specs.Option.{IfSome}
use Rattle.std.proofs.lemmas.Slice.Eq.{bytes_eq-Decides}
use Rattle.aa_words.specs.declared.word.WordKind.TheVariants.{Name}
use Rattle.aa_words.specs.Splits.{WordData}
use Rattle.aa_rules.specs.declared.modes.Mode.{Mode}
use Rattle.aa_rules.specs.FileRules.{IsMode, IsPair, IsLeftOut, IsEntry}
use Rattle.aa_rules.specs.Modes.{mode_of}
use Rattle.aa_rules.specs.Names.{is_left_out}
use Rattle.aa_rules.specs.Phrases.{Starts, StartsAs, is_path_kind, spot_of, Keyword, LacksAll}
use Rattle.aa_rules.specs.Reading.{EntryData}
use Rattle.aa_rules.proofs.Phrases.{starts_same, starts_kind, keyword_or_path, false_true}

abbrev NoMode : Bool → List WordData → Type 0
NoMode deny ws = (m : Mode) (rest : List WordData) → IsMode deny ws m rest → ⊥

abbrev NoPair : Bool → List WordData → Type 0
NoPair deny ws = (e : EntryData) (rest : List WordData) → IsPair deny ws e rest → ⊥

abbrev NoEntry : Bool → List WordData → Type 0
NoEntry deny ws = (e : EntryData) (rest : List WordData) → IsEntry deny ws e rest → ⊥

says_none : (deny : Bool) (w : WordData) → ((m : Mode) → mode_of deny w.text ≡ Some m → ⊥) → (o : Option Mode) → mode_of deny w.text ≡ o → o ≡ None
says_none deny w none None e = refl
says_none deny w none (Some m) e = absurd (none m e)

-- a name is no mode where none stands
pub no_mode : (deny : Bool) (ws : List WordData) (w : WordData) (after : List WordData) → Starts Name ws w after → NoMode deny ws → mode_of deny w.text ≡ None
no_mode deny ws w after s none = says_none deny w (λ m e. none m after (record { word = w; stands = s; says = e })) (mode_of deny w.text) refl

abbrev entry : WordData → Mode → EntryData
entry path m = record { at = spot_of path; path = path.text; mode = m }

-- no mode stands behind a path
pub behind_path : (deny : Bool) (ws : List WordData) (path : WordData) (after : List WordData) → StartsAs is_path_kind ws path after → NoPair deny ws → NoMode deny after
behind_path deny ws path after h none m rest a =
    none (entry path m) rest (inl (after, record { word = path; stands = h; at_is = refl; path_is = refl }, a))

name_or_path : (ws : List WordData) (path : WordData) (after : List WordData) → StartsAs is_path_kind ws path after → IsLeftOut ws → ⊥
name_or_path ws path after h a =
    false_true (ap is_path_kind (sym a.stands.kind_is ∙ starts_kind ws a.word path a.rest after a.stands.words h.words) ∙ h.kind_fits)

pub path_pair : (deny : Bool) (ws : List WordData) (path : WordData) (after : List WordData) → StartsAs is_path_kind ws path after → NoEntry deny ws → NoPair deny ws
path_pair deny ws path after h none e rest a =
    none e rest (inr (record { read = name_or_path ws path after h; named = false; bare = ws; file_stands = (refl, λ r k. keyword_or_path (codes "file") ws r path after k h); pair = a }))

file_read : (ws bare : List WordData) → Keyword (codes "file") ws bare → IsLeftOut ws → ⊥
unfolding is_left_out
file_read ws bare k a =
    let same = starts_same ws a.word k.word a.rest bare a.stands.words k.stands.words in
    let text = ap (λ (x : WordData). x.text) same.0 ∙ (bytes_eq-Decides k.word.text (codes "file")).0 k.is_it in
    false_true (ap is_left_out (sym text) ∙ a.left_out)

-- no path and mode stand behind `file`
pub behind_file : (deny : Bool) (ws bare : List WordData) → Keyword (codes "file") ws bare → NoEntry deny ws → NoPair deny bare
behind_file deny ws bare k none e rest a =
    none e rest (inr (record { read = file_read ws bare k; named = true; bare = bare; file_stands = k; pair = a }))

-- behind a mode no path stands
pub behind_mode : (deny : Bool) (ws : List WordData) (m : Mode) (after : List WordData) → IsMode deny ws m after → NoPair deny ws → LacksAll is_path_kind after
behind_mode deny ws m after h none path rest p = none (entry path m) rest (inr (after, h, record { word = path; stands = p; at_is = refl; path_is = refl }))

there : (o : Option Mode) → is_some o ≡ true → (m : Mode) × (o ≡ Some m)
there None e = absurd cc
there (Some m) e = (m, refl)

-- a name that is a right mode
pub right_mode : (deny : Bool) (ws : List WordData) (w : WordData) (after : List WordData) → Starts Name ws w after → is_some (mode_of deny w.text) ≡ true → (m : Mode) × IsMode deny ws m after
right_mode deny ws w after s e = let m = there (mode_of deny w.text) e in (m.0, record { word = w; stands = s; says = m.1 })

-- what is said of a result holds of its value where there is one
pub value_there : {X : Type 0} (P : X → Type 0) (o : Option X) → IfSome o P → is_some o ≡ true → (x : X) × P x
value_there P None h e = absurd cc
value_there P (Some x) h e = (x, h)
