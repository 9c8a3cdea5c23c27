-- A rule on changes of profile reads in one way alone.
use Rattle.std.proofs.Common.{◌≡◌, ℕ, List, refl, sym, ap, ◌∙◌, Option, Some, None}
use Rattle.aa_base.specs.declared.fault.Spot.{Spot}
use Rattle.aa_words.specs.declared.word.WordKind.TheVariants.{Arrow}
use Rattle.aa_words.specs.Splits.{WordData}
use Rattle.aa_rules.specs.declared.tree.Qualifiers.{Qualifiers}
use Rattle.aa_rules.specs.ChangeRules.{IsAim, IsAnyAim, IsChanges}
use Rattle.aa_rules.specs.Phrases.{Starts, spot_of}
use Rattle.aa_rules.specs.Reading.{NameData, ChangeData}
use Rattle.aa_rules.proofs.Phrases.{starts_same}

abbrev name : Spot → List ℕ → NameData
name at text = record { at = at; text = text }

abbrev change : Qualifiers → Option NameData → ChangeData
change q n = record { qualifiers = q; name = n }

aim_once : (ws : List WordData) (n m : NameData) (r s : List WordData) → IsAim ws n r → IsAim ws m s → (n ≡ m) × (r ≡ s)
aim_once ws n m r s a b =
    let w = starts_same ws a.arrow b.arrow a.after b.after a.arrow_stands.words b.arrow_stands.words in
    let v = starts_same b.after a.word b.word r s (sym w.1 ∙ a.stands.words) b.stands.words in
    let at : n.at ≡ m.at = a.at_is ∙ ap (λ (x : WordData). spot_of x) v.0 ∙ sym b.at_is in
    let text : n.text ≡ m.text = a.text_is ∙ ap (λ (x : WordData). x.text) v.0 ∙ sym b.text_is in
    (ap (λ (x : Spot). name x n.text) at ∙ ap (name m.at) text, v.1)

any_aim_once : (ws : List WordData) (n m : Option NameData) (r s : List WordData) → IsAnyAim ws n r → IsAnyAim ws m s → (n ≡ m) × (r ≡ s)
any_aim_once ws None None r s a b = (refl, a.0 ∙ sym b.0)
any_aim_once ws None (Some m) r s a b = absurd (a.1 b.arrow b.after b.arrow_stands)
any_aim_once ws (Some n) None r s a b = absurd (b.1 a.arrow a.after a.arrow_stands)
any_aim_once ws (Some n) (Some m) r s a b = let p = aim_once ws n m r s a b in (ap Some p.0, p.1)

pub changes_once : (q : Qualifiers) (ws : List WordData) (c d : ChangeData) (r s : List WordData) → IsChanges q ws c r → IsChanges q ws d s → (c ≡ d) × (r ≡ s)
changes_once q ws c d r s a b =
    let p = any_aim_once ws c.name d.name r s a.aim_stands b.aim_stands in
    (ap (λ (x : Qualifiers). change x c.name) (a.qualifiers_are ∙ sym b.qualifiers_are) ∙ ap (change d.qualifiers) p.0, p.1)

-- an arrow behind which no name stands
pub no_aim : (ws : List WordData) → ((n : NameData) (r : List WordData) → IsAim ws n r → ⊥) → (w : WordData) (after : List WordData) → Starts Arrow ws w after
    → (n : Option NameData) (rest : List WordData) → IsAnyAim ws n rest → ⊥
no_aim ws none w after h None rest a = a.1 w after h
no_aim ws none w after h (Some n) rest a = none n rest a

pub no_changes : (q : Qualifiers) (ws : List WordData) → ((n : Option NameData) (r : List WordData) → IsAnyAim ws n r → ⊥) → (c : ChangeData) (rest : List WordData) → IsChanges q ws c rest → ⊥
no_changes q ws none c rest a = none c.name rest a.aim_stands
