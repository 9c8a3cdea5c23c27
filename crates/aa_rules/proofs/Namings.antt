-- What stands where a profile's name has to.
use Rattle.std.proofs.Common.{◌≡◌, List, [], ◌∷◌, Bool, true, false, refl, sym, ap, ◌∙◌}
use Rattle.std.specs.Prelude.{if◌then◌else◌}
use Rattle.aa_base.specs.declared.fault.PolicyKind.TheVariants.{Syntax}
use Rattle.aa_words.specs.declared.word.WordKind.{WordKind}
use Rattle.aa_words.specs.Splits.{WordData}
use Rattle.aa_rules.specs.Names.{name_fault}
use Rattle.aa_rules.specs.Phrases.{StartsAs, LacksAll}
use Rattle.aa_rules.specs.RuleFaults.{naming_fault}

-- a word that could be a name is no right one
pub naming_found : (fits : WordKind → Bool) (ws : List WordData) (w : WordData) (rest : List WordData) → StartsAs fits ws w rest → name_fault w.text ≡ naming_fault fits ws
naming_found fits ws w rest s = sym (ap (λ (b : Bool). if b then name_fault w.text else Syntax) s.kind_fits) ∙ ap (naming_fault fits) (sym s.words)

other : (fits : WordKind → Bool) (w : WordData) (ws : List WordData) (b : Bool) → fits w.kind ≡ b → LacksAll fits (w ∷ ws) → Syntax ≡ (if b then name_fault w.text else Syntax)
other fits w ws true e lacks = absurd (lacks w ws (record { words = refl; kind_fits = e }))
other fits w ws false e lacks = refl

-- no word that could be one stands there
pub naming_none : (fits : WordKind → Bool) (ws : List WordData) → LacksAll fits ws → Syntax ≡ naming_fault fits ws
naming_none fits [] lacks = refl
naming_none fits (w ∷ ws) lacks = other fits w ws (fits w.kind) refl lacks
