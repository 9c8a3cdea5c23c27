-- Flags over the gaps between items, one item and one byte on.
use Rattle.std.proofs.lemmas.Grind.{common_steps}
use Rattle.std.proofs.Common.{◌≡◌, ℕ, ◌+◌, ◌<◌, ◌≤◌, ◌↔◌, Bool, false, List, [], ◌∷◌, ◌++◌, All, length, take, set, get_or, IsTrue, arith, get_or-set_other}
use Rattle.std.proofs.lemmas.List.{take_more}
use Rattle.std.proofs.lemmas.List.Elements.{All-get_or}
use Rattle.aa_pattern.specs.declared.item.Item.{Item}
use Rattle.aa_pattern.specs.Globs.{Matches}
use Rattle.aa_pattern.specs.Steps.{IsSimple, IsSkippable}
use Rattle.aa_pattern.specs.Flags.{StandsIn, Grows}
use Rattle.aa_pattern.proofs.Equivalences.{↔_trans, ↔_sym}
use Rattle.aa_pattern.proofs.Texts.{Matches-skip, Matches-grow}
use Rattle.aa_pattern.proofs.FlagSteps.{grows_same, up_to}

-- the empty text, one item on
pub begins_gap : (items : List Item) (gaps : List Bool) (i : ℕ) (d : Item) (v : Bool) → All IsSimple items → i < length items → i + 1 < length gaps →
    (IsTrue v ↔ (IsTrue (get_or gaps i false) × IsSkippable (get_or items i d))) →
    ((g : ℕ) → g ≤ i → IsTrue (get_or gaps g false) ↔ Matches (take g items) []) →
    (g : ℕ) → g ≤ i + 1 → IsTrue (get_or (set gaps (i + 1) v) g false) ↔ Matches (take g items) []
begins_gap items gaps i d v all lt long same done = grind (arith, common_steps, take_more, All-get_or, Matches-skip, up_to)

-- the flags up to the gap i are those behind the byte, the later ones still those before it
pub record IsOnto (items : List Item) (byte : ℕ) (old new : List Bool) (before : Bool) (i : ℕ) : Type 0 where
  pub before_is : before ≡ get_or old i false
  pub later : (j : ℕ) → i < j → get_or new j false ≡ get_or old j false
  pub done : (text : List ℕ) → StandsIn old items text → (g : ℕ) → g ≤ i → IsTrue (get_or new g false) ↔ Matches (take g items) (text ++ byte ∷ [])

pub onto_next : (items : List Item) (byte : ℕ) (old new : List Bool) (before v : Bool) (i : ℕ) (d : Item) → All IsSimple items → i < length items → i + 1 < length new →
    (IsTrue v ↔ Grows (get_or items i d) byte (IsTrue (get_or new i false)) (IsTrue before) (IsTrue (get_or new (i + 1) false))) →
    IsOnto items byte old new before i → IsOnto items byte old (set new (i + 1) v) (get_or new (i + 1) false) (i + 1)
onto_next items byte old new before v i d all lt long same on = grind (arith, common_steps, get_or-set_other, take_more, All-get_or, ↔_trans, ↔_sym, Matches-grow, grows_same, up_to)
