-- Where the heads of profiles stand, and their flags without effect.
-- Source: apparmor.d(5), "Profile Head"; own.
use Rattle.std.specs.Prelude.{ℕ, ◌≡◌, List, [], ◌∷◌, ◌++◌, flat_map, Option, Some, None, Bool, true, false, if◌then◌else◌}
use Rattle.aa_base.specs.declared.fault.Spot.{Spot}
use Rattle.aa_words.specs.declared.word.WordKind.{WordKind}
use Rattle.aa_words.specs.declared.word.WordKind.TheVariants.{LeftParen, Name}
use Rattle.aa_words.specs.Splits.{WordData, is_one_of}
use Rattle.aa_rules.specs.Grammar.{spot_of}
use Rattle.aa_policy.specs.Heads.{idle_flags}
use Rattle.aa_explain.specs.declared.places.Extent.{Extent}

-- where the first of some words stands
abbrev pub first_spot : List WordData → Option Spot
first_spot [] = None
first_spot (w ∷ ws) = Some (spot_of w)

-- a word among flags is one of these
abbrev pub is_idle : WordKind → List ℕ → Bool
is_idle Name text = is_one_of idle_flags text
is_idle _ text = false

-- from where to where it goes, if it is one
abbrev pub if_idle : WordData → List Extent
if_idle w = if is_idle w.kind w.text then record { at = spot_of w; end = w.span.end } ∷ [] else []

-- a parenthesis opens
abbrev pub is_paren : WordKind → Bool
is_paren LeftParen = true
is_paren _ = false

-- the words behind the first parenthesis that opens
unfoldable pub behind_paren : List WordData → List WordData
behind_paren [] = []
behind_paren (w ∷ ws) = if is_paren w.kind then ws else behind_paren ws

-- a head's words, before the brace that opens its body: where they begin, where the brace does, and which of those behind a parenthesis are flags without effect
pub record IsPlacedHead (ws : List WordData) (place : Extent) (flags : List Extent) (rest : List WordData) : Type 0 where
  pub words : List WordData
  pub brace : WordData
  pub split : ws ≡ words ++ brace ∷ rest
  pub begins : first_spot ws ≡ Some place.at
  pub ends : place.end ≡ brace.span.start
  pub flags_are : flags ≡ flat_map if_idle (behind_paren words)
