-- What a text with its sources spells, and why it spells nothing.
-- Source: own.
use Rattle.std.specs.Prelude.{ℕ, ◌≡◌, List, [], ◌∷◌, ⊤, Ok, Err}
use Rattle.aa_base.specs.declared.fault.PolicyFault.{PolicyFault}
use Rattle.aa_words.specs.declared.word.Word.{Word}
use Rattle.aa_words.specs.Splits.{WordData, words_data, Splits}
use Rattle.aa_words.specs.Stops.{IsFaultOf}
use Rattle.aa_model.specs.declared.policy.Policy.{Policy}
use Rattle.aa_policy.specs.Spelling.{Spells}
use Rattle.aa_policies.specs.Policies.{Source, end_of, IsFaultOfWords, IsFaultOfText, IsPolicyOf}
use Rattle.aa_explain.specs.Places.{PlacesData, ArePlaces}
use Rattle.aa_load.specs.declared.texts.Texts.{Texts}

-- the words of a text, with these sources, spell the policy, and there its profiles and their rules stand
pub record SpellsAt (sources : List Source) (text : List ℕ) (policy : Policy) (places : List PlacesData) : Type 0 where
  pub words : List WordData
  pub split : Splits sources text words
  pub spelled : Spells words policy
  pub placed : ArePlaces words places

-- why a text spells no policy: it has no words, or they spell none
pub data IsUnspelled (sources : List Source) (text : List ℕ) (e : PolicyFault) : Type 0 where
  OfText : ((words : List WordData) → Splits sources text words → ⊥) → IsFaultOf sources text e → IsUnspelled sources text e
  OfWords : (words : List Word) → Splits sources text (words_data words) → IsFaultOfWords words (end_of text) e → IsUnspelled sources text e

-- the main text, with the sources that could be handed in, spells the policy
abbrev pub IsRead : Texts → Policy → List PlacesData → Type 0
IsRead t policy places = (sources : List Source) × (t.sources.now ≡ Ok sources) × SpellsAt sources t.main.now policy places

-- why no policy is spelled: the sources couldn't be handed in, or the main text spells none with them
pub data IsUnread (t : Texts) (e : PolicyFault) : Type 0 where
  OfSources : t.sources.now ≡ Err e → IsUnread t e
  OfMain : (sources : List Source) → t.sources.now ≡ Ok sources → IsUnspelled sources t.main.now e → IsUnread t e

-- by themselves the texts are a policy that compiles
abbrev pub IsGood : ℕ → Texts → Type 0
IsGood limit t = (sources : List Source) × (t.sources.now ≡ Ok sources) × ((policy : Policy) × IsPolicyOf sources limit t.main.now policy)

-- so each of some
abbrev pub AreGood : ℕ → List Texts → Type 0
AreGood limit [] = ⊤
AreGood limit (t ∷ ts) = IsGood limit t × AreGood limit ts

-- why they are refused by themselves: the sources couldn't be handed in, or the main text is no policy that compiles
pub data IsRefusedAlone (limit : ℕ) (t : Texts) (e : PolicyFault) : Type 0 where
  NoSources : t.sources.now ≡ Err e → IsRefusedAlone limit t e
  NoPolicy : (sources : List Source) → t.sources.now ≡ Ok sources → IsFaultOfText sources limit t.main.now e → IsRefusedAlone limit t e
