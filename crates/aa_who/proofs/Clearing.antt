-- What is counted of a word's requests is counted by the policies without complain flags.
use Rattle.std.proofs.Common.{◌≡◌, ◌<◌, ℕ, ◌+◌, List, [], ◌∷◌, ◌++◌, length, codes, Bool, true, false, refl, sym, ap, subst, ◌∙◌, inl, inr, ⊎_elim}
use Rattle.std.specs.Prelude.{decimal}
use Rattle.aa_base.specs.Values.{value}
use Rattle.aa_pattern.specs.declared.pattern.Pattern.{Pattern}
use Rattle.aa_pattern.specs.Limits.{most_patterns}
use Rattle.aa_auto.specs.Tables.{HasPlaces}
use Rattle.aa_model.specs.declared.policy.Policy.{Policy}
use Rattle.aa_model.specs.declared.label.Label.{Label}
use Rattle.aa_model.specs.declared.label.Label.TheVariants.{Unconfined, Confined}
use Rattle.aa_model.specs.declared.request.Request.{Request}
use Rattle.aa_text.specs.Visible.{all_visible}
use Rattle.aa_unclean_paths.specs.Told.{IsUncleanPattern}
use Rattle.aa_quantifiers.specs.declared.word.Word.{Word}
use Rattle.aa_quantifiers.specs.declared.word.Word.TheVariants.{Files, Execs, One}
use Rattle.aa_quantifiers.specs.declared.quantity.Quantity.{Quantity}
use Rattle.aa_quantifiers.specs.declared.quantity.Quantity.TheVariants.{Every, Partly, Never}
use Rattle.aa_quantifiers.specs.Words.{IsOf, beside, and_patterns_at, patterns_at, HavePlaces}
use Rattle.aa_quantifiers.specs.Quantities.{IsAnswered, IsShortestOf, AllAre, IsQuantity}
use Rattle.aa_who.specs.declared.counting.Counted.{Counted}
use Rattle.aa_who.specs.declared.counting.Counted.TheVariants as counted
use Rattle.aa_who.specs.Counts.{asker, states_line, CantTell, ManyPatterns, ManyStates, IsCounted}
use Rattle.aa_who.specs.Enforced.{AreEnforcing, CountsEnforced}
use Rattle.aa_who.proofs.Enforcing.{grants_same, name_same, filing_same, deciding_same}

module _ (ps qs : List Policy) (are : AreEnforcing ps qs) (l : Label) where
  answered_too : (granted : Bool) (r : Request) → IsAnswered ps l granted r → IsAnswered qs l granted r
  answered_too granted r h = sym (grants_same ps qs are l r) ∙ h

  answered_back : (granted : Bool) (r : Request) → IsAnswered qs l granted r → IsAnswered ps l granted r
  answered_back granted r h = grants_same ps qs are l r ∙ h

  first_too : (w : Word) (granted : Bool) (r : Request) → IsShortestOf w (IsAnswered ps l granted) r → IsShortestOf w (IsAnswered qs l granted) r
  first_too w granted r h =
      record { is = h.is; answer = answered_too granted r h.answer; first = λ q asked is. h.first q asked (answered_back granted q is) }

  all_too : (w : Word) (granted : Bool) → AllAre ps l w granted → AllAre qs l w granted
  all_too w granted h r asked = answered_too granted r (h r asked)

  quantity_too : (w : Word) (q : Quantity) → IsQuantity ps l w q → IsQuantity qs l w q
  quantity_too w (Every one) h = (first_too w true one h.0, all_too w true h.1)
  quantity_too w (Partly one other) h = (first_too w true one h.0, first_too w false other h.1)
  quantity_too w (Never other) h = (first_too w false other h.0, all_too w false h.1)

  patterns_same : (more : List Pattern) (w : Word) → and_patterns_at more ps l w ≡ and_patterns_at more qs l w
  patterns_same more (Files w) = ap (λ (xs : List Pattern). beside (more ++ xs) w.pattern) (sym (filing_same ps qs are l))
  patterns_same more (Execs w) = ap (λ (xs : List Pattern). beside (more ++ xs) w.pattern) (sym (deciding_same ps qs are l))
  patterns_same more (One r) = refl

  asker_same : (m : Label) → asker ps m ≡ asker qs m
  asker_same (Unconfined k) = refl
  asker_same (Confined k n) = ap value (sym (name_same ps qs are (Confined k n)))

  line_same : (text rest : List ℕ)
      → (codes "error: at " ++ asker ps l ++ codes " the rules and " ++ all_visible text) ++ rest
      ≡ (codes "error: at " ++ asker qs l ++ codes " the rules and " ++ all_visible text) ++ rest
  line_same text rest = ap (λ (a : List ℕ). (codes "error: at " ++ a ++ codes " the rules and " ++ all_visible text) ++ rest) (asker_same l)

  states_same : (text : List ℕ) (limit : ℕ) → states_line ps l text limit ≡ states_line qs l text limit
  states_same text limit =
      ap (λ (a : List ℕ). (codes "error: at " ++ a ++ codes " the rules and " ++ all_visible text) ++ codes " need more than " ++ decimal limit
      ++ codes " states together; --states allows more\n") (asker_same l)

  places_too : (w : Word) (n : ℕ) → HavePlaces ps l w n → HavePlaces qs l w n
  places_too w n =
      ⊎_elim (λ (h : HasPlaces (patterns_at ps l w) n). inl (subst (λ (xs : List Pattern). HasPlaces xs n) (patterns_same [] w) h))
      (λ (h : (p : Pattern) × IsUncleanPattern p × HasPlaces (and_patterns_at (p ∷ []) ps l w) n).
      inr (h.0, h.1, subst (λ (xs : List Pattern). HasPlaces xs n) (patterns_same (h.0 ∷ []) w) h.2))

  cant_tell : (limit : ℕ) (w : Word) (text line : List ℕ) → CantTell ps limit l w text line → CantTell qs limit l w text line
  cant_tell limit w text line (ManyPatterns many is) =
      ManyPatterns (subst (λ (xs : List Pattern). most_patterns < length xs + 1) (patterns_same [] w) many) (is ∙ line_same text _)
  cant_tell limit w text line (ManyStates places is) = ManyStates (places_too w (limit + 1) places) (is ∙ states_same text limit)

pub counts_enforced : CountsEnforced
counts_enforced ps qs are limit l w text (counted.Told q) h = quantity_too ps qs are l w q h
counts_enforced ps qs are limit l w text (counted.Untold line) h = cant_tell ps qs are l limit w text line.items h
