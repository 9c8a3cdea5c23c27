-- Both orders are such.
use Rattle.std.proofs.Common.{◌≡◌, ◌≤◌, List, Bool, true, false, arith}
use Rattle.std.specs.Prelude.{◌↔◌}
use Rattle.aa_model.specs.declared.request.Request.{Request}
use Rattle.aa_unclean_paths.specs.Requests.{IsAtUncleanPath}
use Rattle.aa_quantifiers.specs.declared.order.Order.{Order}
use Rattle.aa_quantifiers.specs.declared.order.Order.TheVariants.{Short, Clean}
use Rattle.aa_quantifiers.specs.declared.word.Word.{Word}
use Rattle.aa_quantifiers.specs.declared.aim.Aim.{Aim}
use Rattle.aa_quantifiers.specs.declared.aim.First.{First}
use Rattle.aa_quantifiers.specs.declared.aim.First.TheVariants as first
use Rattle.aa_quantifiers.specs.declared.quantity.Quantity.{Quantity}
use Rattle.aa_quantifiers.specs.declared.quantity.Quantity.TheVariants.{Every, Partly, Never}
use Rattle.aa_model.specs.declared.policy.Policy.{Policy}
use Rattle.aa_model.specs.declared.label.Label.{Label}
use Rattle.aa_quantifiers.specs.Words.{path_length}
use Rattle.aa_quantifiers.specs.Orders.{ComesFirst, Before}
use Rattle.aa_quantifiers.specs.Quantities.{IsAnswered, IsFirstOf, IsQuantityBy, IsShownClean}
use Rattle.aa_quantifiers.specs.Aims.{IsMet, IsFirstBy, IsFirstClean}

pub itself : (order : Order) (r : Request) → Before order r r
itself Short r = omega arith
itself Clean r = record { clean = λ u. u; short = λ _. omega arith }

pub then : (order : Order) (a b c : Request) → Before order a b → Before order b c → Before order a c
then Short a b c x y = omega (arith, x, y)
then Clean a b c x y = record {
  clean = λ u. y.clean (x.clean u);
  short = λ back.
      let one : path_length a ≤ path_length b = x.short (λ u. back (y.clean u)) in
      let other : path_length b ≤ path_length c = y.short (λ u. x.clean (back u)) in
      omega (arith, one, other);
}

-- by what is told of both
module _ (one other : Request) (is also : Bool) (tells : (is ≡ true) ↔ IsAtUncleanPath one) (tells_also : (also ≡ true) ↔ IsAtUncleanPath other) where
  pub clean_first : is ≡ false → also ≡ true → ComesFirst one other
  clean_first clean unclean = record {
    clean = λ u. absurd (no u);
    short = λ back. absurd (no (back (tells_also.0 unclean)));
  }
    where
      no : IsAtUncleanPath one → ⊥
      no u = let e : is ≡ true = tells.1 u in cc

  pub shorter_first : is ≡ also → path_length one ≤ path_length other → ComesFirst one other
  shorter_first same short = record {
    clean = λ u. let e : is ≡ true = tells.1 u in tells_also.0 cc;
    short = λ _. short;
  }

-- what comes first by length and is at a clean path comes first
first_clean : (w : Word) (Is : Request → Type 0) (r : Request) → IsFirstOf w Short Is r → (IsAtUncleanPath r → ⊥) → IsFirstOf w Clean Is r
first_clean w Is r best clean = record {
  is = best.is;
  answer = best.answer;
  first = λ q is so. record { clean = λ u. absurd (clean u); short = λ _. best.first q is so };
}

pub quantity_clean : (ps : List Policy) (l : Label) (w : Word) (q : Quantity) → IsQuantityBy Short ps l w q → IsShownClean q → IsQuantityBy Clean ps l w q
quantity_clean ps l w (Every granted) is clean = (first_clean w (IsAnswered ps l true) granted is.0 clean, is.1)
quantity_clean ps l w (Partly granted refused) is clean =
    (first_clean w (IsAnswered ps l true) granted is.0 clean.0, first_clean w (IsAnswered ps l false) refused is.1 clean.1)
quantity_clean ps l w (Never refused) is clean = (first_clean w (IsAnswered ps l false) refused is.0 clean, is.1)

pub found_clean : (ps : List Policy) (l : Label) (w : Word) (aim : Aim) (f : First) → IsFirstBy Short ps l w aim f → IsFirstClean f
    → IsFirstBy Clean ps l w aim f
found_clean ps l w aim (first.Some r) is clean = first_clean w (IsMet ps l aim) r is clean
found_clean ps l w aim (first.None r) is clean = is
