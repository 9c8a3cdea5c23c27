-- The best of all requests that stand for a word is the word's.
use Rattle.std.proofs.Common.{◌≡◌, ◌⊎◌, ℕ, ◌+◌, ◌<◌, ◌≤◌, List, length, get_or, Bool, true, false}
use Rattle.std.proofs.Common.{Option, Some, None, refl, sym, ap, ◌∙◌, subst, arith, ⊎_elim}
use Rattle.std.proofs.lemmas.Bool.{cases_lt}
use Rattle.std.proofs.lemmas.List.{get_or_default}
use Rattle.aa_model.specs.declared.policy.Policy.{Policy}
use Rattle.aa_model.specs.declared.label.Label.{Label}
use Rattle.aa_model.specs.declared.request.Request.{Request}
use Rattle.aa_mediate.specs.Reply.{reply}
use Rattle.aa_quantifiers.specs.declared.word.Word.{Word}
use Rattle.aa_quantifiers.specs.declared.order.Order.{Order}
use Rattle.aa_quantifiers.specs.Words.{IsOf}
use Rattle.aa_quantifiers.specs.Orders.{Before, Precedes, Follows}
use Rattle.aa_quantifiers.specs.declared.aim.Aim.{Aim}
use Rattle.aa_quantifiers.specs.declared.aim.Aim.TheVariants.{Answered}
use Rattle.aa_quantifiers.specs.declared.aim.First.{First}
use Rattle.aa_quantifiers.specs.declared.aim.First.TheVariants as first
use Rattle.aa_quantifiers.specs.Quantities.{grants, IsAnswered, IsFirstOf, AllAre, StandForWord, IsAmong, IsBest}
use Rattle.aa_quantifiers.specs.Aims.{Meets, IsMet, IsFirstBy, IsOther}
use Rattle.aa_quantifiers.proofs.Ordered.{itself, then}

is_true : (b : Bool) → (b ≡ false → ⊥) → b ≡ true
is_true true f = refl
is_true false f = absurd (f refl)

is_false : (b : Bool) → (b ≡ true → ⊥) → b ≡ false
is_false true f = absurd (f refl)
is_false false f = refl

module _ (ps : List Policy) (l : Label) (order : Order) (w : Word) (rs : List Request) (stand : StandForWord ps l order w rs) where
  -- requests with one answer are alike
  met_alike : (aim : Aim) (r q : Request) → reply ps l r ≡ reply ps l q → IsMet ps l aim r → IsMet ps l aim q
  met_alike aim r q same met = subst (Meets aim) same met

  pub first_is : (aim : Aim) (r : Request) → IsBest order (IsMet ps l aim) rs (length rs) (Some r) → IsFirstOf w order (IsMet ps l aim) r
  first_is aim r best = record {
    is = stand.each r best.0;
    answer = best.1;
    first = λ q is answer. let s = stand.all q is in then order r s.0 q (best.2 s.0 s.1 (met_alike aim q s.0 s.2 answer)) s.3;
  }

  pub none_met : (aim : Aim) → IsBest order (IsMet ps l aim) rs (length rs) None → (r : Request) → IsOf w r → IsMet ps l aim r → ⊥
  none_met aim none r is answer = let s = stand.all r is in none s.0 s.1 (met_alike aim r s.0 s.2 answer)

  pub answered_is : (granted : Bool) (r : Request) → IsBest order (IsMet ps l (Answered granted)) rs (length rs) (Some r)
      → IsFirstOf w order (IsAnswered ps l granted) r
  answered_is granted r best = let f = first_is (Answered granted) r best in record { is = f.is; answer = f.answer; first = f.first }

  none_is : (granted : Bool) → IsBest order (IsMet ps l (Answered granted)) rs (length rs) None
      → (r : Request) → IsOf w r → IsAnswered ps l granted r → ⊥
  none_is granted none r is answer = none_met (Answered granted) none r is answer

  -- where no request stands for the word it asks nothing; one that stands for it is its own
  pub asks_nothing : length rs ≡ 0 → (r : Request) → IsOf w r → ⊥
  asks_nothing none r is = let s = stand.all r is in omega (arith, none, s.1.1)

  pub none_first : (aim : Aim) (f : First) → IsBest order (IsMet ps l aim) rs (length rs) None → IsOther rs f → IsFirstBy order ps l w aim f
  none_first aim (first.Some r) none other = absurd other
  none_first aim (first.None r) none other = (stand.each r other, none_met aim none)

  pub all_granted : IsBest order (IsMet ps l (Answered false)) rs (length rs) None → AllAre ps l w true
  all_granted none r is = is_true (grants (reply ps l r)) (none_is false none r is)

  pub all_refused : IsBest order (IsMet ps l (Answered true)) rs (length rs) None → AllAre ps l w false
  all_refused none r is = is_false (grants (reply ps l r)) (none_is true none r is)

  pub no_request : IsBest order (IsMet ps l (Answered true)) rs (length rs) None
      → IsBest order (IsMet ps l (Answered false)) rs (length rs) None → (r : Request) → IsOf w r → ⊥
  no_request none other r is = none_is true none r is (all_granted other r is)

-- one request more
module _ (order : Order) (Is : Request → Type 0) (rs : List Request) (n : ℕ) (r : Request) (lt : n < length rs) (here : r ≡ get_or rs n r) where
  earlier : (q : Request) → IsAmong rs n q → IsAmong rs (n + 1) q
  earlier q (k, less, e) = (k, omega (arith, less), e)

  this : IsAmong rs (n + 1) r
  this = (n, omega arith, sym here)

  -- one of the first n + 1 is one of the first n, or this one
  one_of : (P : Request → Type 0) → ((q : Request) → IsAmong rs n q → P q) → P r → (q : Request) → IsAmong rs (n + 1) q → P q
  one_of P before now q (k, less, e) =
      ⊎_elim
      (λ (below : k < n). before q (k, below, e))
      (λ (above : n ≤ k).
      let same : n ≡ k = omega (arith, less, above) in
      subst P (here ∙ get_or_default rs n r q lt ∙ ap (λ (m : ℕ). get_or rs m q) same ∙ e) now)
      (cases_lt k n)

  pub passed : (best : Option Request) → (Is r → ⊥) → IsBest order Is rs n best → IsBest order Is rs (n + 1) best
  passed (Some b) not_so (among, answer, least) = (earlier b among, answer, one_of (λ q. Is q → Before order b q) least (λ so. absurd (not_so so)))
  passed None not_so none = one_of (λ q. Is q → ⊥) none not_so

  pub no_better : (best : Option Request) → Follows order r best → IsBest order Is rs n best → IsBest order Is rs (n + 1) best
  no_better (Some b) later (among, answer, least) = (earlier b among, answer, one_of (λ q. Is q → Before order b q) least (λ so. later))
  no_better None later none = absurd later

  pub taken : (best : Option Request) → Precedes order r best → Is r → IsBest order Is rs n best → IsBest order Is rs (n + 1) (Some r)
  taken best better so is = (this, so, one_of (λ q. Is q → Before order r q) (before best better is) (λ _. itself order r))
    where
      before : (best : Option Request) → Precedes order r best → IsBest order Is rs n best
          → (q : Request) → IsAmong rs n q → Is q → Before order r q
      before (Some b) better (among, answer, least) q in' other = then order r b q better (least q in' other)
      before None better none q in' other = absurd (none q in' other)

  pub passed_over : (best : Option Request) → (Is r → ⊥) ⊎ Follows order r best → IsBest order Is rs n best → IsBest order Is rs (n + 1) best
  passed_over best why is = ⊎_elim (λ (no : Is r → ⊥). passed best no is) (λ (later : Follows order r best). no_better best later is) why
