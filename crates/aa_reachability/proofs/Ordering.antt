-- Requests of which none comes before an earlier one.
use Rattle.std.proofs.Common.{◌≡◌, ◌⊎◌, ℕ, zero, suc, ◌<◌, ◌≤◌, List, [], ◌∷◌, ◌++◌, length, get_or, Contains, inl, inr}
use Rattle.std.proofs.Common.{refl, sym, subst, ⊎_elim, arith, ◌∙◌}
use Rattle.std.specs.List.Sorted.{IsNonDecreasingBy}
use Rattle.std.proofs.lemmas.List.Elements.{Contains-append_cases}
use Rattle.aa_model.specs.declared.request.Request.{Request}
use Rattle.aa_model.specs.declared.request.Request.TheVariants.{File, Link, Exec, Cap, Net, Change, Reload}
use Rattle.aa_representatives.specs.Askable.{IsExec, IsChange, IsReload}
use Rattle.aa_reachability.specs.Order.{kind_number, text_length, IsNoLater, IsInOrder}
use Rattle.aa_reachability.proofs.Elements.{head_in, tail_in}

pub no_later_same : (r : Request) → IsNoLater r r
no_later_same r = inr (refl, omega arith)

pub no_later_on : (a b c : Request) → IsNoLater a b → IsNoLater b c → IsNoLater a c
no_later_on a b c (inl x) (inl y) = inl (omega (arith, x, y))
no_later_on a b c (inl x) (inr y) = inl (omega (arith, x, y.0))
no_later_on a b c (inr x) (inl y) = inl (omega (arith, x.0, y))
no_later_on a b c (inr x) (inr y) = inr (x.0 ∙ y.0, omega (arith, x.1, y.1))

exec_number : (r : Request) → IsExec r → kind_number r ≡ 0
exec_number (Exec r) is = refl
exec_number (File r) is = absurd is
exec_number (Link r) is = absurd is
exec_number (Cap c) is = absurd is
exec_number (Net f s) is = absurd is
exec_number (Change name) is = absurd is
exec_number (Reload m) is = absurd is

change_number : (r : Request) → IsChange r → kind_number r ≡ 1
change_number (Change name) is = refl
change_number (File r) is = absurd is
change_number (Link r) is = absurd is
change_number (Exec r) is = absurd is
change_number (Cap c) is = absurd is
change_number (Net f s) is = absurd is
change_number (Reload m) is = absurd is

reload_number : (r : Request) → IsReload r → (kind_number r ≡ 2) × (text_length r ≡ 0)
reload_number (Reload m) is = (refl, refl)
reload_number (File r) is = absurd is
reload_number (Link r) is = absurd is
reload_number (Exec r) is = absurd is
reload_number (Cap c) is = absurd is
reload_number (Net f s) is = absurd is
reload_number (Change name) is = absurd is

pub reload_no_later : (r q : Request) → IsReload r → IsReload q → IsNoLater q r
reload_no_later r q a b =
    let x = reload_number r a in
    let y = reload_number q b in
    inr (y.0 ∙ sym x.0, omega (arith, x.1, y.1))

both_in_order : (xs ys : List Request) → IsInOrder xs → IsInOrder ys → ((q r : Request) → Contains xs q → Contains ys r → IsNoLater q r) → IsInOrder (xs ++ ys)
both_in_order [] ys a b between = b
both_in_order (x ∷ xs) ys a b between = (
  λ q c.
      ⊎_elim
      (λ (front : Contains xs q). a.0 q front)
      (λ (back : Contains ys q). between x q (head_in x xs) back)
      (Contains-append_cases xs ys q c),
  both_in_order xs ys a.1 b (λ q r c d. between q r (tail_in x q xs c) d),
)

level_in_order : (xs : List Request) → ((q r : Request) → Contains xs q → Contains xs r → IsNoLater q r) → IsInOrder xs
level_in_order [] all = tt
level_in_order (x ∷ xs) all = (
  λ q c. all x q (head_in x xs) (tail_in x q xs c),
  level_in_order xs (λ q r c d. all q r (tail_in x q xs c) (tail_in x r xs d)),
)

sorted_in_order : (xs : List Request) → ((q r : Request) → Contains xs q → Contains xs r → kind_number q ≡ kind_number r) → IsNonDecreasingBy text_length xs
    → IsInOrder xs
sorted_in_order [] same up = tt
sorted_in_order (x ∷ xs) same up = (
  λ q c.
      inr
      (same x q (head_in x xs) (tail_in x q xs c), subst (λ (y : Request). text_length x ≤ text_length y) c.2 (up 0 (suc c.0) q (omega arith) (omega (arith, c.1)))),
  sorted_in_order xs (λ q r c d. same q r (tail_in x q xs c) (tail_in x r xs d))
      (λ i j d le lt. up (suc i) (suc j) d (omega (arith, le)) (omega (arith, lt))),
)

-- executions, changes and reloads, one behind another
pub all_in_order : (execs changes reloads rs : List Request) → rs ≡ (execs ++ changes) ++ reloads → ((r : Request) → Contains execs r → IsExec r)
    → ((r : Request) → Contains changes r → IsChange r) → ((r : Request) → Contains reloads r → IsReload r) → IsNonDecreasingBy text_length execs
    → IsNonDecreasingBy text_length changes → IsInOrder rs
all_in_order execs changes reloads rs are of_execs of_changes of_reloads up rising =
    let exec = λ (r : Request) (c : Contains execs r). exec_number r (of_execs r c) in
    let change = λ (r : Request) (c : Contains changes r). change_number r (of_changes r c) in
    let reload = λ (r : Request) (c : Contains reloads r). reload_number r (of_reloads r c) in
    subst IsInOrder (sym are)
    (both_in_order (execs ++ changes) reloads
    (both_in_order execs changes (sorted_in_order execs (λ q r c d. exec q c ∙ sym (exec r d)) up)
    (sorted_in_order changes (λ q r c d. change q c ∙ sym (change r d)) rising) (λ q r c d. inl (omega (arith, exec q c, change r d))))
    (level_in_order reloads (λ q r c d. reload_no_later r q (of_reloads r d) (of_reloads q c)))
    (λ q r c d.
    inl
    (⊎_elim
    (λ (front : Contains execs q). omega (arith, exec q front, (reload r d).0))
    (λ (back : Contains changes q). omega (arith, change q back, (reload r d).0))
    (Contains-append_cases execs changes q c))))

-- by their places
pub at_places : (rs : List Request) → IsInOrder rs → (i j : ℕ) (q r : Request) → i ≤ j → j < length rs → get_or rs i q ≡ q → get_or rs j r ≡ r → IsNoLater q r
at_places [] order i j q r le lt e f = absurd (omega (arith, lt))
at_places (x ∷ xs) order zero zero q r le lt e f = subst (IsNoLater q) f (subst (λ (y : Request). IsNoLater y x) e (no_later_same x))
at_places (x ∷ xs) order zero (suc j) q r le lt e f = subst (λ (y : Request). IsNoLater y r) e (order.0 r (j, omega (arith, lt), f))
at_places (x ∷ xs) order (suc i) zero q r le lt e f = absurd (omega (arith, le))
at_places (x ∷ xs) order (suc i) (suc j) q r le lt e f = at_places xs order.1 i j q r (omega (arith, le)) (omega (arith, lt)) e f
