-- Writing what is said of policy after policy.
use Rattle.std.proofs.Common.{◌≡◌, Bool, ℕ, ◌+◌, ◌<◌, ◌≤◌, List, [], ◌∷◌, ◌++◌, length, drop, get_or, refl, ap, sym, ◌∙◌, append_assoc}
use Rattle.std.proofs.lemmas.List.{drop_more, at_drop_all, append-nil}
use Rattle.aa_model.specs.declared.policy.Policy.{Policy}
use Rattle.aa_engine.specs.Output.{number_line, policy_text, policies_from}

-- what is written, and then what is said of the policies from number n on, is said of all
pub record Checking (several : Bool) (policies : List Policy) (n : ℕ) (out : List ℕ) : Type 0 where
  pub goes_on : out ++ policies_from several n (drop n policies) ≡ policies_from several 0 policies

step : (several : Bool) (n : ℕ) (p : Policy) (ps : List Policy) → policies_from several n (p ∷ ps) ≡ number_line several n ++ (policy_text p ++ policies_from several (n + 1) ps)
unfolding policies_from
step several n p ps = refl

nil : (several : Bool) (n : ℕ) → policies_from several n [] ≡ []
unfolding policies_from
nil several n = refl

pub checking_start : (several : Bool) (policies : List Policy) (out : List ℕ) → out ≡ [] → Checking several policies 0 out
checking_start several policies out e = record { goes_on = ap (λ (o : List ℕ). o ++ policies_from several 0 policies) e }

pub checking_more : (several : Bool) (policies : List Policy) (n : ℕ) (p : Policy) (out middle more : List ℕ) → n < length policies → p ≡ get_or policies n p
    → middle ≡ out ++ number_line several n → more ≡ middle ++ policy_text p → Checking several policies n out → Checking several policies (n + 1) more
checking_more several policies n p out middle more lt item first second so_far =
    let rest = drop (n + 1) policies in
    let here : drop n policies ≡ p ∷ rest = drop_more policies n p lt ∙ ap (λ (x : Policy). x ∷ rest) (sym item) in
    let line = number_line several n in
    let tail = policies_from several (n + 1) rest in
    record {
      goes_on =
          ap (λ (x : List ℕ). x ++ tail) (second ∙ ap (λ (x : List ℕ). x ++ policy_text p) first)
          ∙ append_assoc (out ++ line) (policy_text p) tail
          ∙ append_assoc out line (policy_text p ++ tail)
          ∙ ap (λ (x : List ℕ). out ++ x) (sym (step several n p rest))
          ∙ ap (λ (x : List Policy). out ++ policies_from several n x) (sym here)
          ∙ so_far.goes_on;
    }

pub checking_end : (several : Bool) (policies : List Policy) (n : ℕ) (out : List ℕ) → length policies ≤ n → Checking several policies n out → out ≡ policies_from several 0 policies
checking_end several policies n out le so_far =
    sym (append-nil out) ∙ ap (λ (x : List ℕ). out ++ x) (sym (nil several n))
    ∙ sym (at_drop_all (λ (x : List Policy). out ++ policies_from several n x) policies n le) ∙ so_far.goes_on
