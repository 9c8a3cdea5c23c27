-- Changes that rules grant, where none denies any.
use Rattle.std.proofs.Common.{◌≡◌, ◌⊎◌, ℕ, Bool, true, false, cond, List, [], ◌∷◌, ◌++◌, Option, Some, None, Contains, inl, inr, refl, sym, ap, ◌∙◌, subst, arith, ⊎_elim}
use Rattle.std.specs.Prelude.{IsPermutation, ◌==◌, filter, not, bit_or}
use Rattle.std.specs.List.{list_all, slice_get}
use Rattle.std.specs.Option.{option_map_or}
use Rattle.std.proofs.lemmas.Bool.{and_parts, not-true}
use Rattle.std.proofs.lemmas.List.Elements.{Contains-append_cases}
use Rattle.std.proofs.lemmas.List.Sorted.{Contains-permutation, IsPermutation-sym}
use Rattle.std.proofs.lemmas.Option.{same_Some}
use Rattle.aa_model.specs.declared.rule.ChangeRule.{ChangeRule}
use Rattle.aa_model.specs.declared.policy.Policy.{Policy}
use Rattle.aa_model.specs.declared.policy.Profile.{Profile}
use Rattle.aa_model.specs.declared.label.Label.{Label}
use Rattle.aa_model.specs.declared.label.Label.TheVariants.{Confined}
use Rattle.aa_model.specs.declared.request.Request.{Request}
use Rattle.aa_model.specs.declared.request.Request.TheVariants.{File, Link, Exec, Cap, Net, Change, Reload}
use Rattle.aa_model.specs.declared.answer.Answer.{Answer}
use Rattle.aa_compile.specs.declared.sets.RuleSets.{RuleSets}
use Rattle.aa_compile.specs.Holding.{change_holds}
use Rattle.aa_compile.specs.Labels.{profile_in, label_named}
use Rattle.aa_compile.specs.Said.{bits_if, minus, granted, verdict}
use Rattle.aa_mediate.specs.Bits.{change_bits}
use Rattle.aa_mediate.specs.Decided.{blocked}
use Rattle.aa_mediate.specs.Held.{change_verdict}
use Rattle.aa_mediate.specs.Reply.{found_or, change_reply}
use Rattle.aa_representatives.specs.Askable.{IsExec, IsChange, IsReload}
use Rattle.aa_reachability.specs.Changes.{AreChangesBy, ByRules, ByNames}
use Rattle.aa_reachability.specs.Moves.{LeadAllOf}
use Rattle.aa_reachability.specs.Granted.{IsGranted, AreGranted, allows_change}
use Rattle.aa_reachability.specs.Single.{IsChangeOfOne}
use Rattle.aa_reachability.proofs.Changing.{Names, sayings, change_label, few_lead, names_lead}
use Rattle.aa_reachability.proofs.Elements.{head_in, tail_in, one_in, kept_in, filter_in}
use Rattle.aa_reachability.proofs.Enforcing.{plainly}

-- the rules allow one bit or none, and deny none
record OneBit (v : RuleSets) : Type 0 where
  allow : (v.allow.0 ≡ 0) ⊎ (v.allow.0 ≡ 1)
  deny : v.deny.0 ≡ 0

or_one : (a b : ℕ) → a ≡ 1 → (b ≡ 0) ⊎ (b ≡ 1) → bit_or a b ≡ 1
or_one a b e (inl f) = ap (λ (x : ℕ). bit_or x b) e ∙ ap (λ (x : ℕ). bit_or 1 x) f
or_one a b e (inr f) = ap (λ (x : ℕ). bit_or x b) e ∙ ap (λ (x : ℕ). bit_or 1 x) f

none_denied : (a b : ℕ) → a ≡ 0 → b ≡ 0 → bit_or a b ≡ 0
none_denied a b e f = ap (λ (x : ℕ). bit_or x b) e ∙ ap (λ (x : ℕ). bit_or 0 x) f

abbrev AllAllow : List ChangeRule → Type 0
AllAllow rules = (r : ChangeRule) → Contains rules r → r.deny ≡ false

allow_one : (r : ChangeRule) → r.deny ≡ false → (bits_if (not r.deny) 1).0 ≡ 1
allow_one r e = ap (λ (b : Bool). (bits_if (not b) 1).0) e

deny_none : (r : ChangeRule) → r.deny ≡ false → (bits_if r.deny 1).0 ≡ 0
deny_none r e = ap (λ (b : Bool). (bits_if b 1).0) e

bits_of : (rules : List ChangeRule) → AllAllow rules → OneBit (verdict (sayings rules))
bits_of [] all = record { allow = inl refl; deny = refl }
bits_of (r ∷ rules) all =
    let rest = bits_of rules (λ q c. all q (tail_in r q rules c)) in
    let here = all r (head_in r rules) in
    record { allow = inr (or_one _ _ (allow_one r here) rest.allow); deny = none_denied _ _ (deny_none r here) rest.deny }

some_allow : (rules : List ChangeRule) → AllAllow rules → (r : ChangeRule) → Contains rules r → (verdict (sayings rules)).allow.0 ≡ 1
some_allow [] all r c = absurd (omega (arith, c.1))
some_allow (q ∷ rules) all r c =
    let rest = bits_of rules (λ x d. all x (tail_in q x rules d)) in
    or_one _ _ (allow_one q (all q (head_in q rules))) rest.allow

module _ (rules : List ChangeRule) (all : AllAllow rules) (s : List ℕ) where
  held : AllAllow (filter (change_holds s) rules)
  held r c = all r (kept_in (change_holds s) rules r c).0

  granted_one : Names rules s → (change_verdict rules s).allow.0 ≡ 1
  granted_one x = some_allow (filter (change_holds s) rules) held x.rule (filter_in (change_holds s) rules x.rule x.within x.holds)

  granted_free : (change_verdict rules s).deny.0 ≡ 0
  granted_free = (bits_of (filter (change_holds s) rules) held).deny

label_of : (b : Bool) (c : Bool) (x y : Answer) (l : Label) → b ≡ c → (cond c x y).label ≡ l → (cond b x y).label ≡ l
label_of b c x y l e f = ap (λ (d : Bool). (cond d x y).label) e ∙ f

-- where a rule allows the change and none denies any, it leads to the label of its name, if there is one
module _ (p : Profile) (enforced : p.complain ≡ false) (all : AllAllow p.changes) (s : List ℕ) (x : Names p.changes s) (k n : ℕ) where
  abbrev v : RuleSets
  v = change_verdict p.changes s

  none_missing : minus 1 (granted v) ≡ 0
  none_missing =
      ap (λ (a : ℕ). minus 1 (minus a v.deny.0)) (granted_one p.changes all s x) ∙ ap (λ (d : ℕ). minus 1 (minus 1 d)) (granted_free p.changes all s)

  blocks : (found : Bool) → blocked p (change_bits v found) ≡ (change_bits v found).missing.0
  blocks found = ap (λ (b : Bool). cond b (change_bits v found).denied.0 (change_bits v found).missing.0) enforced

  leads : (o : Option Label) → (change_reply k n p s o).label ≡ found_or (Confined k n) o
  leads None = label_of (blocked p (change_bits v false) == 0) false _ _ (Confined k n) (ap (λ (m : ℕ). m == 0) (blocks false)) refl
  leads (Some l) = label_of (blocked p (change_bits v true) == 0) true _ _ l (ap (λ (m : ℕ). m == 0) (blocks true ∙ none_missing)) refl

  pub change_granted : (ps : List Policy) → profile_in ps k n ≡ Some p → IsGranted ps (Confined k n) (Change s)
  change_granted ps at = (
    change_label ps k n p at s ∙ leads (label_named ps k s),
    plainly ps k n (λ q e. let same : q ≡ p = same_Some q p (sym e ∙ at) in ap (λ (y : Profile). y.complain) same ∙ enforced) (Change s),
  )

-- those that rules name one by one are granted, where no rule denies any
all_allow : (rules : List ChangeRule) → list_all allows_change rules ≡ true → AllAllow rules
all_allow [] e r c = absurd (omega (arith, c.1))
all_allow (q ∷ rules) e r c =
    let parts = and_parts (allows_change q) (list_all allows_change rules) e in
    ⊎_elim
    (λ (h : Contains (q ∷ []) r). subst (λ (y : ChangeRule). y.deny ≡ false) (one_in q r h) (not-true q.deny parts.0))
    (λ (d : Contains rules r). all_allow rules parts.1 r d)
    (Contains-append_cases (q ∷ []) rules r c)

pub are_granted : (ps : List Policy) (k n : ℕ) (p : Profile) → profile_in ps k n ≡ Some p → p.complain ≡ false → (rs : List Request)
    → ((r : Request) → Contains rs r → IsChangeOfOne p.changes r) → AreGranted ps (Confined k n) (list_all allows_change p.changes) rs
are_granted ps k n p at enforced rs each said r c = granted_by r (each r c)
  where
    granted_by : (q : Request) → IsChangeOfOne p.changes q → IsGranted ps (Confined k n) q
    granted_by (Change s) x =
        change_granted p enforced (all_allow p.changes said) s (record { rule = x.0; within = x.1; allows = x.2.1; holds = x.2.2 }) k n ps at
    granted_by (File f) x = tt
    granted_by (Link l) x = tt
    granted_by (Exec e) x = tt
    granted_by (Cap m) x = tt
    granted_by (Net f s) x = tt
    granted_by (Reload m) x = tt

is_change : (rules : List ChangeRule) (q : Request) → IsChangeOfOne rules q → IsChange q
is_change rules (Change s) x = x.2.0
is_change rules (File f) x = absurd x.2
is_change rules (Link l) x = absurd x.2
is_change rules (Exec e) x = absurd x.2
is_change rules (Cap c) x = absurd x.2
is_change rules (Net f s) x = absurd x.2
is_change rules (Reload m) x = absurd x.2

module _ (ps : List Policy) (k n : ℕ) (p : Profile) (at : profile_in ps k n ≡ Some p) (rs : List Request) (said : Bool) where
  abbrev profiles : List Profile
  profiles = option_map_or (λ (q : Policy). q.profiles) (slice_get ps k) []

  pub changes_lead : AreChangesBy profiles p rs said → LeadAllOf ps (Confined k n) IsChange rs
  changes_lead (ByRules enforced each has is) = few_lead ps k n p at rs (λ r c. is_change p.changes r (each r c)) enforced has
  changes_lead (ByNames each has is) = names_lead ps k n p at rs each has

  pub changes_granted : AreChangesBy profiles p rs said → AreGranted ps (Confined k n) said rs
  changes_granted (ByRules enforced each has is) = subst (λ (b : Bool). AreGranted ps (Confined k n) b rs) (sym is) (are_granted ps k n p at enforced rs each)
  changes_granted (ByNames each has is) = λ yes. absurd (let e : true ≡ false = sym yes ∙ is in cc)

-- of requests that are put together
pub granted_all : (ps : List Policy) (l : Label) (said : Bool) (execs changes reloads rs : List Request) → rs ≡ (execs ++ changes) ++ reloads
    → ((r : Request) → Contains execs r → IsExec r) → AreGranted ps l said changes → ((r : Request) → Contains reloads r → IsReload r)
    → AreGranted ps l said rs
granted_all ps l said execs changes reloads rs are of_execs granted of_reloads so r c =
    ⊎_elim
    (λ (front : Contains (execs ++ changes) r).
    ⊎_elim (λ (x : Contains execs r). exec_granted r (of_execs r x)) (λ (x : Contains changes r). granted so r x) (Contains-append_cases execs changes r front))
    (λ (x : Contains reloads r). reload_granted r (of_reloads r x))
    (Contains-append_cases (execs ++ changes) reloads r (subst (λ (xs : List Request). Contains xs r) are c))
  where
    exec_granted : (q : Request) → IsExec q → IsGranted ps l q
    exec_granted (Exec e) is = tt
    exec_granted (File f) is = tt
    exec_granted (Link m) is = tt
    exec_granted (Cap c) is = tt
    exec_granted (Net f s) is = tt
    exec_granted (Change name) is = absurd is
    exec_granted (Reload m) is = tt

    reload_granted : (q : Request) → IsReload q → IsGranted ps l q
    reload_granted (Reload m) is = tt
    reload_granted (Exec e) is = tt
    reload_granted (File f) is = tt
    reload_granted (Link m) is = tt
    reload_granted (Cap c) is = tt
    reload_granted (Net f s) is = tt
    reload_granted (Change name) is = absurd is

pub granted_permuted : (ps : List Policy) (l : Label) (said : Bool) (xs ys : List Request) → IsPermutation xs ys → AreGranted ps l said xs
    → AreGranted ps l said ys
granted_permuted ps l said xs ys same granted so r c = granted so r (Contains-permutation ys xs r (IsPermutation-sym xs ys same) c)
