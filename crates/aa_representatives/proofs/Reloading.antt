-- Policies that aren't there are all answered alike.
use Rattle.std.proofs.Common.{◌≡◌, ℕ, ◌+◌, ◌<◌, ◌≤◌, min, List, [], ◌∷◌, ◌++◌, length, Option, Some, None, Contains, refl, sym, ap, ◌∙◌, subst, arith, ⊎_elim}
use Rattle.std.specs.Prelude.{option_map}
use Rattle.std.specs.List.{slice_get}
use Rattle.std.specs.Option.{option_and_then}
use Rattle.std.proofs.lemmas.Bool.{cases_lt}
use Rattle.std.proofs.lemmas.List.Elements.{Contains-append_left, Contains-push}
use Rattle.std.proofs.lemmas.Option.{slice_get_past}
use Rattle.aa_model.specs.declared.policy.Policy.{Policy}
use Rattle.aa_model.specs.declared.policy.Profile.{Profile}
use Rattle.aa_model.specs.declared.label.Label.{Label}
use Rattle.aa_model.specs.declared.label.Label.TheVariants.{Unconfined, Confined}
use Rattle.aa_model.specs.declared.request.Request.{Request}
use Rattle.aa_model.specs.declared.request.Request.TheVariants.{File, Link, Exec, Cap, Net, Change, Reload}
use Rattle.aa_compile.specs.Labels.{policy_number}
use Rattle.aa_compile.specs.Transitions.{named}
use Rattle.aa_mediate.specs.Reply.{goes_to, reply_free, reply_at, reply_by, reply}
use Rattle.aa_representatives.specs.Askable.{IsReload}
use Rattle.aa_representatives.specs.Representatives.{AreRepresentatives, Adds}
use Rattle.aa_representatives.proofs.Adding.{adds_each, adds_one, adds_both}

module _ (policies : List Policy) (m u : ℕ) (e : slice_get policies m ≡ None) (f : slice_get policies u ≡ None) where
  reload_free : (k : ℕ) → reply_free policies k (Reload m) ≡ reply_free policies k (Reload u)
  reload_free k =
      ap (λ (o : Option Policy). goes_to (Unconfined k) (option_map (λ (p : Policy). Unconfined m) o)) e
      ∙ sym (ap (λ (o : Option Policy). goes_to (Unconfined k) (option_map (λ (p : Policy). Unconfined u) o)) f)

  reload_at : (k : ℕ) (profiles : List Profile) (n : ℕ) (o : Option Profile) → reply_at policies k profiles n o (Reload m) ≡ reply_at policies k profiles n o (Reload u)
  reload_at k profiles n (Some p) =
      ap (λ (o : Option Policy). goes_to (Confined k n) (option_and_then (λ (q : Policy). option_map (Confined m) (named q.profiles p.name)) o)) e
      ∙ sym (ap (λ (o : Option Policy). goes_to (Confined k n) (option_and_then (λ (q : Policy). option_map (Confined u) (named q.profiles p.name)) o)) f)
  reload_at k profiles n None = refl

  reload_by : (label : Label) (o : Option Policy) → reply_by policies label o (Reload m) ≡ reply_by policies label o (Reload u)
  reload_by (Unconfined k) (Some policy) = reload_free k
  reload_by (Confined k n) (Some policy) = reload_at k policy.profiles n (slice_get policy.profiles n)
  reload_by (Unconfined k) None = refl
  reload_by (Confined k n) None = refl

  pub reloads_reply_alike : (label : Label) → reply policies label (Reload m) ≡ reply policies label (Reload u)
  unfolding reply
  reloads_reply_alike label = reload_by label (slice_get policies (policy_number label))

-- the request for one more policy
pub reloads_add : (n : ℕ) (first was now : List Request) (x : Request) → now ≡ was ++ x ∷ [] → x ≡ Reload n → n < 65536 → Adds IsReload first was → Adds IsReload first now
reloads_add n first was now x e is lt adds =
    let kind : IsReload x = subst IsReload (sym is) lt in
    adds_both IsReload first was now adds (subst (Adds IsReload was) (sym e) (adds_one IsReload was x kind))

pub reloads_more : (n : ℕ) (was now : List Request) (x : Request) → now ≡ was ++ x ∷ [] → x ≡ Reload n → ((m : ℕ) → m < n → Contains was (Reload m)) → (m : ℕ) → m < n + 1 → Contains now (Reload m)
reloads_more n was now x e is before m l =
    ⊎_elim
    (λ (below : m < n). subst (λ (l : List Request). Contains l (Reload m)) (sym e) (Contains-append_left was (x ∷ []) (Reload m) (before m below)))
    (λ (above : n ≤ m).
    let same : n ≡ m = omega (arith, l, above) in
    let at : x ≡ Reload m = is ∙ ap Reload same in
    subst (λ (l : List Request). Contains l (Reload m)) (sym e) (subst (λ (y : Request). Contains (was ++ x ∷ []) y) at (Contains-push was x)))
    (cases_lt m n)

module _ (policies : List Policy) (count : ℕ) (is : count ≡ min (length policies) 65535 + 1) (rs : List Request) (has : (m : ℕ) → m < count → Contains rs (Reload m)) (label : Label) where
  reload_for : (r : Request) → IsReload r → (q : Request) × Contains rs q × (reply policies label r ≡ reply policies label q)
  reload_for (Reload m) asked =
      ⊎_elim
      (λ (l : m < count). (Reload m, has m l, refl))
      (λ (l : count ≤ m).
      let past : length policies ≤ m = omega (arith, is, asked, l) in
      let last : length policies < count = omega (arith, is, asked, l) in
      let none : length policies ≤ length policies = omega arith in
      (Reload (length policies), has (length policies) last, reloads_reply_alike policies m (length policies) (slice_get_past policies m past) (slice_get_past policies (length policies) none) label))
      (cases_lt m count)
  reload_for (File f) asked = absurd asked
  reload_for (Link l) asked = absurd asked
  reload_for (Exec x) asked = absurd asked
  reload_for (Cap c) asked = absurd asked
  reload_for (Net f s) asked = absurd asked
  reload_for (Change name) asked = absurd asked

  pub reloads_stand : (none : List Request) → none ≡ [] → Adds IsReload none rs → AreRepresentatives policies label IsReload rs
  reloads_stand none e adds = record { each = adds_each IsReload none rs e adds; all = reload_for }
