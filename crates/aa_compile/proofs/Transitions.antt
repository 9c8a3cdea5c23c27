-- Where a numbered way leads is where the rule says.
use Rattle.std.proofs.Common.{◌≡◌, ℕ, ◌<◌, List, [], ◌∷◌, Bool, true, false, true≢false, cond, Option, Some, None, refl, sym, ap, ◌∙◌, subst, Contains, get_or, length}
use Rattle.std.specs.Prelude.{position, nat_lt}
use Rattle.std.specs.List.{position_or_len}
use Rattle.std.specs.List.{slice_get, filter}
use Rattle.std.specs.Option.{option_map, option_map_or, option_and_then}
use Rattle.std.specs.Str.{bytes_eq}
use Rattle.std.proofs.lemmas.List.Quantifiers.{position-Some}
use Rattle.std.proofs.lemmas.Option.{slice_get-map, slice_get-get_or, same_Some, cond_some}
use Rattle.std.proofs.lemmas.Bool.{ltb-true}
use Rattle.std.proofs.lemmas.Slice.Eq.{bytes_eq-Decides}
use Rattle.aa_model.specs.declared.rule.ExecKind.{ExecKind}
use Rattle.aa_model.specs.declared.rule.ExecKind.TheVariants.{Inherit, Unconfined, Profile as Named, Child}
use Rattle.aa_model.specs.declared.rule.Exec.{Exec}
use Rattle.aa_model.specs.declared.rule.FileRule.{FileRule}
use Rattle.aa_model.specs.declared.policy.Profile.{Profile}
use Rattle.aa_model.specs.Lawful.{has_exec}
use Rattle.aa_compile.specs.declared.mark.Way.{Way}
use Rattle.aa_compile.specs.declared.side.Verdict.{Verdict}
use Rattle.aa_compile.specs.Patterns.{is_literal}
use Rattle.aa_compile.specs.Ways.{names, way_by}
use Rattle.aa_compile.specs.FileRules.{any_sort, chosen, is_nil, way_of, ways_by}
use Rattle.aa_compile.specs.Rows.{IsVerdictOf}
use Rattle.aa_compile.proofs.WayLemmas.{found, named}
use Rattle.aa_compile.proofs.ConflictLemmas.{in_head, in_tail}
use Rattle.aa_compile.specs.declared.targets.Targets.{Targets}
use Rattle.aa_compile.specs.declared.transition.Transition.{Transition}
use Rattle.aa_compile.specs.declared.transition.Transition.TheVariants.{Denied, Nowhere}
use Rattle.aa_compile.specs.Transitions.{no_targets, found_by, leads, leads_by, transition, target_of, targets_named, targets_of_rule, targets_by}
use Rattle.aa_compile.specs.Found.{found_at, found_in}

position_within : (test : FileRule → Bool) (rules : List FileRule) (t : ℕ) → position test rules ≡ Some t → t < length rules
position_within test rules t h =
    let q = cond_some (nat_lt (position_or_len test rules) (length rules)) (position_or_len test rules) t h in
    subst (λ n. n < length rules) q.1 (ltb-true (position_or_len test rules) (length rules) q.0)

-- a rule that says how, as the first one does
pub record Says (rules : List FileRule) (e : Exec) : Type 0 where
  pub rule : FileRule
  pub in_rules : Contains rules rule
  pub says : rule.exec ≡ Some e

filter_says : (test : FileRule → Bool) (rules : List FileRule) (e : Exec) → way_of (filter test rules) ≡ Some e → Says rules e
filter_says test [] e h = absurd (let f = h in cc)
filter_says test (r ∷ rules) e h = at (λ f. filter_says test rules e f) (test r) h
  where
    at : (way_of (filter test rules) ≡ Some e → Says rules e) → (b : Bool) → way_of (cond b (r ∷ filter test rules) (filter test rules)) ≡ Some e → Says (r ∷ rules) e
    at rest true f = record { rule = r; in_rules = in_head r rules; says = f }
    at rest false f = let s = rest f in record { rule = s.rule; in_rules = in_tail r s.rule rules s.in_rules; says = s.says }

cond_says : (b : Bool) (rules xs ys : List FileRule) (e : Exec) → (way_of xs ≡ Some e → Says rules e) → (way_of ys ≡ Some e → Says rules e) → way_of (cond b xs ys) ≡ Some e → Says rules e
cond_says true rules xs ys e f g h = f h
cond_says false rules xs ys e f g h = g h

pub chosen_says : (rules : List FileRule) (path : List ℕ) (owned : Bool) (e : Exec) → way_of (chosen rules path owned) ≡ Some e → Says rules e
chosen_says rules path owned e h =
    cond_says (is_nil (ways_by is_literal rules path owned)) rules (ways_by any_sort rules path owned) (ways_by is_literal rules path owned) e (filter_says _ rules e) (filter_says _ rules e) h

module _ (profiles : List Profile) (n : ℕ) (p : Profile) (path : List ℕ) where
  -- the name's place has what the name stands for
  abbrev Placed : Option (List ℕ) → Type 0
  Placed target = (name : List ℕ) → target ≡ Some name → (k : ℕ) × (position (names name) p.files ≡ Some k) × (slice_get (targets_by profiles p) k ≡ Some (targets_named profiles p name))

  target_named : (t : Option (List ℕ)) (name : List ℕ) → option_map_or (λ (x : List ℕ). bytes_eq x name) t false ≡ true → t ≡ Some name
  target_named None name e = absurd (true≢false (sym e))
  target_named (Some t) name e = ap Some ((bytes_eq-Decides t name).0 e)

  placed : (e : Exec) → Says p.files e → Placed e.target
  placed e s name is =
      let q = found (names name) p.files s.rule s.in_rules (named p.files s.rule e name s.says is) in
      let at = position-Some (names name) p.files q.0 s.rule q.1 in
      let r : FileRule = get_or p.files q.0 s.rule in (
        q.0,
        q.1,
        slice_get-map (targets_of_rule profiles p) p.files q.0 ∙ ap (option_map (targets_of_rule profiles p)) (slice_get-get_or p.files q.0 s.rule at.0)
            ∙ ap (λ o. Some (option_map_or (targets_named profiles p) o no_targets)) (target_named (target_of r) name at.1),
      )

  found_is : (kind : ExecKind) (target : Option (List ℕ)) → Placed target → found_at profiles n p path kind (option_and_then (λ (t : List ℕ). position (names t) p.files) target) ≡ found_by profiles n p path kind target
  found_is Named (Some name) h = let q = h name refl in
      ap (found_at profiles n p path Named) q.1 ∙ ap (λ o. (option_map_or (λ (x : Targets). x) o no_targets).profile) q.2
  found_is Named None h = refl
  found_is Child (Some name) h = let q = h name refl in
      ap (found_at profiles n p path Child) q.1 ∙ ap (λ o. (option_map_or (λ (x : Targets). x) o no_targets).child) q.2
  found_is Child None h = refl
  found_is Inherit target h = refl
  found_is Unconfined target h = refl

  map_some : (number : Exec → Way) (o : Option Exec) (w : Way) → Some w ≡ option_map number o → (e : Exec) × (o ≡ Some e) × (w ≡ number e)
  map_some number None w h = absurd (let f = h in cc)
  map_some number (Some e) w h = (e, refl, same_Some w (number e) h)

  map_none : (number : Exec → Way) (o : Option Exec) → None ≡ option_map number o → o ≡ None
  map_none number None h = refl
  map_none number (Some e) h = absurd (let f = h in cc)

  module _ (owned : Bool) (verdict : Verdict) (is : IsVerdictOf (way_by p.files) p.files path owned verdict) where
    pub denied : has_exec verdict.sets.deny ≡ true → Denied ≡ transition profiles n p path owned
    denied h = sym (ap (λ b. cond b Denied (option_map_or (leads_by profiles n p path) (way_of (chosen p.files path owned)) Nowhere)) (sym (ap (λ s. has_exec s.deny) is.sets) ∙ h))

    abbrev undenied : Option Exec → Transition
    undenied o = option_map_or (leads_by profiles n p path) o Nowhere

    allowed : has_exec verdict.sets.deny ≡ false → transition profiles n p path owned ≡ undenied (way_of (chosen p.files path owned))
    allowed h = ap (λ b. cond b Denied (undenied (way_of (chosen p.files path owned)))) (sym (ap (λ s. has_exec s.deny) is.sets) ∙ h)

    pub nowhere : has_exec verdict.sets.deny ≡ false → verdict.chosen.way ≡ None → Nowhere ≡ transition profiles n p path owned
    nowhere h e = sym (allowed h ∙ ap undenied (map_none (way_by p.files) (way_of (chosen p.files path owned)) (sym e ∙ is.way)))

    pub led : (w : Way) (t : Transition) → has_exec verdict.sets.deny ≡ false → verdict.chosen.way ≡ Some w → t ≡ leads w.kind w.fallback w.scrub n (found_in profiles n p path w) → t ≡ transition profiles n p path owned
    led w t h e to =
        let q = map_some (way_by p.files) (way_of (chosen p.files path owned)) w (sym e ∙ is.way) in
        let s = chosen_says p.files path owned q.0 q.1 in
        to
        ∙ ap (λ (v : Way). leads v.kind v.fallback v.scrub n (found_in profiles n p path v)) q.2
        ∙ ap (leads q.0.kind q.0.fallback q.0.scrub n) (found_is q.0.kind q.0.target (placed q.0 s))
        ∙ sym (allowed h ∙ ap undenied q.1)

    -- the number in a way is that of a rule
    pub within : (w : Way) (t : ℕ) → verdict.chosen.way ≡ Some w → w.target ≡ Some t → t < length p.files
    within w t e at =
        let q = map_some (way_by p.files) (way_of (chosen p.files path owned)) w (sym e ∙ is.way) in
        let s = chosen_says p.files path owned q.0 q.1 in
        placed_within q.0.target t (sym (ap (λ (v : Way). v.target) q.2) ∙ at)
      where
        placed_within : (o : Option (List ℕ)) (t : ℕ) → option_and_then (λ (x : List ℕ). position (names x) p.files) o ≡ Some t → t < length p.files
        placed_within None t h = absurd (let f = h in cc)
        placed_within (Some name) t h = position_within (names name) p.files t h
