-- What a verdict says of the profiles among which an execution looks for an attached one.
use Rattle.std.proofs.Common.{◌≡◌, ℕ, List, Bool, true, false, cond, Option, Some, None, is_some, refl, sym, ap, subst, ◌∙◌}
use Rattle.std.specs.Prelude.{position, option_map}
use Rattle.std.specs.Option.{option_and_then}
use Rattle.std.proofs.lemmas.Option.{same_Some}
use Rattle.aa_model.specs.declared.rule.Exec.{Exec}
use Rattle.aa_model.specs.declared.rule.FileRule.{FileRule}
use Rattle.aa_model.specs.declared.policy.Profile.{Profile}
use Rattle.aa_model.specs.Lawful.{has_exec}
use Rattle.aa_model.specs.Requests.{RequestedExec}
use Rattle.aa_compile.specs.declared.mark.Way.{Way}
use Rattle.aa_compile.specs.declared.sets.RuleSets.{RuleSets}
use Rattle.aa_compile.specs.declared.side.Verdict.{Verdict}
use Rattle.aa_compile.specs.FileRules.{chosen, way_of}
use Rattle.aa_compile.specs.Rows.{IsVerdictOf}
use Rattle.aa_compile.specs.Ways.{names, way_by}
use Rattle.aa_compile.proofs.WayLemmas.{found, named}
use Rattle.aa_compile.proofs.Transitions.{Says, chosen_says}
use Rattle.aa_changed_rules.specs.declared.attachments.Range.{Range}
use Rattle.aa_changed_rules.specs.Attachments.{range_by, range_in}

some_of : (number : Exec → Way) (o : Option Exec) (w : Way) → Some w ≡ option_map number o → (e : Exec) × (o ≡ Some e) × (w ≡ number e)
some_of number None w h = absurd (let f = h in cc)
some_of number (Some e) w h = (e, refl, same_Some w (number e) h)

none_of : (number : Exec → Way) (o : Option Exec) → None ≡ option_map number o → o ≡ None
none_of number None h = refl
none_of number (Some e) h = absurd (let f = h in cc)

-- the verdict on an object is that on its path
pub moved : (rules : List FileRule) (a b : List ℕ) (o q : Bool) (v : Verdict) → a ≡ b → o ≡ q
    → IsVerdictOf (way_by rules) rules a o v → IsVerdictOf (way_by rules) rules b q v
moved rules a b o q v e f h =
    subst (λ (x : Bool). IsVerdictOf (way_by rules) rules b x v) f (subst (λ (x : List ℕ). IsVerdictOf (way_by rules) rules x o v) e h)

-- a rule that names a profile has a number for it
named_so : (p : Profile) (e : Exec) → Says p.files e → (t : Option (List ℕ)) → e.target ≡ t
    → is_some (option_and_then (λ (x : List ℕ). position (names x) p.files) t) ≡ is_some t
named_so p e s None is = refl
named_so p e s (Some t) is = ap is_some (found (names t) p.files s.rule s.in_rules (named p.files s.rule e t s.says is)).1

module _ (p : Profile) (e : RequestedExec) (verdict : Verdict) (is : IsVerdictOf (way_by p.files) p.files e.path e.owned verdict) where
  abbrev by : Option Exec → Option Range
  by o = option_and_then (λ (w : Exec). range_by w.kind (is_some w.target) (is_some p.parent)) o

  pub denied : has_exec verdict.sets.deny ≡ true → None ≡ range_in e p
  denied h = sym (ap (λ (b : Bool). cond b None (by (way_of (chosen p.files e.path e.owned)))) (sym (ap (λ (s : RuleSets). has_exec s.deny) is.sets) ∙ h))

  allowed : has_exec verdict.sets.deny ≡ false → range_in e p ≡ by (way_of (chosen p.files e.path e.owned))
  allowed h = ap (λ (b : Bool). cond b None (by (way_of (chosen p.files e.path e.owned)))) (sym (ap (λ (s : RuleSets). has_exec s.deny) is.sets) ∙ h)

  pub nowhere : has_exec verdict.sets.deny ≡ false → verdict.chosen.way ≡ None → None ≡ range_in e p
  nowhere h w = sym (allowed h ∙ ap by (none_of (way_by p.files) (way_of (chosen p.files e.path e.owned)) (sym w ∙ is.way)))

  pub there : (w : Way) (r : Option Range) → has_exec verdict.sets.deny ≡ false → verdict.chosen.way ≡ Some w
      → r ≡ range_by w.kind (is_some w.target) (is_some p.parent) → r ≡ range_in e p
  there w r h k to =
      let q = some_of (way_by p.files) (way_of (chosen p.files e.path e.owned)) w (sym k ∙ is.way) in
      let s = chosen_says p.files e.path e.owned q.0 q.1 in
      to
      ∙ ap (λ (v : Way). range_by v.kind (is_some v.target) (is_some p.parent)) q.2
      ∙ ap (λ (b : Bool). range_by q.0.kind b (is_some p.parent)) (named_so p q.0 s q.0.target refl)
      ∙ sym (allowed h ∙ ap by q.1)
