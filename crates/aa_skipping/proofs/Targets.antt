-- What a verdict says of an execution that profiles which weren't read could change.
use Rattle.std.proofs.Common.{◌≡◌, ℕ, List, Bool, true, false, true≢false, Option, Some, None, refl, sym, ap, ◌∙◌, get_or}
use Rattle.std.specs.Prelude.{not, ◌&&◌, position}
use Rattle.std.specs.Option.{option_map, option_map_or, option_and_then}
use Rattle.std.specs.Str.{bytes_eq}
use Rattle.std.proofs.lemmas.List.Quantifiers.{position-Some}
use Rattle.std.proofs.lemmas.Option.{slice_get-get_or, same_Some}
use Rattle.std.proofs.lemmas.Slice.Eq.{bytes_eq-Decides}
use Rattle.aa_model.specs.declared.rule.Exec.{Exec}
use Rattle.aa_model.specs.declared.rule.FileRule.{FileRule}
use Rattle.aa_model.specs.declared.policy.Profile.{Profile}
use Rattle.aa_model.specs.Requests.{RequestedExec}
use Rattle.aa_model.specs.Lawful.{has_exec}
use Rattle.aa_compile.specs.declared.mark.Way.{Way}
use Rattle.aa_compile.specs.declared.side.Verdict.{Verdict}
use Rattle.aa_compile.specs.Ways.{names, way_by}
use Rattle.aa_compile.specs.FileRules.{chosen, way_of}
use Rattle.aa_compile.specs.Rows.{IsVerdictOf}
use Rattle.aa_compile.specs.Transitions.{target_of}
use Rattle.aa_compile.proofs.Transitions.{Says, chosen_says}
use Rattle.aa_compile.proofs.WayLemmas.{found, named}
use Rattle.aa_skipping.specs.declared.unread.Unread.{Unread}
use Rattle.aa_skipping.specs.Undecided.{target_in, is_unsure, is_unsure_way, undecided_exec}

target_named : (t : Option (List ℕ)) (name : List ℕ) → option_map_or (λ (x : List ℕ). bytes_eq x name) t false ≡ true → t ≡ Some name
target_named None name e = absurd (true≢false (sym e))
target_named (Some t) name e = ap Some ((bytes_eq-Decides t name).0 e)

-- the rule of a way's number has the name of its target
named_there : (rules : List FileRule) (e : Exec) → Says rules e → (t : Option (List ℕ)) → e.target ≡ t → target_in rules (option_and_then (λ (x : List ℕ). position (names x) rules) t) ≡ t
named_there rules e s None is = refl
named_there rules e s (Some name) is =
    let q = found (names name) rules s.rule s.in_rules (named rules s.rule e name s.says is) in
    let at = position-Some (names name) rules q.0 s.rule q.1 in
    let r : FileRule = get_or rules q.0 s.rule in
    ap (target_in rules) q.1
    ∙ ap (λ (o : Option FileRule). option_and_then target_of o) (slice_get-get_or rules q.0 s.rule at.0)
    ∙ target_named (target_of r) name at.1

map_some : (number : Exec → Way) (o : Option Exec) (w : Way) → Some w ≡ option_map number o → (e : Exec) × (o ≡ Some e) × (w ≡ number e)
map_some number None w h = absurd (let f = h in cc)
map_some number (Some e) w h = (e, refl, same_Some w (number e) h)

map_none : (number : Exec → Way) (o : Option Exec) → None ≡ option_map number o → o ≡ None
map_none number None h = refl
map_none number (Some e) h = absurd (let f = h in cc)

module _ (profiles : List Profile) (unread : Unread) (p : Profile) (r : RequestedExec) (verdict : Verdict) (is : IsVerdictOf (way_by p.files) p.files r.path r.owned verdict) where
  abbrev by_way : Option Exec → Bool
  by_way o = option_map_or (is_unsure_way profiles unread p r.path) o false

  pub denied : has_exec verdict.sets.deny ≡ true → false ≡ undecided_exec profiles unread p r
  denied h = sym (ap (λ (b : Bool). not b && by_way (way_of (chosen p.files r.path r.owned))) (sym (ap (λ s. has_exec s.deny) is.sets) ∙ h))

  allowed : has_exec verdict.sets.deny ≡ false → by_way (way_of (chosen p.files r.path r.owned)) ≡ undecided_exec profiles unread p r
  allowed h = sym (ap (λ (b : Bool). not b && by_way (way_of (chosen p.files r.path r.owned))) (sym (ap (λ s. has_exec s.deny) is.sets) ∙ h))

  pub nowhere : has_exec verdict.sets.deny ≡ false → verdict.chosen.way ≡ None → false ≡ undecided_exec profiles unread p r
  nowhere h e = sym (ap by_way (map_none (way_by p.files) (way_of (chosen p.files r.path r.owned)) (sym e ∙ is.way))) ∙ allowed h

  pub led : (w : Way) (target : Option (List ℕ)) (b : Bool) → has_exec verdict.sets.deny ≡ false → verdict.chosen.way ≡ Some w → target ≡ target_in p.files w.target
      → b ≡ is_unsure profiles unread p r.path w.kind target → b ≡ undecided_exec profiles unread p r
  led w target b h e at to =
      let q = map_some (way_by p.files) (way_of (chosen p.files r.path r.owned)) w (sym e ∙ is.way) in
      let s = chosen_says p.files r.path r.owned q.0 q.1 in
      let own : target ≡ q.0.target = at ∙ ap (λ (v : Way). target_in p.files v.target) q.2 ∙ named_there p.files q.0 s q.0.target refl in
      to ∙ ap (λ (v : Way). is_unsure profiles unread p r.path v.kind target) q.2 ∙ ap (is_unsure profiles unread p r.path q.0.kind) own ∙ sym (ap by_way q.1) ∙ allowed h
