-- In profiles that are the same, executions lead to the same.
use Rattle.std.proofs.Common.{◌≡◌, ℕ, suc, List, [], ◌∷◌, map, Bool, cond, Option, Some, None, refl, ap, ◌∙◌}
use Rattle.std.specs.Prelude.{is_some, filter}
use Rattle.std.specs.Bool.{nat_eq}
use Rattle.std.specs.List.{AllZip, slice_get}
use Rattle.std.specs.Option.{option_map_or, option_eq}
use Rattle.std.specs.Str.{bytes_eq}
use Rattle.aa_pattern.specs.declared.pattern.Pattern.{Pattern}
use Rattle.aa_pattern.specs.Matching.{is_match}
use Rattle.aa_model.specs.declared.rule.Exec.{Exec}
use Rattle.aa_model.specs.declared.rule.ExecKind.{ExecKind}
use Rattle.aa_model.specs.declared.rule.ExecKind.TheVariants.{Inherit, Unconfined, Profile as Named, Child}
use Rattle.aa_model.specs.declared.policy.Profile.{Profile}
use Rattle.aa_model.specs.Lawful.{has_exec}
use Rattle.aa_compile.specs.declared.sets.RuleSets.{RuleSets}
use Rattle.aa_compile.specs.Patterns.{is_literal}
use Rattle.aa_compile.specs.FileRules.{file_verdict, chosen, way_of}
use Rattle.aa_compile.specs.Attached.{attached, attached_by, attachments_at, attachments_by, attachment_of, at_number, front_of, numbers_below}
use Rattle.aa_compile.specs.declared.transition.Transition.{Transition}
use Rattle.aa_compile.specs.declared.transition.Transition.TheVariants.{Denied, Nowhere}
use Rattle.aa_compile.specs.Transitions.{children, tops, named, child_name, found_by, leads, leads_by, transition}
use Rattle.aa_policy.specs.Sameness.{SameProfile}
use Rattle.aa_engine.proofs.Rows.{IsAlike, append_alike, filter_alike, got_alike, map_alike, map_rows, position_alike}
use Rattle.aa_engine.proofs.Patterns.{SamePattern, front_alike, literal_alike, match_alike}
use Rattle.aa_engine.proofs.Rules.{chosen_way_alike, file_verdict_alike}

-- a profile's number and patterns that are the same
abbrev SameHit : ℕ × Pattern → ℕ × Pattern → Type 0
SameHit h k = (h.0 ≡ k.0) × SamePattern h.1 k.1

hit_alike : (h k : ℕ × Pattern) → SameHit h k → attachment_of h ≡ attachment_of k
hit_alike h k e =
    ap (λ (n : ℕ). record { profile = n; literal = is_literal h.1; front = front_of h.1 }) e.0
    ∙ ap (λ (l : Bool). record { profile = k.0; literal = l; front = front_of h.1 }) (literal_alike h.1 k.1 e.1)
    ∙ ap (λ (n : ℕ). record { profile = k.0; literal = is_literal k.1; front = n }) (front_alike h.1 k.1 e.1)

of_alike : (o p : Option Profile) → IsAlike SameProfile o p → AllZip SamePattern (option_map_or (λ (x : Profile). x.attachments) o []) (option_map_or (λ (x : Profile). x.attachments) p [])
of_alike None None h = tt
of_alike (Some x) (Some y) h = h.attachments
of_alike None (Some y) h = absurd h
of_alike (Some x) None h = absurd h

module _ (ps qs : List Profile) (same : AllZip SameProfile ps qs) where
  attachments_alike : (numbers : List ℕ) → AllZip SameHit (attachments_by ps numbers) (attachments_by qs numbers)
  attachments_alike [] = tt
  attachments_alike (n ∷ ns) =
      append_alike SameHit (map (at_number n) (attachments_at ps n)) (map (at_number n) (attachments_at qs n)) (attachments_by ps ns) (attachments_by qs ns)
      (map_rows SamePattern SameHit (at_number n) (λ p q e. (refl, e)) (attachments_at ps n) (attachments_at qs n) (of_alike (slice_get ps n) (slice_get qs n) (got_alike SameProfile ps qs n same)))
      (attachments_alike ns)

  pub attached_alike : (numbers path : List ℕ) → attached ps numbers path ≡ attached qs numbers path
  attached_alike numbers path =
      ap attached_by (map_alike SameHit attachment_of hit_alike (filter (λ h. is_match h.1.items.items path) (attachments_by ps numbers)) (filter (λ h. is_match h.1.items.items path) (attachments_by qs numbers))
      (filter_alike SameHit (λ h. is_match h.1.items.items path) (λ h. is_match h.1.items.items path)
      (λ h k e. match_alike h.1.items.items k.1.items.items e.1 path) (attachments_by ps numbers) (attachments_by qs numbers) (attachments_alike numbers)))

  pub named_alike : (name : List ℕ) → named ps name ≡ named qs name
  named_alike name = position_alike SameProfile (λ p. bytes_eq name p.name) (λ p q e. ap (bytes_eq name) e.name) ps qs same

pub numbers_alike : (parent : Option ℕ) (k : ℕ) (ps qs : List Profile) → AllZip SameProfile ps qs → numbers_below parent k ps ≡ numbers_below parent k qs
numbers_alike parent k [] [] h = refl
numbers_alike parent k (p ∷ ps) (q ∷ qs) h =
    ap (λ (o : Option ℕ). cond (option_eq nat_eq o parent) (k ∷ numbers_below parent (suc k) ps) (numbers_below parent (suc k) ps)) h.0.parent
    ∙ ap (λ (ns : List ℕ). cond (option_eq nat_eq q.parent parent) (k ∷ ns) ns) (numbers_alike parent (suc k) ps qs h.1)
numbers_alike parent k [] (q ∷ qs) h = absurd h
numbers_alike parent k (p ∷ ps) [] h = absurd h

module _ (ps qs : List Profile) (same : AllZip SameProfile ps qs) (n : ℕ) (p q : Profile) (h : SameProfile p q) (path : List ℕ) where
  -- the attached one of those with numbers that are the same too
  attached_of : (ms ns : List ℕ) → ms ≡ ns → attached ps ms path ≡ attached qs ns path
  attached_of ms ns e = attached_alike ps qs same ms path ∙ ap (λ (m : List ℕ). attached qs m path) e

  found_alike : (kind : ExecKind) (target : Option (List ℕ)) → found_by ps n p path kind target ≡ found_by qs n q path kind target
  found_alike Named (Some name) = named_alike ps qs same name
  found_alike Named None = attached_of (tops ps) (tops qs) (numbers_alike None 0 ps qs same)
  found_alike Child (Some name) =
      ap (λ (o : Option ℕ). cond (is_some o) None (named ps (child_name p.name name))) h.parent
      ∙ ap (λ (m : List ℕ). cond (is_some q.parent) None (named ps (child_name m name))) h.name
      ∙ ap (λ (o : Option ℕ). cond (is_some q.parent) None o) (named_alike ps qs same (child_name q.name name))
  found_alike Child None =
      ap (λ (o : Option ℕ). cond (is_some o) None (attached ps (children ps n) path)) h.parent
      ∙ ap (λ (o : Option ℕ). cond (is_some q.parent) None o) (attached_of (children ps n) (children qs n) (numbers_alike (Some n) 0 ps qs same))
  found_alike Inherit target = refl
  found_alike Unconfined target = refl

  leads_alike : (way : Option Exec) → option_map_or (leads_by ps n p path) way Nowhere ≡ option_map_or (leads_by qs n q path) way Nowhere
  leads_alike None = refl
  leads_alike (Some e) = ap (leads e.kind e.fallback e.scrub n) (found_alike e.kind e.target)

  pub transition_alike : (owned : Bool) → transition ps n p path owned ≡ transition qs n q path owned
  transition_alike owned =
      ap (λ (v : RuleSets). cond (has_exec v.deny) Denied (option_map_or (leads_by ps n p path) (way_of (chosen p.files path owned)) Nowhere)) (file_verdict_alike path owned p.files q.files h.files)
      ∙ ap (λ (w : Option Exec). cond (has_exec (file_verdict q.files path owned).deny) Denied (option_map_or (leads_by ps n p path) w Nowhere)) (chosen_way_alike path owned p.files q.files h.files)
      ∙ ap (λ (t : Transition). cond (has_exec (file_verdict q.files path owned).deny) Denied t) (leads_alike (way_of (chosen q.files path owned)))
