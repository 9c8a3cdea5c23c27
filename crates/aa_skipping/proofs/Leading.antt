-- An execution that isn't undecided leads where it did.
use Rattle.std.proofs.Common.{◌≡◌, ℕ, List, Bool, true, false, cond, Option, Some, None, refl, sym, ap, ◌∙◌}
use Rattle.std.specs.Prelude.{not, ◌&&◌, is_some}
use Rattle.std.specs.List.{slice_get}
use Rattle.std.specs.Option.{option_map, option_map_or}
use Rattle.std.proofs.lemmas.Option.{slice_get_within}
use Rattle.aa_base.specs.declared.fault.Spot.{Spot}
use Rattle.aa_model.specs.declared.rule.ExecKind.{ExecKind}
use Rattle.aa_model.specs.declared.rule.ExecKind.TheVariants.{Inherit, Unconfined, Profile as Named, Child}
use Rattle.aa_model.specs.declared.rule.Fallback.{Fallback}
use Rattle.aa_model.specs.declared.rule.Fallback.TheVariants.{Refuse, Inherit as Stay, Unconfined as Leave}
use Rattle.aa_model.specs.declared.rule.Exec.{Exec}
use Rattle.aa_model.specs.declared.policy.Policy.{Policy}
use Rattle.aa_model.specs.declared.policy.Profile.{Profile}
use Rattle.aa_model.specs.Lawful.{has_exec}
use Rattle.aa_compile.specs.Attached.{attached}
use Rattle.aa_compile.specs.FileRules.{file_verdict, chosen, way_of}
use Rattle.aa_compile.specs.declared.transition.Transition.{Transition}
use Rattle.aa_compile.specs.declared.transition.Transition.TheVariants.{Denied, Nowhere, To}
use Rattle.aa_compile.specs.Transitions.{children, named, child_name, found_by, falls, goes, leads, leads_by, transition}
use Rattle.aa_skipping.specs.declared.unread.Unread.{Unread}
use Rattle.aa_skipping.specs.Joined.{IsJoinedWith, moved_profile}
use Rattle.aa_skipping.specs.Names.{is_doubtful}
use Rattle.aa_skipping.specs.Undecided.{is_unsure, is_unsure_way, undecided_exec}
use Rattle.aa_skipping.proofs.Finding.{names_stand}
use Rattle.aa_skipping.proofs.Searching.{searches_stand, children_stand}

-- the same with profiles at their new numbers
abbrev pub moved_transition : (ℕ → ℕ) → Transition → Transition
moved_transition place Denied = Denied
moved_transition place Nowhere = Nowhere
moved_transition place (To next scrub) = To (option_map place next) scrub

falls_stand : (place : ℕ → ℕ) (fallback : Fallback) (scrub : Bool) (n : ℕ) → falls fallback scrub (place n) ≡ moved_transition place (falls fallback scrub n)
falls_stand place Refuse scrub n = refl
falls_stand place Stay scrub n = refl
falls_stand place Leave scrub n = refl

goes_stand : (place : ℕ → ℕ) (fallback : Fallback) (scrub : Bool) (n : ℕ) (f : Option ℕ) → goes fallback scrub (place n) (option_map place f) ≡ moved_transition place (goes fallback scrub n f)
goes_stand place fallback scrub n (Some m) = refl
goes_stand place fallback scrub n None = falls_stand place fallback scrub n

leads_stand : (place : ℕ → ℕ) (kind : ExecKind) (fallback : Fallback) (scrub : Bool) (n : ℕ) (f : Option ℕ)
    → leads kind fallback scrub (place n) (option_map place f) ≡ moved_transition place (leads kind fallback scrub n f)
leads_stand place Inherit fallback scrub n f = refl
leads_stand place Unconfined fallback scrub n f = refl
leads_stand place Named fallback scrub n f = goes_stand place fallback scrub n f
leads_stand place Child fallback scrub n f = goes_stand place fallback scrub n f

-- what only a top-level profile finds
top_stands : (place : ℕ → ℕ) (parent f g : Option ℕ) → (is_some parent ≡ false → f ≡ option_map place g) → cond (is_some (option_map place parent)) None f ≡ option_map place (cond (is_some parent) None g)
top_stands place None f g h = h refl
top_stands place (Some n) f g h = refl

module _ (unread : Unread) (read joined : Policy) (place : ℕ → ℕ) (j : IsJoinedWith unread read.profiles joined.profiles place)
    (n : ℕ) (p : Profile) (there : slice_get read.profiles n ≡ Some p) (spot : Spot) (path : List ℕ) where
  found_stands : (kind : ExecKind) (target : Option (List ℕ)) → is_unsure read.profiles unread p path kind target ≡ false
      → found_by joined.profiles (place n) (moved_profile place spot p) path kind target ≡ option_map place (found_by read.profiles n p path kind target)
  found_stands Named None sure = searches_stand unread read joined place j path sure
  found_stands Named (Some name) sure = names_stand unread read joined place j name sure
  found_stands Child None sure =
      top_stands place p.parent (attached joined.profiles (children joined.profiles (place n)) path) (attached read.profiles (children read.profiles n) path)
      (λ _. children_stand unread read joined place j n (slice_get_within read.profiles n p there) path)
  found_stands Child (Some name) sure =
      top_stands place p.parent (named joined.profiles (child_name p.name name)) (named read.profiles (child_name p.name name))
      (λ top. names_stand unread read joined place j (child_name p.name name) (sym (ap (λ (b : Bool). not b && is_doubtful read.profiles unread (child_name p.name name)) top) ∙ sure))
  found_stands Inherit target sure = refl
  found_stands Unconfined target sure = refl

  way_stands : (e : Exec) → is_unsure_way read.profiles unread p path e ≡ false
      → leads_by joined.profiles (place n) (moved_profile place spot p) path e ≡ moved_transition place (leads_by read.profiles n p path e)
  way_stands e sure =
      ap (leads e.kind e.fallback e.scrub (place n)) (found_stands e.kind e.target sure)
      ∙ leads_stand place e.kind e.fallback e.scrub n (found_by read.profiles n p path e.kind e.target)

  by_way : (o : Option Exec) → option_map_or (is_unsure_way read.profiles unread p path) o false ≡ false
      → option_map_or (leads_by joined.profiles (place n) (moved_profile place spot p) path) o Nowhere ≡ moved_transition place (option_map_or (leads_by read.profiles n p path) o Nowhere)
  by_way None sure = refl
  by_way (Some e) sure = way_stands e sure

  by_denial : (b : Bool) (s t u v : Transition) (unsure : Bool) → (not b && unsure) ≡ false → s ≡ moved_transition place u → (unsure ≡ false → t ≡ moved_transition place v)
      → cond b s t ≡ moved_transition place (cond b u v)
  by_denial true s t u v unsure sure e f = e
  by_denial false s t u v unsure sure e f = f sure

  pub transition_stands : (owned : Bool) → undecided_exec read.profiles unread p (record { path = path; owned = owned }) ≡ false
      → transition joined.profiles (place n) (moved_profile place spot p) path owned ≡ moved_transition place (transition read.profiles n p path owned)
  transition_stands owned sure =
      by_denial (has_exec (file_verdict p.files path owned).deny) Denied (option_map_or (leads_by joined.profiles (place n) (moved_profile place spot p) path) (way_of (chosen p.files path owned)) Nowhere) Denied
      (option_map_or (leads_by read.profiles n p path) (way_of (chosen p.files path owned)) Nowhere)
      (option_map_or (is_unsure_way read.profiles unread p path) (way_of (chosen p.files path owned)) false) sure refl (by_way (way_of (chosen p.files path owned)))
