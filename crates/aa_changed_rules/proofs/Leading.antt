-- An execution that finds a profile by an attachment leads there.
use Rattle.std.proofs.Common.{◌≡◌, ℕ, List, Bool, true, false, cond, Option, Some, None, is_some, refl, sym, ap, ◌∙◌}
use Rattle.std.specs.Prelude.{◌==◌}
use Rattle.std.specs.Option.{option_map_or, option_and_then}
use Rattle.std.specs.List.{slice_get}
use Rattle.std.specs.Str.{bytes_eq}
use Rattle.std.proofs.lemmas.Option.{same_Some, none-some}
use Rattle.aa_model.specs.declared.rule.ExecKind.{ExecKind}
use Rattle.aa_model.specs.declared.rule.ExecKind.TheVariants.{Inherit, Unconfined as Leave, Profile as Named, Child}
use Rattle.aa_model.specs.declared.rule.Fallback.{Fallback}
use Rattle.aa_model.specs.declared.rule.Exec.{Exec as Way}
use Rattle.aa_model.specs.declared.policy.Policy.{Policy}
use Rattle.aa_model.specs.declared.policy.Profile.{Profile}
use Rattle.aa_model.specs.declared.label.Label.{Label}
use Rattle.aa_model.specs.declared.answer.Answer.{Answer}
use Rattle.aa_model.specs.declared.label.Label.TheVariants.{Unconfined, Confined}
use Rattle.aa_model.specs.declared.request.Request.TheVariants.{Exec}
use Rattle.aa_model.specs.Requests.{RequestedExec}
use Rattle.aa_model.specs.Lawful.{has_exec}
use Rattle.aa_compile.specs.FileRules.{file_verdict, chosen, way_of}
use Rattle.aa_compile.specs.Labels.{policy_number}
use Rattle.aa_compile.specs.Attached.{attached}
use Rattle.aa_compile.specs.Transitions.{tops, children, found_by, goes, leads, leads_by}
use Rattle.aa_compile.specs.declared.transition.Transition.{Transition}
use Rattle.aa_compile.specs.declared.transition.Transition.TheVariants.{Denied, Nowhere, To}
use Rattle.aa_mediate.specs.Bits.{exec_bits}
use Rattle.aa_mediate.specs.Decided.{answered, decided, refusal_note, grant_note}
use Rattle.aa_mediate.specs.Reply.{label_by, label_after, scrubs, exec_reply, reply_at, reply_by, reply}
use Rattle.aa_changed_rules.specs.declared.attachments.Range.{Range}
use Rattle.aa_changed_rules.specs.declared.attachments.Range.TheVariants.{Tops, Children}
use Rattle.aa_changed_rules.specs.Attachments.{range_by, range_in, attached_among, name_of, unless_alike, alone_among, found_alone, attached_alone}
use Rattle.aa_changed_rules.specs.Leading.{AttachedAreLedTo}

module _ (m : Label) (e : RequestedExec) (n : ℕ) where
  -- a number that is kept is given
  same_by : (i : ℕ) (b : Bool) → cond b None (Some i) ≡ Some n → i ≡ n
  same_by i true h = absurd (none-some n h)
  same_by i false h = same_Some i n h

  unless_same : (q o : Policy) (i : ℕ) (x : Option ℕ) → unless_alike q o i x ≡ Some n → i ≡ n
  unless_same q o i None h = same_Some i n h
  unless_same q o i (Some j) h = same_by i (bytes_eq (name_of q i) (name_of o j)) h

  -- what is attached alone is attached
  alone_attached : (q o : Policy) (l : Label) (r : Range) → alone_among q o l m e.path r ≡ Some n → attached_among q l r e.path ≡ Some n
  alone_attached q o l r h = by (attached_among q l r e.path) h
    where
      by : (x : Option ℕ) → option_and_then (λ (i : ℕ). unless_alike q o i (attached_among o m r e.path)) x ≡ Some n → x ≡ Some n
      by None h = absurd (none-some n h)
      by (Some i) h = ap Some (unless_same q o i (attached_among o m r e.path) h)

  module _ (q o : Policy) (k i : ℕ) (p : Profile) (there : slice_get q.profiles i ≡ Some p) where
    abbrev Finds : Option Range → Type 0
    Finds r = option_and_then (alone_among q o (Confined k i) m e.path) r ≡ Some n

    abbrev AreLed : Transition → Type 0
    AreLed t = (s : Bool) × (t ≡ To (Some n) s)

    -- the range of an execution to a child, by whether the task's profile is one
    child_led : (f : Fallback) (s b : Bool) → Finds (cond b None (Some Children))
        → goes f s i (cond b None (attached q.profiles (children q.profiles i) e.path)) ≡ To (Some n) s
    child_led f s true h = absurd (none-some n h)
    child_led f s false h =
        ap (goes f s i) (
        sym (ap (λ (o : Option Profile). option_and_then (λ (x : Profile). attached q.profiles (children q.profiles i) e.path) o) there)
        ∙ alone_attached q o (Confined k i) Children h)

    kind_led : (kind : ExecKind) (f : Fallback) (s : Bool) (t : Option (List ℕ)) → Finds (range_by kind (is_some t) (is_some p.parent))
        → leads kind f s i (found_by q.profiles i p e.path kind t) ≡ To (Some n) s
    kind_led Inherit f s t h = absurd (none-some n h)
    kind_led Leave f s t h = absurd (none-some n h)
    kind_led Named f s (Some t) h = absurd (none-some n h)
    kind_led Named f s None h = ap (goes f s i) (alone_attached q o (Confined k i) Tops h)
    kind_led Child f s (Some t) h = absurd (none-some n h)
    kind_led Child f s None h = child_led f s (is_some p.parent) h

    abbrev range_of : Way → Option Range
    range_of w = range_by w.kind (is_some w.target) (is_some p.parent)

    way_led : (b : Bool) (w : Option Way) → Finds (cond b None (option_and_then range_of w))
        → AreLed (cond b Denied (option_map_or (leads_by q.profiles i p e.path) w Nowhere))
    way_led true w h = absurd (none-some n h)
    way_led false None h = absurd (none-some n h)
    way_led false (Some w) h = (w.scrub, kind_led w.kind w.fallback w.scrub w.target h)

    -- an execution that leads to a profile is granted, whatever the profile's flags
    granted_by : (b : Bool) (answer refusal : Answer) → answer.label ≡ Confined k n
        → (cond (cond b 0 0 == 0) answer refusal).label ≡ Confined k n
    granted_by true answer refusal h = h
    granted_by false answer refusal h = h

    pub exec_led : Finds (range_in e p) → (exec_reply k q.profiles i p e).label ≡ Confined k n
    exec_led h =
        let led = way_led (has_exec (file_verdict p.files e.path e.owned).deny) (way_of (chosen p.files e.path e.owned)) h in
        ap (λ (t : Transition). (decided p (Confined k i) (label_after k i t) (scrubs t) (exec_bits p.files e t)).label) led.1
        ∙ granted_by p.complain (answered true led.0 (Confined k n) (grant_note p (exec_bits p.files e (To (Some n) led.0))))
        (answered false false (Confined k i) (refusal_note p (exec_bits p.files e (To (Some n) led.0)))) refl

  at_profile : (ps : List Policy) (q o : Policy) (k i : ℕ) (x : Option Profile) → slice_get q.profiles i ≡ x
      → option_and_then (alone_among q o (Confined k i) m e.path) (option_and_then (range_in e) x) ≡ Some n
      → (reply_at ps k q.profiles i x (Exec e)).label ≡ Confined k n
  at_profile ps q o k i None is h = absurd (none-some n h)
  at_profile ps q o k i (Some p) is h = exec_led q o k i p is h

  by_policy : (ps : List Policy) (q o : Policy) (l : Label) → slice_get ps (policy_number l) ≡ Some q → found_alone q o l m e ≡ Some n
      → (reply_by ps l (Some q) (Exec e)).label ≡ Confined (policy_number l) n
  by_policy ps q o (Unconfined k) is h =
      ap (label_by k) (ap (λ (x : Option Policy). option_and_then (λ (p : Policy). attached p.profiles (tops p.profiles) e.path) x) is
      ∙ alone_attached q o (Unconfined k) Tops h)
  by_policy ps q o (Confined k i) is h = at_profile ps q o k i (slice_get q.profiles i) refl h

  by_policies : (ps : List Policy) (l : Label) (q o : Option Policy) → slice_get ps (policy_number l) ≡ q
      → option_and_then (λ (x : Policy). option_and_then (λ (y : Policy). found_alone x y l m e) o) q ≡ Some n
      → (reply_by ps l q (Exec e)).label ≡ Confined (policy_number l) n
  by_policies ps l None o is h = absurd (none-some n h)
  by_policies ps l (Some q) None is h = absurd (none-some n h)
  by_policies ps l (Some q) (Some o) is h = by_policy ps q o l is h

pub attached_are_led_to : AttachedAreLedTo
unfolding reply attached_alone
attached_are_led_to ps qs l m e n h = by_policies m e n ps l (slice_get ps (policy_number l)) (slice_get qs (policy_number m)) refl h
