-- A request that isn't undecided is answered as it was.
use Rattle.std.proofs.Common.{◌≡◌, ℕ, zero, suc, List, [], ◌∷◌, Bool, true, false, true≢false, cond, Option, Some, None, refl, sym, ap, ◌∙◌}
use Rattle.std.specs.Prelude.{codes, not, ◌&&◌, ◌==◌, is_some}
use Rattle.std.specs.List.{slice_get}
use Rattle.std.specs.Option.{option_map, option_map_or}
use Rattle.std.specs.Str.{bytes_eq}
use Rattle.aa_base.specs.declared.fault.Spot.{Spot}
use Rattle.aa_model.specs.declared.policy.Policy.{Policy}
use Rattle.aa_model.specs.declared.policy.Profile.{Profile}
use Rattle.aa_model.specs.declared.label.Label.{Label}
use Rattle.aa_model.specs.declared.label.Label.TheVariants.{Unconfined, Confined}
use Rattle.aa_model.specs.declared.answer.Answer.{Answer}
use Rattle.aa_model.specs.declared.request.Request.{Request}
use Rattle.aa_model.specs.declared.request.Request.TheVariants.{File, Link, Exec, Cap, Net, Change, Reload}
use Rattle.aa_model.specs.Requests.{RequestedExec}
use Rattle.aa_compile.specs.declared.transition.Transition.{Transition}
use Rattle.aa_compile.specs.declared.transition.Transition.TheVariants.{Denied, Nowhere, To}
use Rattle.aa_compile.specs.Labels.{label_in}
use Rattle.aa_compile.specs.Transitions.{named, transition}
use Rattle.aa_mediate.specs.declared.bits.RequestBits.{RequestBits}
use Rattle.aa_mediate.specs.Decided.{blocked, decided, answered, without_perms, grant_note, refusal_note}
use Rattle.aa_mediate.specs.Held.{cap_verdict, net_verdict, change_verdict}
use Rattle.aa_mediate.specs.Bits.{plain_bits, file_bits, exec_bits, change_bits}
use Rattle.aa_mediate.specs.Links.{link_bits}
use Rattle.aa_mediate.specs.Reply.{label_by, label_after, scrubs, found_or, goes_to, change_reply, reply_free, reply_in, reply_at, reply}
use Rattle.aa_skipping.specs.declared.unread.Unread.{Unread}
use Rattle.aa_skipping.specs.Joined.{IsJoinedWith, moved_profile}
use Rattle.aa_skipping.specs.Names.{is_doubtful, may_be_unread}
use Rattle.aa_skipping.specs.Undecided.{is_doubtful_label, lets_change, undecided_in, undecided_free, undecided}
use Rattle.aa_skipping.specs.Laws.{moved, moved_answer}
use Rattle.aa_skipping.proofs.Numbers.{named_at}
use Rattle.aa_skipping.proofs.Finding.{names_stand}
use Rattle.aa_skipping.proofs.Searching.{searches_stand}
use Rattle.aa_skipping.proofs.Leading.{moved_transition, transition_stands}
use Rattle.aa_skipping.proofs.Changing.{refused_alike}

module _ (place : ℕ → ℕ) where
  label_stands : (k : ℕ) (f : Option ℕ) → label_by k (option_map place f) ≡ moved place (label_by k f)
  label_stands k None = refl
  label_stands k (Some n) = refl

  after_stands : (k n : ℕ) (t : Transition) → label_after k (place n) (moved_transition place t) ≡ moved place (label_after k n t)
  after_stands k n Denied = refl
  after_stands k n Nowhere = refl
  after_stands k n (To next scrub) = label_stands k next

  found_stands : (label : Label) (f : Option Label) → found_or (moved place label) (option_map (moved place) f) ≡ moved place (found_or label f)
  found_stands label None = refl
  found_stands label (Some next) = refl

  goes_stand : (label : Label) (f : Option Label) → goes_to (moved place label) (option_map (moved place) f) ≡ moved_answer place (goes_to label f)
  goes_stand label None = refl
  goes_stand label (Some next) = refl

  some_stands : (f : Option Label) → is_some (option_map (moved place) f) ≡ is_some f
  some_stands None = refl
  some_stands (Some l) = refl

  either : (b : Bool) (x y : Answer) → cond b (moved_answer place x) (moved_answer place y) ≡ moved_answer place (cond b x y)
  either true x y = refl
  either false x y = refl

  decided_stands : (p : Profile) (spot : Spot) (label next : Label) (scrub : Bool) (bits : RequestBits)
      → decided (moved_profile place spot p) (moved place label) (moved place next) scrub bits ≡ moved_answer place (decided p label next scrub bits)
  decided_stands p spot label next scrub bits = either (blocked p bits == 0) (answered true scrub next (grant_note p bits)) (answered false false label (refusal_note p bits))

  bits_stand : (p : Profile) (r : RequestedExec) (t : Transition) → exec_bits p.files r (moved_transition place t) ≡ exec_bits p.files r t
  bits_stand p r Denied = refl
  bits_stand p r Nowhere = refl
  bits_stand p r (To next scrub) = refl

  scrubs_stand : (t : Transition) → scrubs (moved_transition place t) ≡ scrubs t
  scrubs_stand Denied = refl
  scrubs_stand Nowhere = refl
  scrubs_stand (To next scrub) = refl

  exec_stands : (p : Profile) (spot : Spot) (k n : ℕ) (r : RequestedExec) (s t : Transition) → s ≡ moved_transition place t
      → decided (moved_profile place spot p) (Confined k (place n)) (label_after k (place n) s) (scrubs s) (exec_bits p.files r s)
      ≡ moved_answer place (decided p (Confined k n) (label_after k n t) (scrubs t) (exec_bits p.files r t))
  exec_stands p spot k n r s t e =
      ap (λ (u : Transition). decided (moved_profile place spot p) (Confined k (place n)) (label_after k (place n) u) (scrubs u) (exec_bits p.files r u)) e
      ∙ ap (λ (l : Label). decided (moved_profile place spot p) (Confined k (place n)) l (scrubs (moved_transition place t)) (exec_bits p.files r (moved_transition place t))) (after_stands k n t)
      ∙ ap (λ (b : Bool). decided (moved_profile place spot p) (Confined k (place n)) (moved place (label_after k n t)) b (exec_bits p.files r (moved_transition place t))) (scrubs_stand t)
      ∙ ap (decided (moved_profile place spot p) (Confined k (place n)) (moved place (label_after k n t)) (scrubs t)) (bits_stand p r t)
      ∙ decided_stands p spot (Confined k n) (label_after k n t) (scrubs t) (exec_bits p.files r t)

  change_stands : (p : Profile) (spot : Spot) (k n : ℕ) (name : List ℕ) (f : Option Label)
      → change_reply k (place n) (moved_profile place spot p) name (option_map (moved place) f) ≡ moved_answer place (change_reply k n p name f)
  change_stands p spot k n name None = ap without_perms (decided_stands p spot (Confined k n) (Confined k n) false (change_bits (change_verdict p.changes name) false))
  change_stands p spot k n name (Some next) = ap without_perms (decided_stands p spot (Confined k n) next false (change_bits (change_verdict p.changes name) true))

module _ (unread : Unread) (read joined : Policy) (place : ℕ → ℕ) (j : IsJoinedWith unread read.profiles joined.profiles place) where
  abbrev unconfined : List ℕ → Bool
  unconfined name = bytes_eq name (codes "unconfined")

  -- the label of a name that isn't in doubt
  named_stands : (k : ℕ) (name : List ℕ) → is_doubtful_label read.profiles unread name ≡ false → label_in k name joined ≡ option_map (moved place) (label_in k name read)
  named_stands k name sure = at (unconfined name) refl
    where
      confined : (f : Option ℕ) → option_map (Confined k) (option_map place f) ≡ option_map (moved place) (option_map (Confined k) f)
      confined None = refl
      confined (Some n) = refl

      at : (b : Bool) → unconfined name ≡ b → cond (unconfined name) (Some (Unconfined k)) (option_map (Confined k) (named joined.profiles name))
          ≡ option_map (moved place) (cond (unconfined name) (Some (Unconfined k)) (option_map (Confined k) (named read.profiles name)))
      at true e =
          ap (λ (b : Bool). cond b (Some (Unconfined k)) (option_map (Confined k) (named joined.profiles name))) e
          ∙ sym (ap (λ (b : Bool). option_map (moved place) (cond b (Some (Unconfined k)) (option_map (Confined k) (named read.profiles name)))) e)
      at false e =
          ap (λ (b : Bool). cond b (Some (Unconfined k)) (option_map (Confined k) (named joined.profiles name))) e
          ∙ ap (option_map (Confined k)) (names_stand unread read joined place j name (sym (ap (λ (b : Bool). not b && is_doubtful read.profiles unread name) e) ∙ sure))
          ∙ confined (named read.profiles name)
          ∙ sym (ap (λ (b : Bool). option_map (moved place) (cond b (Some (Unconfined k)) (option_map (Confined k) (named read.profiles name)))) e)

  free : (request : Request) → undecided_free read.profiles unread request ≡ false
      → reply_free (joined ∷ []) 0 request ≡ moved_answer place (reply_free (read ∷ []) 0 request)
  free (Exec r) sure =
      ap (λ (f : Option ℕ). answered true false (label_by 0 f) None) (searches_stand unread read joined place j r.path sure)
      ∙ ap (λ (l : Label). answered true false l None) (label_stands place 0 _)
  free (Change name) sure = ap (goes_to (Unconfined 0)) (named_stands 0 name sure) ∙ goes_stand place (Unconfined 0) (label_in 0 name read)
  free (Reload zero) sure = refl
  free (Reload (suc m)) sure = refl
  free (File r) sure = refl
  free (Link r) sure = refl
  free (Cap c) sure = refl
  free (Net f s) sure = refl

  module _ (n : ℕ) (p : Profile) (there : slice_get read.profiles n ≡ Some p) (spot : Spot) where
    abbrev q : Profile
    q = moved_profile place spot p

    -- its own name is never in doubt
    own_name : named joined.profiles p.name ≡ option_map place (named read.profiles p.name)
    own_name =
        names_stand unread read joined place j p.name
        (ap (λ (o : Option ℕ). not (is_some o) && may_be_unread unread p.name) (named_at read.profiles read.lawful.distinct n p there))

    reloaded : (m : ℕ) (f g : Option ℕ) → g ≡ option_map place f → goes_to (Confined 0 (place n)) (option_map (Confined m) g) ≡ moved_answer place (goes_to (Confined 0 n) (option_map (Confined m) f))
    reloaded m None g e = ap (λ (o : Option ℕ). goes_to (Confined 0 (place n)) (option_map (Confined m) o)) e
    reloaded m (Some i) g e = ap (λ (o : Option ℕ). goes_to (Confined 0 (place n)) (option_map (Confined m) o)) e

    changed : (name : List ℕ) → (is_doubtful_label read.profiles unread name && lets_change p name) ≡ false
        → change_reply 0 (place n) q name (label_in 0 name joined) ≡ moved_answer place (change_reply 0 n p name (label_in 0 name read))
    changed name sure = at (is_doubtful_label read.profiles unread name) refl
      where
        at : (b : Bool) → is_doubtful_label read.profiles unread name ≡ b → change_reply 0 (place n) q name (label_in 0 name joined) ≡ moved_answer place (change_reply 0 n p name (label_in 0 name read))
        at false e = ap (change_reply 0 (place n) q name) (named_stands 0 name e) ∙ change_stands place p spot 0 n name (label_in 0 name read)
        at true e =
            let no : lets_change p name ≡ false = sym (ap (λ (b : Bool). b && lets_change p name) e) ∙ sure in
            refused_alike 0 (place n) q name no (label_in 0 name joined)
            ∙ sym (ap (moved_answer place) (refused_alike 0 n p name no (label_in 0 name read)))

    confined : (request : Request) → undecided_in read.profiles unread p request ≡ false
        → reply_in (joined ∷ []) 0 joined.profiles (place n) q request ≡ moved_answer place (reply_in (read ∷ []) 0 read.profiles n p request)
    confined (File r) sure = decided_stands place p spot (Confined 0 n) (Confined 0 n) false (file_bits p.files r)
    confined (Link r) sure = decided_stands place p spot (Confined 0 n) (Confined 0 n) false (link_bits p.files r)
    confined (Exec r) sure =
        exec_stands place p spot 0 n r (transition joined.profiles (place n) q r.path r.owned) (transition read.profiles n p r.path r.owned)
        (transition_stands unread read joined place j n p there spot r.path r.owned sure)
    confined (Cap c) sure = ap without_perms (decided_stands place p spot (Confined 0 n) (Confined 0 n) false (plain_bits 1 (cap_verdict p.caps c)))
    confined (Net f s) sure = ap without_perms (decided_stands place p spot (Confined 0 n) (Confined 0 n) false (plain_bits 1 (net_verdict p.nets f s)))
    confined (Change name) sure = changed name sure
    confined (Reload zero) sure = reloaded 0 (named read.profiles p.name) (named joined.profiles p.name) own_name
    confined (Reload (suc m)) sure = refl

  by_profile : (n : ℕ) (request : Request) (o : Option Profile) → slice_get read.profiles n ≡ o → option_map_or (λ (p : Profile). undecided_in read.profiles unread p request) o true ≡ false
      → reply_at (joined ∷ []) 0 joined.profiles (place n) (slice_get joined.profiles (place n)) request ≡ moved_answer place (reply_at (read ∷ []) 0 read.profiles n o request)
  by_profile n request None e sure = absurd (true≢false sure)
  by_profile n request (Some p) e sure =
      let k = j.kept n p e in
      ap (λ (x : Option Profile). reply_at (joined ∷ []) 0 joined.profiles (place n) x request) k.1 ∙ confined n p e k.0 request sure

  pub answers_stand : (label : Label) (request : Request) → undecided read.profiles unread label request ≡ false
      → reply (joined ∷ []) (moved place label) request ≡ moved_answer place (reply (read ∷ []) label request)
  unfolding reply undecided
  answers_stand (Unconfined zero) request sure = free request sure
  answers_stand (Unconfined (suc k)) request sure = refl
  answers_stand (Confined zero n) request sure = by_profile n request (slice_get read.profiles n) refl sure
  answers_stand (Confined (suc k) n) request sure = refl
