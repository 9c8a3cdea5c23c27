-- Where all heads are the same, bodies that are the same give the same replies.
use Rattle.std.proofs.Common.{◌≡◌, ℕ, List, Bool, true, false, cond, Option, Some, None, option_map, refl, ap, subst, ◌∙◌}
use Rattle.std.specs.Prelude.{◌==◌, codes, is_some}
use Rattle.std.specs.List.{AllZip, slice_get, list_any}
use Rattle.std.specs.Option.{option_and_then, option_eq}
use Rattle.std.specs.Str.{bytes_eq}
use Rattle.aa_model.specs.declared.rule.Exec.{Exec}
use Rattle.aa_model.specs.declared.rule.CapRule.{CapRule}
use Rattle.aa_model.specs.declared.rule.NetRule.{NetRule}
use Rattle.aa_model.specs.declared.rule.FileRule.{FileRule}
use Rattle.aa_model.specs.declared.policy.Profile.{Profile}
use Rattle.aa_model.specs.declared.policy.Policy.{Policy}
use Rattle.aa_compile.specs.declared.sets.RuleSets.{RuleSets}
use Rattle.aa_compile.specs.Said.{perms_of, minus}
use Rattle.aa_compile.specs.Attached.{attached}
use Rattle.aa_compile.specs.FileRules.{file_verdict, chosen, way_of}
use Rattle.aa_compile.specs.declared.transition.Transition.{Transition}
use Rattle.aa_compile.specs.Transitions.{named, tops, transition}
use Rattle.aa_model.specs.declared.label.Label.{Label}
use Rattle.aa_model.specs.declared.label.Label.TheVariants.{Unconfined, Confined}
use Rattle.aa_model.specs.declared.request.Request.{Request}
use Rattle.aa_model.specs.declared.request.Request.TheVariants.{File, Link, Exec as Execution, Cap, Net, Change, Reload}
use Rattle.aa_model.specs.declared.answer.Answer.{Answer}
use Rattle.aa_model.specs.declared.answer.NoteWord.TheVariants.{Denied, Allowed, Audit}
use Rattle.aa_model.specs.Requests.{RequestedLink, RequestedExec}
use Rattle.aa_compile.specs.Labels.{label_in, label_named, profile_in}
use Rattle.aa_mediate.specs.declared.bits.RequestBits.{RequestBits}
use Rattle.aa_mediate.specs.Held.{cap_verdict, net_verdict, change_verdict}
use Rattle.aa_mediate.specs.Bits.{plain_bits, exec_bits, exec_missing, exec_denied, change_bits}
use Rattle.aa_mediate.specs.Links.{same_exec, link_bits, link_bits_of}
use Rattle.aa_mediate.specs.Decided.{note_of, answered, decided, without_perms}
use Rattle.aa_mediate.specs.Reply.{label_by, label_after, scrubs, found_or, goes_to, confined_in, reply_free, kept, exec_reply, change_reply, reply_in, reply_at, reply_by, reply}
use Rattle.aa_differences.specs.Same.{name_of, SameLabel, SameAnswer, AnsweredAlike}
use Rattle.aa_differences.specs.Sameness.{IsAlike, SameHead, SameBody, SameTops, SameHeads, SameBodyAt}
use Rattle.aa_differences.proofs.Rows.{got_alike}
use Rattle.aa_differences.proofs.Zipped.{zipped_equal}
use Rattle.aa_differences.proofs.SameRules.{audited_alike, change_verdict_alike, chosen_way_alike, file_verdict_alike}
use Rattle.aa_differences.proofs.SameProfiles.{attached_alike, named_alike, numbers_alike, transition_alike}

-- an answer by the two flags of a profile
abbrev decided_by : Bool → Bool → Label → Label → Bool → RequestBits → Answer
decided_by complain audit label next scrub bits =
    let blocked = cond complain bits.denied.0 bits.missing.0 in
    cond (blocked == 0)
    (answered true scrub next (cond (bits.missing.0 == 0) (note_of Audit (cond audit bits.requested.0 bits.audited.0)) (note_of Allowed bits.missing.0)))
    (answered false false label (note_of Denied (cond audit blocked (minus blocked bits.quiet.0))))

decided_alike : (p q : Profile) → SameBody p q → (label next : Label) (scrub : Bool) (bits : RequestBits) → decided p label next scrub bits ≡ decided q label next scrub bits
decided_alike p q h label next scrub bits =
    ap (λ (c : Bool). decided_by c p.audit label next scrub bits) h.complain ∙ ap (λ (a : Bool). decided_by q.complain a label next scrub bits) h.audit

exec_bits_alike : (p q : Profile) → SameBody p q → (r : RequestedExec) (t : Transition) → exec_bits p.files r t ≡ exec_bits q.files r t
exec_bits_alike p q h r t =
    ap (λ (v : RuleSets). record {
      requested = perms_of 64;
      missing = perms_of (exec_missing t);
      denied = perms_of (exec_denied t);
      quiet = perms_of (minus (exec_denied t) v.loud.0);
      audited = perms_of (cond (list_any (λ (rule : FileRule). rule.audit) (chosen p.files r.path r.owned)) 64 0);
    }) (file_verdict_alike r.path r.owned p.files q.files h.files)
    ∙ ap (λ (b : Bool). record {
      requested = perms_of 64;
      missing = perms_of (exec_missing t);
      denied = perms_of (exec_denied t);
      quiet = perms_of (minus (exec_denied t) (file_verdict q.files r.path r.owned).loud.0);
      audited = perms_of (cond b 64 0);
    }) (audited_alike r.path r.owned p.files q.files h.files)

link_bits_alike : (p q : Profile) → SameBody p q → (r : RequestedLink) → link_bits p.files r ≡ link_bits q.files r
link_bits_alike p q h r =
    ap (λ (v : RuleSets). link_bits_of v (file_verdict p.files r.target r.owned)
    (option_eq same_exec (way_of (chosen p.files r.link r.owned)) (way_of (chosen p.files r.target r.owned))))
    (file_verdict_alike r.link r.owned p.files q.files h.files)
    ∙ ap (λ (v : RuleSets). link_bits_of (file_verdict q.files r.link r.owned) v
    (option_eq same_exec (way_of (chosen p.files r.link r.owned)) (way_of (chosen p.files r.target r.owned))))
    (file_verdict_alike r.target r.owned p.files q.files h.files)
    ∙ ap (λ (w : Option Exec). link_bits_of (file_verdict q.files r.link r.owned) (file_verdict q.files r.target r.owned)
    (option_eq same_exec w (way_of (chosen p.files r.target r.owned)))) (chosen_way_alike r.link r.owned p.files q.files h.files)
    ∙ ap (λ (w : Option Exec). link_bits_of (file_verdict q.files r.link r.owned) (file_verdict q.files r.target r.owned)
    (option_eq same_exec (way_of (chosen q.files r.link r.owned)) w)) (chosen_way_alike r.target r.owned p.files q.files h.files)

kept_alike : (k n : ℕ) (p q : Profile) → SameBody p q → (bits others : RequestBits) → bits ≡ others → kept k n p bits ≡ kept k n q others
kept_alike k n p q h bits others e = ap (λ (b : RequestBits). kept k n p b) e ∙ decided_alike p q h (Confined k n) (Confined k n) false others

exec_alike : (k : ℕ) (ps qs : List Profile) → AllZip SameHead ps qs → (n : ℕ) (p q : Profile) → SameHead p q → SameBody p q → (r : RequestedExec) → exec_reply k ps n p r ≡ exec_reply k qs n q r
exec_alike k ps qs same n p q head h r =
    let t = transition qs n q r.path r.owned in
    ap (λ (x : Transition). decided p (Confined k n) (label_after k n x) (scrubs x) (exec_bits p.files r x)) (transition_alike ps qs same n p q head h r.path r.owned)
    ∙ ap (λ (b : RequestBits). decided p (Confined k n) (label_after k n t) (scrubs t) b) (exec_bits_alike p q h r t)
    ∙ decided_alike p q h (Confined k n) (label_after k n t) (scrubs t) (exec_bits q.files r t)

change_alike : (k n : ℕ) (p q : Profile) → SameBody p q → (name : List ℕ) (found : Option Label) → change_reply k n p name found ≡ change_reply k n q name found
change_alike k n p q h name found =
    ap (λ (v : RuleSets). without_perms (decided p (Confined k n) (found_or (Confined k n) found) false (change_bits v (is_some found)))) (change_verdict_alike name p.changes q.changes h.changes)
    ∙ ap without_perms (decided_alike p q h (Confined k n) (found_or (Confined k n) found) false (change_bits (change_verdict q.changes name) (is_some found)))

module _ (policies others : List Policy) (same : SameHeads policies others) where
  got : (k : ℕ) → IsAlike SameTops (slice_get policies k) (slice_get others k)
  got k = got_alike SameTops policies others k same

  label_in_alike : (k : ℕ) (name : List ℕ) (o p : Option Policy) → IsAlike SameTops o p → option_and_then (label_in k name) o ≡ option_and_then (label_in k name) p
  label_in_alike k name None None h = refl
  label_in_alike k name (Some x) (Some y) h =
      ap (λ (n : Option ℕ). cond (bytes_eq name (codes "unconfined")) (Some (Unconfined k)) (option_map (Confined k) n)) (named_alike x.profiles y.profiles h name)
  label_in_alike k name None (Some y) h = absurd h
  label_in_alike k name (Some x) None h = absurd h

  pub label_named_alike : (k : ℕ) (name : List ℕ) → label_named policies k name ≡ label_named others k name
  label_named_alike k name = label_in_alike k name (slice_get policies k) (slice_get others k) (got k)

  free_by : (m : ℕ) (o p : Option Policy) → IsAlike SameTops o p → option_map (λ (x : Policy). Unconfined m) o ≡ option_map (λ (x : Policy). Unconfined m) p
  free_by m None None h = refl
  free_by m (Some x) (Some y) h = refl
  free_by m None (Some y) h = absurd h
  free_by m (Some x) None h = absurd h

  confined_by : (m : ℕ) (name : List ℕ) (o p : Option Policy) → IsAlike SameTops o p →
      option_and_then (λ (x : Policy). option_map (Confined m) (named x.profiles name)) o ≡ option_and_then (λ (x : Policy). option_map (Confined m) (named x.profiles name)) p
  confined_by m name None None h = refl
  confined_by m name (Some x) (Some y) h = ap (option_map (Confined m)) (named_alike x.profiles y.profiles h name)
  confined_by m name None (Some y) h = absurd h
  confined_by m name (Some x) None h = absurd h

  attached_by_policy : (path : List ℕ) (o p : Option Policy) → IsAlike SameTops o p →
      option_and_then (λ (x : Policy). attached x.profiles (tops x.profiles) path) o ≡ option_and_then (λ (x : Policy). attached x.profiles (tops x.profiles) path) p
  attached_by_policy path None None h = refl
  attached_by_policy path (Some x) (Some y) h =
      attached_alike x.profiles y.profiles h (tops x.profiles) path
      ∙ ap (λ (ns : List ℕ). attached y.profiles ns path) (numbers_alike None 0 x.profiles y.profiles h)
  attached_by_policy path None (Some y) h = absurd h
  attached_by_policy path (Some x) None h = absurd h

  free_alike : (k : ℕ) (request : Request) → reply_free policies k request ≡ reply_free others k request
  free_alike k (File r) = refl
  free_alike k (Link r) = refl
  free_alike k (Execution r) = ap (λ (n : Option ℕ). answered true false (label_by k n) None) (attached_by_policy r.path (slice_get policies k) (slice_get others k) (got k))
  free_alike k (Cap c) = refl
  free_alike k (Net f s) = refl
  free_alike k (Change name) = ap (goes_to (Unconfined k)) (label_named_alike k name)
  free_alike k (Reload m) = ap (goes_to (Unconfined k)) (free_by m (slice_get policies m) (slice_get others m) (got m))

  in_alike : (k : ℕ) (ps qs : List Profile) → AllZip SameHead ps qs → (n : ℕ) (p q : Profile) → SameHead p q → SameBody p q → (request : Request) → reply_in policies k ps n p request ≡ reply_in others k qs n q request
  in_alike k ps qs all n p q head h (File r) = kept_alike k n p q h _ _ (ap (plain_bits r.mask.0) (file_verdict_alike r.path r.owned p.files q.files h.files))
  in_alike k ps qs all n p q head h (Link r) = kept_alike k n p q h _ _ (link_bits_alike p q h r)
  in_alike k ps qs all n p q head h (Execution r) = exec_alike k ps qs all n p q head h r
  in_alike k ps qs all n p q head h (Cap c) = ap without_perms (kept_alike k n p q h _ _ (ap (λ (rules : List CapRule). plain_bits 1 (cap_verdict rules c)) (zipped_equal p.caps q.caps h.caps)))
  in_alike k ps qs all n p q head h (Net f s) = ap without_perms (kept_alike k n p q h _ _ (ap (λ (rules : List NetRule). plain_bits 1 (net_verdict rules f s)) (zipped_equal p.nets q.nets h.nets)))
  in_alike k ps qs all n p q head h (Change name) = change_alike k n p q h name (label_named policies k name) ∙ ap (change_reply k n q name) (label_named_alike k name)
  in_alike k ps qs all n p q head h (Reload m) =
      ap (λ (name : List ℕ). goes_to (Confined k n) (confined_in policies m name)) head.name
      ∙ ap (goes_to (Confined k n)) (confined_by m q.name (slice_get policies m) (slice_get others m) (got m))

  at_alike : (k : ℕ) (ps qs : List Profile) → AllZip SameHead ps qs → (n : ℕ) (o p : Option Profile) → IsAlike SameHead o p → IsAlike SameBody o p → (request : Request) →
      reply_at policies k ps n o request ≡ reply_at others k qs n p request
  at_alike k ps qs all n None None head h request = refl
  at_alike k ps qs all n (Some x) (Some y) head h request = in_alike k ps qs all n x y head h request
  at_alike k ps qs all n None (Some y) head h request = absurd h
  at_alike k ps qs all n (Some x) None head h request = absurd h

  bodies_by : (k n : ℕ) (o p : Option Policy) → IsAlike SameTops o p → IsAlike SameBody (option_and_then (λ (x : Policy). slice_get x.profiles n) o) (option_and_then (λ (x : Policy). slice_get x.profiles n) p)
      → (request : Request) → reply_by policies (Confined k n) o request ≡ reply_by others (Confined k n) p request
  bodies_by k n None None h body request = refl
  bodies_by k n (Some x) (Some y) h body request =
      at_alike k x.profiles y.profiles h n (slice_get x.profiles n) (slice_get y.profiles n) (got_alike SameHead x.profiles y.profiles n h) body request
  bodies_by k n None (Some y) h body request = absurd h
  bodies_by k n (Some x) None h body request = absurd h

  frees_by : (k : ℕ) (o p : Option Policy) → IsAlike SameTops o p → (request : Request) → reply_by policies (Unconfined k) o request ≡ reply_by others (Unconfined k) p request
  frees_by k None None h request = refl
  frees_by k (Some x) (Some y) h request = free_alike k request
  frees_by k None (Some y) h request = absurd h
  frees_by k (Some x) None h request = absurd h

  confined_alike : (k n : ℕ) → IsAlike SameBody (profile_in policies k n) (profile_in others k n) → (request : Request) → reply policies (Confined k n) request ≡ reply others (Confined k n) request
  unfolding reply
  confined_alike k n body request = bodies_by k n (slice_get policies k) (slice_get others k) (got k) body request

  unconfined_alike : (k : ℕ) (request : Request) → reply policies (Unconfined k) request ≡ reply others (Unconfined k) request
  unfolding reply
  unconfined_alike k request = frees_by k (slice_get policies k) (slice_get others k) (got k) request

  named_by : (o p : Option Profile) → IsAlike SameHead o p → name_of o ≡ name_of p
  named_by None None h = refl
  named_by (Some x) (Some y) h = ap Some h.name
  named_by None (Some y) h = absurd h
  named_by (Some x) None h = absurd h

  heads_by : (n : ℕ) (o p : Option Policy) → IsAlike SameTops o p → IsAlike SameHead (option_and_then (λ (x : Policy). slice_get x.profiles n) o) (option_and_then (λ (x : Policy). slice_get x.profiles n) p)
  heads_by n None None h = tt
  heads_by n (Some x) (Some y) h = got_alike SameHead x.profiles y.profiles n h
  heads_by n None (Some y) h = absurd h
  heads_by n (Some x) None h = absurd h

  -- a label is called the same in both
  called_alike : (l : Label) → SameLabel policies others l l
  called_alike (Unconfined k) = refl
  called_alike (Confined k n) = (refl, named_by (profile_in policies k n) (profile_in others k n) (heads_by n (slice_get policies k) (slice_get others k) (got k)))

  same_answers : (a b : Answer) → a ≡ b → SameAnswer policies others a b
  same_answers a b e = subst (λ (x : Answer). SameAnswer policies others a x) e (record { granted = refl; scrub = refl; note = refl; label = called_alike a.label })

  pub bodies_alike : (l m : Label) → SameBodyAt policies others l m → (r : Request) → AnsweredAlike policies others l m r
  bodies_alike (Unconfined k) (Unconfined j) h r =
      subst (λ (i : ℕ). AnsweredAlike policies others (Unconfined k) (Unconfined i) r) h (same_answers (reply policies (Unconfined k) r) (reply others (Unconfined k) r) (unconfined_alike k r))
  bodies_alike (Confined k n) (Confined j m) h r =
      subst (λ (i : ℕ). AnsweredAlike policies others (Confined k n) (Confined i m) r) h.0
      (subst (λ (i : ℕ). AnsweredAlike policies others (Confined k n) (Confined k i) r) h.1
      (same_answers (reply policies (Confined k n) r) (reply others (Confined k n) r) (confined_alike k n h.2 r)))
  bodies_alike (Unconfined k) (Confined j m) h r = absurd h
  bodies_alike (Confined k n) (Unconfined j) h r = absurd h
