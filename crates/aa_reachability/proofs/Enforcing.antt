-- In a profile that isn't in complain mode nothing is granted by complain mode alone.
use Rattle.std.proofs.Common.{◌≡◌, ℕ, Bool, true, false, cond, List, Option, Some, None, refl, sym, ap, ◌∙◌, subst}
use Rattle.std.specs.Prelude.{◌==◌, is_some}
use Rattle.std.specs.List.{slice_get}
use Rattle.std.specs.Option.{option_map_or, option_and_then}
use Rattle.aa_model.specs.declared.policy.Policy.{Policy}
use Rattle.aa_model.specs.declared.policy.Profile.{Profile}
use Rattle.aa_model.specs.declared.label.Label.{Label}
use Rattle.aa_model.specs.declared.label.Label.TheVariants.{Unconfined, Confined}
use Rattle.aa_model.specs.declared.request.Request.{Request}
use Rattle.aa_model.specs.declared.request.Request.TheVariants.{File, Link, Exec, Cap, Net, Change, Reload}
use Rattle.aa_model.specs.declared.answer.Answer.{Answer}
use Rattle.aa_model.specs.declared.answer.Note.{Note}
use Rattle.aa_model.specs.declared.answer.NoteWord.TheVariants.{Denied, Allowed, Audit}
use Rattle.aa_compile.specs.Labels.{profile_in, policy_number, label_named}
use Rattle.aa_compile.specs.Said.{perms_of, minus}
use Rattle.aa_compile.specs.Transitions.{transition}
use Rattle.aa_mediate.specs.declared.bits.RequestBits.{RequestBits}
use Rattle.aa_mediate.specs.Bits.{file_bits, exec_bits, plain_bits, change_bits}
use Rattle.aa_mediate.specs.Links.{link_bits}
use Rattle.aa_mediate.specs.Held.{cap_verdict, net_verdict, change_verdict}
use Rattle.aa_mediate.specs.Decided.{blocked, note_of, unnamed, grant_note, refusal_note, answered, decided, without_perms}
use Rattle.aa_mediate.specs.Reply.{label_after, scrubs, found_or, reply_in, reply_at, reply_by, reply}
use Rattle.aa_reachability.specs.Moves.{says_allowed, is_by_complain, complains_by}

abbrev pub by_note : Option Note → Bool
by_note note = option_map_or (λ (n : Note). says_allowed n.word) note false

pub denied_note : (x : ℕ) → by_note (note_of Denied x) ≡ false
denied_note x = at (x == 0)
  where
    at : (b : Bool) → by_note (cond b None (Some (record { word = Denied; perms = perms_of x }))) ≡ false
    at true = refl
    at false = refl

pub audit_note : (x : ℕ) → by_note (note_of Audit x) ≡ false
audit_note x = at (x == 0)
  where
    at : (b : Bool) → by_note (cond b None (Some (record { word = Audit; perms = perms_of x }))) ≡ false
    at true = refl
    at false = refl

pub unnamed_note : (o : Option Note) → by_note (unnamed o) ≡ by_note o
unnamed_note None = refl
unnamed_note (Some n) = refl

module _ (p : Profile) (enforced : p.complain ≡ false) where
  pub plainly_decided : (label next : Label) (scrub : Bool) (bits : RequestBits) → is_by_complain (decided p label next scrub bits) ≡ false
  plainly_decided label next scrub bits = at (blocked p bits == 0) (ap (λ (b : Bool). cond b bits.denied.0 bits.missing.0 == 0) enforced)
    where
      granting : (b : Bool) → b ≡ true → by_note (cond b (note_of Audit (cond p.audit bits.requested.0 bits.audited.0)) (note_of Allowed bits.missing.0)) ≡ false
      granting true e = audit_note (cond p.audit bits.requested.0 bits.audited.0)
      granting false e = absurd (let f : false ≡ true = e in cc)

      at : (b : Bool) → b ≡ (bits.missing.0 == 0)
          → is_by_complain (cond b (answered true scrub next (grant_note p bits)) (answered false false label (refusal_note p bits))) ≡ false
      at true e = granting (bits.missing.0 == 0) (sym e)
      at false e = denied_note (cond p.audit (blocked p bits) (minus (blocked p bits) bits.quiet.0))

  unnamed_decided : (a : Answer) → is_by_complain a ≡ false → is_by_complain (without_perms a) ≡ false
  unnamed_decided a e = unnamed_note a.note ∙ e

  plainly_in : (ps : List Policy) (k n : ℕ) (profiles : List Profile) (r : Request) → is_by_complain (reply_in ps k profiles n p r) ≡ false
  plainly_in ps k n profiles (File r) = plainly_decided (Confined k n) (Confined k n) false (file_bits p.files r)
  plainly_in ps k n profiles (Link r) = plainly_decided (Confined k n) (Confined k n) false (link_bits p.files r)
  plainly_in ps k n profiles (Exec r) =
      let t = transition profiles n p r.path r.owned in
      plainly_decided (Confined k n) (label_after k n t) (scrubs t) (exec_bits p.files r t)
  plainly_in ps k n profiles (Cap c) =
      let bits = plain_bits 1 (cap_verdict p.caps c) in
      unnamed_decided (decided p (Confined k n) (Confined k n) false bits) (plainly_decided (Confined k n) (Confined k n) false bits)
  plainly_in ps k n profiles (Net f s) =
      let bits = plain_bits 1 (net_verdict p.nets f s) in
      unnamed_decided (decided p (Confined k n) (Confined k n) false bits) (plainly_decided (Confined k n) (Confined k n) false bits)
  plainly_in ps k n profiles (Change name) =
      let found = label_named ps k name in
      let bits = change_bits (change_verdict p.changes name) (is_some found) in
      unnamed_decided (decided p (Confined k n) (found_or (Confined k n) found) false bits) (plainly_decided (Confined k n) (found_or (Confined k n) found) false bits)
  plainly_in ps k n profiles (Reload m) = refl

plainly_at : (ps : List Policy) (k n : ℕ) (profiles : List Profile) (o : Option Profile) → ((p : Profile) → o ≡ Some p → p.complain ≡ false) → (r : Request)
    → is_by_complain (reply_at ps k profiles n o r) ≡ false
plainly_at ps k n profiles None enforced r = refl
plainly_at ps k n profiles (Some p) enforced r = plainly_in p (enforced p refl) ps k n profiles r

plainly_by : (ps : List Policy) (k n : ℕ) (o : Option Policy)
    → ((p : Profile) → option_and_then (λ (q : Policy). slice_get q.profiles n) o ≡ Some p → p.complain ≡ false) → (r : Request)
    → is_by_complain (reply_by ps (Confined k n) o r) ≡ false
plainly_by ps k n None enforced r = refl
plainly_by ps k n (Some policy) enforced r = plainly_at ps k n policy.profiles (slice_get policy.profiles n) enforced r

pub plainly : (ps : List Policy) (k n : ℕ) → ((p : Profile) → profile_in ps k n ≡ Some p → p.complain ≡ false) → (r : Request)
    → complains_by ps (Confined k n) r ≡ false
unfolding reply
plainly ps k n enforced r = plainly_by ps k n (slice_get ps k) enforced r

freely_by : (ps : List Policy) (k : ℕ) (o : Option Policy) (r : Request) → is_by_complain (reply_by ps (Unconfined k) o r) ≡ false
freely_by ps k None r = refl
freely_by ps k (Some policy) (File r) = refl
freely_by ps k (Some policy) (Link r) = refl
freely_by ps k (Some policy) (Exec r) = refl
freely_by ps k (Some policy) (Cap c) = refl
freely_by ps k (Some policy) (Net f s) = refl
freely_by ps k (Some policy) (Change name) = refl
freely_by ps k (Some policy) (Reload m) = refl

pub freely : (ps : List Policy) (k : ℕ) (r : Request) → complains_by ps (Unconfined k) r ≡ false
unfolding reply
freely ps k r = freely_by ps k (slice_get ps k) r
