-- The reasons tell the answers.
use Rattle.std.proofs.Common.{◌≡◌, ℕ, ◌<◌, List, Bool, true, false, cond, Option, Some, map, refl, ap, ◌∙◌, arith}
use Rattle.std.specs.Prelude.{◌==◌, is_some}
use Rattle.std.specs.List.{All, slice_get}
use Rattle.aa_model.specs.declared.rule.FileRule.{FileRule}
use Rattle.aa_model.specs.declared.rule.CapRule.{CapRule}
use Rattle.aa_model.specs.declared.rule.NetRule.{NetRule}
use Rattle.aa_model.specs.declared.rule.ChangeRule.{ChangeRule}
use Rattle.aa_model.specs.declared.policy.Policy.{Policy}
use Rattle.aa_model.specs.declared.policy.Profile.{Profile}
use Rattle.aa_compile.specs.FileRules.{applies_by, any_sort}
use Rattle.aa_model.specs.declared.request.Request.{Request}
use Rattle.aa_model.specs.declared.request.Request.TheVariants.{File, Link, Exec, Cap, Net, Change, Reload}
use Rattle.aa_model.specs.declared.label.Label.{Label}
use Rattle.aa_model.specs.declared.label.Label.TheVariants.{Confined}
use Rattle.aa_model.specs.declared.answer.Answer.{Answer}
use Rattle.std.proofs.lemmas.Bool.{ltb-true}
use Rattle.aa_compile.specs.Labels.{label_named}
use Rattle.aa_mediate.specs.declared.bits.RequestBits.{RequestBits}
use Rattle.aa_compile.specs.Holding.{cap_holds, net_holds, change_holds}
use Rattle.aa_mediate.specs.Held.{change_verdict}
use Rattle.aa_mediate.specs.Bits.{change_bits}
use Rattle.aa_mediate.specs.Decided.{answered, blocked, decided, grant_note, refusal_note}
use Rattle.aa_mediate.specs.Reply.{reply, reply_by, reply_at, reply_in}
use Rattle.aa_explain.specs.declared.deciders.Listed.TheVariants as lists
use Rattle.aa_explain.specs.Deciders.{reasons_by}
use Rattle.aa_explain.specs.Sayings.{change_saying}
use Rattle.aa_ask.specs.Telling.{HasBytes, grant, Tells, is_decided_alone, has_label, ReasonsTell, ReasonsTellAnswers}
use Rattle.aa_ask.proofs.Named.{granted_by, granted_unfound}

reply_is : (policies : List Policy) (policy : Policy) (k n : ℕ) (p : Profile) (request : Request) → slice_get policies k ≡ Some policy → slice_get policy.profiles n ≡ Some p
    → reply policies (Confined k n) request ≡ reply_in policies k policy.profiles n p request
unfolding reply
reply_is policies policy k n p request e f =
    ap (λ (o : Option Policy). reply_by policies (Confined k n) o request) e ∙ ap (λ (o : Option Profile). reply_at policies k policy.profiles n o request) f

granted_where : (b : Bool) (granting refusing : Answer) → granting.granted ≡ true → refusing.granted ≡ false → (cond b granting refusing).granted ≡ b
granted_where true granting refusing is isnt = is
granted_where false granting refusing is isnt = isnt

granted_is : (p : Profile) (label next : Label) (scrub : Bool) (bits : RequestBits) → (decided p label next scrub bits).granted ≡ (blocked p bits == 0)
granted_is p label next scrub bits =
    granted_where (blocked p bits == 0) (answered true scrub next (grant_note p bits)) (answered false false label (refusal_note p bits)) refl refl

one_bit : {R : Type 0} (rules : List R) → All (λ r. 1 < 256) rules
one_bit rules k d lt = omega arith

-- a change is blocked by what the rules leave, and by a name that isn't found
change_tells : (p : Profile) (name : List ℕ) (found : Bool) → (blocked p (change_bits (change_verdict p.changes name) found) == 0) ≡ grant p.complain found (reasons_by lists.Changes (map (change_saying name) p.changes) 1)
change_tells p name true = granted_by (change_holds name) (λ (r : ChangeRule). r.audit) (λ (r : ChangeRule). r.deny) (λ r. 1) p.complain lists.Changes 1 p.changes (omega arith) (one_bit p.changes)
change_tells p name false = granted_unfound (change_holds name) (λ (r : ChangeRule). r.audit) (λ (r : ChangeRule). r.deny) (λ r. 1) p.complain lists.Changes 1 p.changes (omega arith) refl (one_bit p.changes)

tell : (policies : List Policy) (policy : Policy) (k n : ℕ) (p : Profile) → slice_get policies k ≡ Some policy → slice_get policy.profiles n ≡ Some p → HasBytes p → ReasonsTell policies k n p
tell policies policy k n p e f fit = by_kind
  where
    told : (request : Request) → (reply policies (Confined k n) request).granted ≡ (reply_in policies k policy.profiles n p request).granted
    told request = ap (λ (a : Answer). a.granted) (reply_is policies policy k n p request e f)

    by_kind : (request : Request) → is_decided_alone request ≡ true → Tells policies k n p request (has_label policies k request)
    by_kind (File q) fits = told (File q) ∙ (granted_is p _ _ _ _
        ∙ granted_by (applies_by any_sort q.path q.owned) (λ (r : FileRule). r.audit) (λ (r : FileRule). r.deny) (λ (r : FileRule). r.perms.0)
        p.complain lists.Files q.mask.0 p.files (ltb-true q.mask.0 256 fits) fit)
    by_kind (Link l) isnt = absurd cc
    by_kind (Exec x) isnt = absurd cc
    by_kind (Cap c) is = told (Cap c) ∙ (granted_is p _ _ _ _
        ∙ granted_by (cap_holds c) (λ (r : CapRule). r.audit) (λ (r : CapRule). r.deny) (λ r. 1)
        p.complain lists.Caps 1 p.caps (omega arith) (one_bit p.caps))
    by_kind (Net family kind) is = told (Net family kind) ∙ (granted_is p _ _ _ _
        ∙ granted_by (net_holds family kind) (λ (r : NetRule). r.audit) (λ (r : NetRule). r.deny) (λ r. 1)
        p.complain lists.Nets 1 p.nets (omega arith) (one_bit p.nets))
    by_kind (Change name) is = told (Change name) ∙ (granted_is p _ _ _ _ ∙ change_tells p name (is_some (label_named policies k name)))
    by_kind (Reload policy) isnt = absurd cc

pub reasons_tell_answers : ReasonsTellAnswers
reasons_tell_answers = tell
