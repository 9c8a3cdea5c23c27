-- What is answered of paths that the same patterns match.
use Rattle.std.proofs.Common.{◌≡◌, ℕ, List, ◌++◌, Bool, true, false, cond, Option, Some, None, refl, ap, ◌∙◌, subst}
use Rattle.std.specs.Prelude.{is_some}
use Rattle.std.specs.List.{slice_get, list_any}
use Rattle.std.specs.Option.{option_map_or, option_eq, option_and_then}
use Rattle.std.proofs.lemmas.List.Elements.{Contains-append_left, Contains-append_right}
use Rattle.aa_pattern.specs.declared.pattern.Pattern.{Pattern}
use Rattle.aa_base.specs.Permissions.{only_exec}
use Rattle.aa_base.specs.declared.perms.Perms.{Perms}
use Rattle.aa_model.specs.declared.rule.Exec.{Exec}
use Rattle.aa_model.specs.declared.rule.ExecKind.{ExecKind}
use Rattle.aa_model.specs.declared.rule.ExecKind.TheVariants.{Inherit, Unconfined as Leaves, Profile as Named, Child}
use Rattle.aa_model.specs.declared.rule.FileRule.{FileRule}
use Rattle.aa_model.specs.declared.policy.Policy.{Policy}
use Rattle.aa_model.specs.declared.policy.Profile.{Profile}
use Rattle.aa_model.specs.Lawful.{has_exec}
use Rattle.aa_compile.specs.declared.sets.RuleSets.{RuleSets}
use Rattle.aa_compile.specs.Said.{perms_of, minus}
use Rattle.aa_compile.specs.FileRules.{file_verdict, chosen, way_of}
use Rattle.aa_compile.specs.Rows.{patterns_of}
use Rattle.aa_compile.specs.Attached.{attached}
use Rattle.aa_compile.specs.Checks.{attached_patterns}
use Rattle.aa_compile.specs.declared.transition.Transition.{Transition}
use Rattle.aa_compile.specs.declared.transition.Transition.TheVariants.{Denied, Nowhere}
use Rattle.aa_compile.specs.Transitions.{tops, children, found_by, leads, leads_by, transition}
use Rattle.aa_model.specs.declared.label.Label.{Label}
use Rattle.aa_model.specs.declared.label.Label.TheVariants.{Unconfined, Confined}
use Rattle.aa_model.specs.declared.request.Request.TheVariants.{File, Link, Exec as Execution, Change}
use Rattle.aa_model.specs.Requests.{RequestedFile, RequestedLink, RequestedExec}
use Rattle.aa_compile.specs.Labels.{policy_number, label_named}
use Rattle.aa_mediate.specs.declared.bits.RequestBits.{RequestBits}
use Rattle.aa_mediate.specs.Bits.{plain_bits, file_bits, exec_bits, exec_missing, exec_denied, change_bits}
use Rattle.aa_mediate.specs.Links.{same_exec, link_bits, link_bits_of}
use Rattle.aa_mediate.specs.Decided.{answered, decided, without_perms}
use Rattle.aa_mediate.specs.Reply.{label_by, label_after, scrubs, found_or, goes_to, kept, exec_reply, change_reply, reply_free, reply_at, reply_by, reply}
use Rattle.aa_representatives.specs.Alike.{MatchAlike, NameAlike, deciding_at, deciding_by, deciding, changing_at, changing_by, changing, FilesAlike, ExecsAlike, LinksAlike, ChangesAlike}
use Rattle.aa_representatives.proofs.Matched.{verdict_alike, chosen_alike, attached_alike, change_alike}

abbrev pub file_at : List ℕ → Perms → Bool → RequestedFile
file_at s mask owned = record { path = s; mask = mask; owned = owned }

abbrev exec_at : List ℕ → Bool → RequestedExec
exec_at s owned = record { path = s; owned = owned }

abbrev link_at : List ℕ → List ℕ → Bool → RequestedLink
link_at s v owned = record { link = s; target = v; owned = owned }

module _ (profiles : List Profile) (n : ℕ) (p : Profile) (s u : List ℕ) (alike : MatchAlike (deciding_at profiles n (Some p)) s u) where
  abbrev files : List Pattern
  files = patterns_of p.files

  abbrev above : List Pattern
  above = attached_patterns profiles (tops profiles)

  abbrev below : List Pattern
  below = attached_patterns profiles (children profiles n)

  pub files_alike : MatchAlike files s u
  files_alike q c = alike q (Contains-append_left (files ++ above) below q (Contains-append_left files above q c))

  tops_alike : attached profiles (tops profiles) s ≡ attached profiles (tops profiles) u
  tops_alike = attached_alike s u profiles (tops profiles) (λ q c. alike q (Contains-append_left (files ++ above) below q (Contains-append_right files above q c)))

  children_alike : attached profiles (children profiles n) s ≡ attached profiles (children profiles n) u
  children_alike = attached_alike s u profiles (children profiles n) (λ q c. alike q (Contains-append_right (files ++ above) below q c))

  found_alike : (kind : ExecKind) (target : Option (List ℕ)) → found_by profiles n p s kind target ≡ found_by profiles n p u kind target
  found_alike Named (Some name) = refl
  found_alike Named None = tops_alike
  found_alike Child (Some name) = refl
  found_alike Child None = ap (λ (o : Option ℕ). cond (is_some p.parent) None o) children_alike
  found_alike Inherit target = refl
  found_alike Leaves target = refl

  leads_alike : (o : Option Exec) → option_map_or (leads_by profiles n p s) o Nowhere ≡ option_map_or (leads_by profiles n p u) o Nowhere
  leads_alike None = refl
  leads_alike (Some e) = ap (λ (o : Option ℕ). leads e.kind e.fallback e.scrub n o) (found_alike e.kind e.target)

  pub transition_alike : (owned : Bool) → transition profiles n p s owned ≡ transition profiles n p u owned
  transition_alike owned =
      ap (λ (v : RuleSets). cond (has_exec v.deny) Denied (option_map_or (leads_by profiles n p s) (way_of (chosen p.files s owned)) Nowhere)) (verdict_alike s u owned p.files files_alike)
      ∙ ap (λ (rs : List FileRule). cond (has_exec (file_verdict p.files u owned).deny) Denied (option_map_or (leads_by profiles n p s) (way_of rs) Nowhere)) (chosen_alike s u owned p.files files_alike)
      ∙ ap (λ (t : Transition). cond (has_exec (file_verdict p.files u owned).deny) Denied t) (leads_alike (way_of (chosen p.files u owned)))

  exec_bits_alike : (owned : Bool) (t : Transition) → exec_bits p.files (exec_at s owned) t ≡ exec_bits p.files (exec_at u owned) t
  exec_bits_alike owned t =
      ap (λ (v : RuleSets). record {
        requested = perms_of only_exec;
        missing = perms_of (exec_missing t);
        denied = perms_of (exec_denied t);
        quiet = perms_of (minus (exec_denied t) v.loud.0);
        audited = perms_of (cond (list_any (λ (rule : FileRule). rule.audit) (chosen p.files s owned)) only_exec 0);
      }) (verdict_alike s u owned p.files files_alike)
      ∙ ap (λ (rs : List FileRule). record {
        requested = perms_of only_exec;
        missing = perms_of (exec_missing t);
        denied = perms_of (exec_denied t);
        quiet = perms_of (minus (exec_denied t) (file_verdict p.files u owned).loud.0);
        audited = perms_of (cond (list_any (λ (rule : FileRule). rule.audit) rs) only_exec 0);
      }) (chosen_alike s u owned p.files files_alike)

  pub exec_alike : (k : ℕ) (owned : Bool) → exec_reply k profiles n p (exec_at s owned) ≡ exec_reply k profiles n p (exec_at u owned)
  exec_alike k owned =
      let t = transition profiles n p u owned in
      ap (λ (x : Transition). decided p (Confined k n) (label_after k n x) (scrubs x) (exec_bits p.files (exec_at s owned) x)) (transition_alike owned)
      ∙ ap (λ (b : RequestBits). decided p (Confined k n) (label_after k n t) (scrubs t) b) (exec_bits_alike owned t)

  pub file_alike : (k : ℕ) (mask : Perms) (owned : Bool) → kept k n p (file_bits p.files (file_at s mask owned)) ≡ kept k n p (file_bits p.files (file_at u mask owned))
  file_alike k mask owned = ap (λ (v : RuleSets). kept k n p (plain_bits mask.0 v)) (verdict_alike s u owned p.files files_alike)

  pub link_alike : (k : ℕ) (owned : Bool) (v w : List ℕ) → MatchAlike (deciding_at profiles n (Some p)) v w → kept k n p (link_bits p.files (link_at s v owned)) ≡ kept k n p (link_bits p.files (link_at u w owned))
  link_alike k owned v w other =
      let others : MatchAlike files v w = λ q c. other q (Contains-append_left (files ++ above) below q (Contains-append_left files above q c)) in
      ap (λ (x : RuleSets). kept k n p (link_bits_of x (file_verdict p.files v owned) (option_eq same_exec (way_of (chosen p.files s owned)) (way_of (chosen p.files v owned))))) (verdict_alike s u owned p.files files_alike)
      ∙ ap (λ (x : RuleSets). kept k n p (link_bits_of (file_verdict p.files u owned) x (option_eq same_exec (way_of (chosen p.files s owned)) (way_of (chosen p.files v owned))))) (verdict_alike v w owned p.files others)
      ∙ ap (λ (rs : List FileRule). kept k n p (link_bits_of (file_verdict p.files u owned) (file_verdict p.files w owned) (option_eq same_exec (way_of rs) (way_of (chosen p.files v owned))))) (chosen_alike s u owned p.files files_alike)
      ∙ ap (λ (rs : List FileRule). kept k n p (link_bits_of (file_verdict p.files u owned) (file_verdict p.files w owned) (option_eq same_exec (way_of (chosen p.files u owned)) (way_of rs)))) (chosen_alike v w owned p.files others)

module _ (policies : List Policy) (s u : List ℕ) where
  files_at : (k : ℕ) (profiles : List Profile) (n : ℕ) (o : Option Profile) → MatchAlike (deciding_at profiles n o) s u → (mask : Perms) (owned : Bool) →
      reply_at policies k profiles n o (File (file_at s mask owned)) ≡ reply_at policies k profiles n o (File (file_at u mask owned))
  files_at k profiles n (Some p) alike mask owned = file_alike profiles n p s u alike k mask owned
  files_at k profiles n None alike mask owned = refl

  files_by : (label : Label) (o : Option Policy) → MatchAlike (deciding_by label o) s u → (mask : Perms) (owned : Bool) →
      reply_by policies label o (File (file_at s mask owned)) ≡ reply_by policies label o (File (file_at u mask owned))
  files_by (Unconfined k) (Some policy) alike mask owned = refl
  files_by (Confined k n) (Some policy) alike mask owned = files_at k policy.profiles n (slice_get policy.profiles n) alike mask owned
  files_by (Unconfined k) None alike mask owned = refl
  files_by (Confined k n) None alike mask owned = refl

  pub files_reply_alike : (label : Label) → MatchAlike (deciding policies label) s u → FilesAlike policies label s u
  unfolding reply
  files_reply_alike label alike mask owned = files_by label (slice_get policies (policy_number label)) alike mask owned

  execs_at : (k : ℕ) (profiles : List Profile) (n : ℕ) (o : Option Profile) → MatchAlike (deciding_at profiles n o) s u → (owned : Bool) →
      reply_at policies k profiles n o (Execution (exec_at s owned)) ≡ reply_at policies k profiles n o (Execution (exec_at u owned))
  execs_at k profiles n (Some p) alike owned = exec_alike profiles n p s u alike k owned
  execs_at k profiles n None alike owned = refl

  free_by : (k : ℕ) (policy : Policy) → MatchAlike (attached_patterns policy.profiles (tops policy.profiles)) s u → Some policy ≡ slice_get policies k → (owned : Bool) →
      reply_free policies k (Execution (exec_at s owned)) ≡ reply_free policies k (Execution (exec_at u owned))
  free_by k policy alike e owned =
      ap (λ (x : Option ℕ). answered true false (label_by k x) None)
      (subst (λ (o : Option Policy). option_and_then (λ (x : Policy). attached x.profiles (tops x.profiles) s) o ≡ option_and_then (λ (x : Policy). attached x.profiles (tops x.profiles) u) o) e
      (attached_alike s u policy.profiles (tops policy.profiles) alike))

  execs_by : (label : Label) (o : Option Policy) → o ≡ slice_get policies (policy_number label) → MatchAlike (deciding_by label o) s u → (owned : Bool) →
      reply_by policies label o (Execution (exec_at s owned)) ≡ reply_by policies label o (Execution (exec_at u owned))
  execs_by (Unconfined k) (Some policy) e alike owned = free_by k policy alike e owned
  execs_by (Confined k n) (Some policy) e alike owned = execs_at k policy.profiles n (slice_get policy.profiles n) alike owned
  execs_by (Unconfined k) None e alike owned = refl
  execs_by (Confined k n) None e alike owned = refl

  pub execs_reply_alike : (label : Label) → MatchAlike (deciding policies label) s u → ExecsAlike policies label s u
  unfolding reply
  execs_reply_alike label alike owned = execs_by label (slice_get policies (policy_number label)) refl alike owned

  module _ (v w : List ℕ) where
    links_at : (k : ℕ) (profiles : List Profile) (n : ℕ) (o : Option Profile) → MatchAlike (deciding_at profiles n o) s u → MatchAlike (deciding_at profiles n o) v w → (owned : Bool) →
        reply_at policies k profiles n o (Link (link_at s v owned)) ≡ reply_at policies k profiles n o (Link (link_at u w owned))
    links_at k profiles n (Some p) alike other owned = link_alike profiles n p s u alike k owned v w other
    links_at k profiles n None alike other owned = refl

    links_by : (label : Label) (o : Option Policy) → MatchAlike (deciding_by label o) s u → MatchAlike (deciding_by label o) v w → (owned : Bool) →
        reply_by policies label o (Link (link_at s v owned)) ≡ reply_by policies label o (Link (link_at u w owned))
    links_by (Unconfined k) (Some policy) alike other owned = refl
    links_by (Confined k n) (Some policy) alike other owned = links_at k policy.profiles n (slice_get policy.profiles n) alike other owned
    links_by (Unconfined k) None alike other owned = refl
    links_by (Confined k n) None alike other owned = refl

    pub links_reply_alike : (label : Label) → MatchAlike (deciding policies label) s u → MatchAlike (deciding policies label) v w → LinksAlike policies label s u v w
    unfolding reply
    links_reply_alike label alike other owned = links_by label (slice_get policies (policy_number label)) alike other owned

module _ (policies : List Policy) (s u : List ℕ) where
  changes_at : (k : ℕ) (profiles : List Profile) (n : ℕ) (o : Option Profile) → MatchAlike (changing_at o) s u → label_named policies k s ≡ label_named policies k u →
      reply_at policies k profiles n o (Change s) ≡ reply_at policies k profiles n o (Change u)
  changes_at k profiles n (Some p) alike same =
      ap (λ (found : Option Label). change_reply k n p s found) same
      ∙ ap (λ (v : RuleSets). without_perms (decided p (Confined k n) (found_or (Confined k n) (label_named policies k u)) false (change_bits v (is_some (label_named policies k u)))))
      (change_alike s u p.changes alike)
  changes_at k profiles n None alike same = refl

  changes_by : (label : Label) (o : Option Policy) → MatchAlike (changing_by label o) s u → NameAlike policies label s u → reply_by policies label o (Change s) ≡ reply_by policies label o (Change u)
  changes_by (Unconfined k) (Some policy) alike same = ap (λ (found : Option Label). goes_to (Unconfined k) found) same
  changes_by (Confined k n) (Some policy) alike same = changes_at k policy.profiles n (slice_get policy.profiles n) alike same
  changes_by (Unconfined k) None alike same = refl
  changes_by (Confined k n) None alike same = refl

  pub changes_reply_alike : (label : Label) → MatchAlike (changing policies label) s u → NameAlike policies label s u → ChangesAlike policies label s u
  unfolding reply
  changes_reply_alike label alike same = changes_by label (slice_get policies (policy_number label)) alike same
