-- Requests that leave the label, and those that move it.
use Rattle.std.proofs.Common.{◌≡◌, ◌⊎◌, ℕ, Bool, true, false, cond, List, ◌++◌, Option, Some, None, Contains, inl, inr, refl, sym, ◌∙◌}
use Rattle.std.proofs.Common.{ap, subst, ⊎_elim}
use Rattle.std.specs.Prelude.{IsPermutation, ◌==◌, ◌&&◌}
use Rattle.std.specs.List.{slice_get}
use Rattle.std.proofs.lemmas.List.Sorted.{Contains-permutation, IsPermutation-sym}
use Rattle.std.proofs.lemmas.List.Elements.{Contains-append_left, Contains-append_right, Contains-append_cases}
use Rattle.aa_model.specs.declared.policy.Policy.{Policy}
use Rattle.aa_model.specs.declared.policy.Profile.{Profile}
use Rattle.aa_model.specs.declared.label.Label.{Label}
use Rattle.aa_model.specs.declared.label.Label.TheVariants.{Unconfined, Confined}
use Rattle.aa_model.specs.declared.request.Request.{Request}
use Rattle.aa_model.specs.declared.request.Request.TheVariants.{File, Link, Exec, Cap, Net, Change, Reload}
use Rattle.aa_model.specs.declared.answer.Answer.{Answer}
use Rattle.aa_compile.specs.Labels.{policy_number, label_named}
use Rattle.aa_mediate.specs.declared.bits.RequestBits.{RequestBits}
use Rattle.aa_mediate.specs.Decided.{blocked}
use Rattle.aa_mediate.specs.Reply.{found_or, kept, reply_at, reply_by, reply}
use Rattle.aa_representatives.specs.Askable.{IsFile, IsExec, IsLink, IsCap, IsNet, IsChange, IsReload, IsAskable}
use Rattle.aa_reachability.specs.declared.going.Going.{Going}
use Rattle.aa_reachability.specs.Granted.{IsGranted}
use Rattle.aa_reachability.specs.Order.{IsNoLater}
use Rattle.aa_reachability.specs.Moves.{is_by_complain, label_kept, label_next, label_in, is_left_out, IsLeftOutAs, LeadAllOf, LeadExecs, LeadAll, LeadAllBy}

pub label_of_either : (b : Bool) (x y : Answer) (l : Label) → x.label ≡ l → y.label ≡ l → (cond b x y).label ≡ l
label_of_either true x y l e f = e
label_of_either false x y l e f = f

kept_label : (k n : ℕ) (p : Profile) (bits : RequestBits) → (kept k n p bits).label ≡ Confined k n
kept_label k n p bits = label_of_either (blocked p bits == 0) _ _ (Confined k n) refl refl

-- it moves no task
abbrev Stays : Request → Type 0
Stays (File r) = Unit {0}
Stays (Link r) = Unit {0}
Stays (Cap c) = Unit {0}
Stays (Net f s) = Unit {0}
Stays _ = ⊥

stays_in : (ps : List Policy) (k : ℕ) (profiles : List Profile) (n : ℕ) (o : Option Profile) (r : Request) → Stays r
    → (reply_at ps k profiles n o r).label ≡ Confined k n
stays_in ps k profiles n None r is = refl
stays_in ps k profiles n (Some p) (File r) is = kept_label k n p _
stays_in ps k profiles n (Some p) (Link r) is = kept_label k n p _
stays_in ps k profiles n (Some p) (Cap c) is = kept_label k n p _
stays_in ps k profiles n (Some p) (Net f s) is = kept_label k n p _
stays_in ps k profiles n (Some p) (Exec r) is = absurd is
stays_in ps k profiles n (Some p) (Change name) is = absurd is
stays_in ps k profiles n (Some p) (Reload m) is = absurd is

stays_by : (ps : List Policy) (l : Label) (o : Option Policy) (r : Request) → Stays r → (reply_by ps l o r).label ≡ l
stays_by ps (Confined k n) (Some policy) r is = stays_in ps k policy.profiles n (slice_get policy.profiles n) r is
stays_by ps (Confined k n) None r is = refl
stays_by ps (Unconfined k) None r is = refl
stays_by ps (Unconfined k) (Some policy) (File r) is = refl
stays_by ps (Unconfined k) (Some policy) (Link r) is = refl
stays_by ps (Unconfined k) (Some policy) (Cap c) is = refl
stays_by ps (Unconfined k) (Some policy) (Net f s) is = refl
stays_by ps (Unconfined k) (Some policy) (Exec r) is = absurd is
stays_by ps (Unconfined k) (Some policy) (Change name) is = absurd is
stays_by ps (Unconfined k) (Some policy) (Reload m) is = absurd is

stays : (ps : List Policy) (l : Label) (r : Request) → Stays r → label_next ps l r ≡ l
unfolding reply
stays ps l r is = stays_by ps l (slice_get ps (policy_number l)) r is

file_stays : (r : Request) → IsFile r → Stays r
file_stays (File r) is = tt
file_stays (Link r) is = absurd is
file_stays (Exec r) is = absurd is
file_stays (Cap c) is = absurd is
file_stays (Net f s) is = absurd is
file_stays (Change name) is = absurd is
file_stays (Reload m) is = absurd is

link_stays : (r : Request) → IsLink r → Stays r
link_stays (Link r) is = tt
link_stays (File r) is = absurd is
link_stays (Exec r) is = absurd is
link_stays (Cap c) is = absurd is
link_stays (Net f s) is = absurd is
link_stays (Change name) is = absurd is
link_stays (Reload m) is = absurd is

cap_stays : (r : Request) → IsCap r → Stays r
cap_stays (Cap c) is = tt
cap_stays (File r) is = absurd is
cap_stays (Link r) is = absurd is
cap_stays (Exec r) is = absurd is
cap_stays (Net f s) is = absurd is
cap_stays (Change name) is = absurd is
cap_stays (Reload m) is = absurd is

net_stays : (r : Request) → IsNet r → Stays r
net_stays (Net f s) is = tt
net_stays (File r) is = absurd is
net_stays (Link r) is = absurd is
net_stays (Exec r) is = absurd is
net_stays (Cap c) is = absurd is
net_stays (Change name) is = absurd is
net_stays (Reload m) is = absurd is

no_path : (clean : Bool) → (clean && false) ≡ false
no_path true = refl
no_path false = refl

-- changes and reloads have no path
change_counts : (clean : Bool) (q : Request) → IsChange q → is_left_out clean q ≡ false
change_counts clean (Change s) is = no_path clean
change_counts clean (File r) is = absurd is
change_counts clean (Link r) is = absurd is
change_counts clean (Exec r) is = absurd is
change_counts clean (Cap c) is = absurd is
change_counts clean (Net f s) is = absurd is
change_counts clean (Reload m) is = absurd is

reload_counts : (clean : Bool) (q : Request) → IsReload q → is_left_out clean q ≡ false
reload_counts clean (Reload m) is = no_path clean
reload_counts clean (File r) is = absurd is
reload_counts clean (Link r) is = absurd is
reload_counts clean (Exec r) is = absurd is
reload_counts clean (Cap c) is = absurd is
reload_counts clean (Net f s) is = absurd is
reload_counts clean (Change s) is = absurd is

-- those that stand for executions, changes and reloads, put together, lead to all labels
module _ (ps : List Policy) (l : Label) (execs changes reloads rs : List Request) (are : rs ≡ (execs ++ changes) ++ reloads)
    (clean : Bool) (of_execs : LeadExecs clean ps l execs) (of_changes : LeadAllOf ps l IsChange changes) (of_reloads : LeadAllOf ps l IsReload reloads) where
  abbrev Leads : Request → Type 0
  Leads r = (label_next ps l r ≡ l) ⊎ ((q : Request) × Contains rs q × (reply ps l r ≡ reply ps l q) × IsNoLater q r × IsLeftOutAs clean q r)

  among : (q : Request) → Contains ((execs ++ changes) ++ reloads) q → Contains rs q
  among q c = subst (λ xs. Contains xs q) (sym are) c

  leads_by : (Kind : Request → Type 0) (some : List Request) → LeadAllOf ps l Kind some → ((q : Request) → Contains some q → Contains rs q)
      → ((q : Request) → Kind q → is_left_out clean q ≡ false) → (r : Request) → Kind r → Leads r
  leads_by Kind some lead within counts r is =
      ⊎_elim
      (λ (stays : label_next ps l r ≡ l). inl stays)
      (λ (s : (q : Request) × Contains some q × (reply ps l r ≡ reply ps l q) × IsNoLater q r).
      inr (s.0, within s.0 s.1, s.2, s.3, λ other. counts s.0 (lead.each s.0 s.1)))
      (lead.all r is)

  leads_exec : (r : Request) → IsExec r → Leads r
  leads_exec r is =
      ⊎_elim
      (λ (stays : label_next ps l r ≡ l). inl stays)
      (λ (s : (q : Request) × Contains execs q × (reply ps l r ≡ reply ps l q) × IsNoLater q r × IsLeftOutAs clean q r).
      inr (s.0, among s.0 (Contains-append_left (execs ++ changes) reloads s.0 (Contains-append_left execs changes s.0 s.1)), s.2, s.3, s.4))
      (of_execs.all r is)

  stayed : (r : Request) → Stays r → Leads r
  stayed r is = inl (stays ps l r is)

  each_of : (r : Request) → Contains ((execs ++ changes) ++ reloads) r → IsAskable r
  each_of r c =
      ⊎_elim
      (λ (front : Contains (execs ++ changes) r).
      ⊎_elim
      (λ (x : Contains execs r). inr (inr (inl (of_execs.each r x))))
      (λ (x : Contains changes r). inr (inr (inr (inr (inr (inl (of_changes.each r x)))))))
      (Contains-append_cases execs changes r front))
      (λ (x : Contains reloads r). inr (inr (inr (inr (inr (inr (of_reloads.each r x)))))))
      (Contains-append_cases (execs ++ changes) reloads r c)

  leads : (r : Request) → IsAskable r → Leads r
  leads r (inl is) = stayed r (file_stays r is)
  leads r (inr (inl is)) = stayed r (link_stays r is)
  leads r (inr (inr (inl is))) = leads_exec r is
  leads r (inr (inr (inr (inl is)))) = stayed r (cap_stays r is)
  leads r (inr (inr (inr (inr (inl is))))) = stayed r (net_stays r is)
  leads r (inr (inr (inr (inr (inr (inl is)))))) =
      leads_by IsChange changes of_changes
      (λ q c. among q (Contains-append_left (execs ++ changes) reloads q (Contains-append_right execs changes q c))) (change_counts clean) r is
  leads r (inr (inr (inr (inr (inr (inr is)))))) =
      leads_by IsReload reloads of_reloads (λ q c. among q (Contains-append_right (execs ++ changes) reloads q c)) (reload_counts clean) r is

  pub lead_all : LeadAll clean ps l rs
  lead_all = record { each = λ r c. each_of r (subst (λ xs. Contains xs r) are c); all = leads }

kept_or : (b c : Bool) (l m : Label) → m ≡ l → cond b (cond c l m) m ≡ l
kept_or true true l m e = refl
kept_or true false l m e = e
kept_or false c l m e = e

stays_so : (g : Going) (l : Label) (r : Request) → label_next g.policies.now l r ≡ l → label_in g l r ≡ l
unfolding label_in
stays_so g l r e = kept_or g.as_enforced (is_by_complain (reply g.policies.now l r)) l (label_next g.policies.now l r) e

moves_so : (g : Going) (l : Label) (r q : Request) → reply g.policies.now l r ≡ reply g.policies.now l q → label_in g l r ≡ label_in g l q
unfolding label_in
moves_so g l r q e = ap (λ (a : Answer). cond g.as_enforced (label_kept l a) a.label) e

-- whether complain mode counts or doesn't
pub lead_by : (clean : Bool) (g : Going) (l : Label) (rs : List Request) → LeadAll clean g.policies.now l rs → LeadAllBy clean g l rs
lead_by clean g l rs lead = record {
  each = lead.each;
  all = λ r asked.
      ⊎_elim
      (λ (stays : label_next g.policies.now l r ≡ l). inl (stays_so g l r stays))
      (λ (found : (q : Request) × Contains rs q × (reply g.policies.now l r ≡ reply g.policies.now l q) × IsNoLater q r × IsLeftOutAs clean q r).
      inr (found.0, found.1, moves_so g l r found.0 found.2, found.3, found.4))
      (lead.all r asked);
}

kept_same : (b c : Bool) (l m : Label) → c ≡ false → cond b (cond c l m) m ≡ m
kept_same true false l m e = refl
kept_same true true l m e = absurd (let f : true ≡ false = e in cc)
kept_same false c l m e = refl

-- a change that is granted leads to the label of its name
pub label_granted : (g : Going) (l : Label) (s : List ℕ) → IsGranted g.policies.now l (Change s)
    → label_in g l (Change s) ≡ found_or l (label_named g.policies.now (policy_number l) s)
unfolding label_in
label_granted g l s is =
    kept_same g.as_enforced (is_by_complain (reply g.policies.now l (Change s))) l (label_next g.policies.now l (Change s)) is.1 ∙ is.0

-- in whatever order they stand
pub lead_permuted : (ps : List Policy) (l : Label) (Kind : Request → Type 0) (xs ys : List Request) → IsPermutation xs ys → LeadAllOf ps l Kind xs
    → LeadAllOf ps l Kind ys
lead_permuted ps l Kind xs ys same lead = record {
  each = λ r c. lead.each r (Contains-permutation ys xs r (IsPermutation-sym xs ys same) c);
  all = λ r kind.
      ⊎_elim
      (λ (stays : label_next ps l r ≡ l). inl stays)
      (λ (s : (q : Request) × Contains xs q × (reply ps l r ≡ reply ps l q) × IsNoLater q r).
      inr (s.0, Contains-permutation xs ys s.0 same s.1, s.2, s.3))
      (lead.all r kind);
}

pub execs_permuted : (clean : Bool) (ps : List Policy) (l : Label) (xs ys : List Request) → IsPermutation xs ys → LeadExecs clean ps l xs → LeadExecs clean ps l ys
execs_permuted clean ps l xs ys same lead = record {
  each = λ r c. lead.each r (Contains-permutation ys xs r (IsPermutation-sym xs ys same) c);
  all = λ r is.
      ⊎_elim
      (λ (stays : label_next ps l r ≡ l). inl stays)
      (λ (s : (q : Request) × Contains xs q × (reply ps l r ≡ reply ps l q) × IsNoLater q r × IsLeftOutAs clean q r).
      inr (s.0, Contains-permutation xs ys s.0 same s.1, s.2, s.3, s.4))
      (lead.all r is);
}
