-- Logs with one entry more.
use Rattle.std.proofs.Common.{◌≡◌, ℕ, ◌==◌, nat_lt, Bool, true, false, cond, List, [], ◌∷◌, ◌++◌, length, refl, sym, ap, ◌∙◌, subst, Option, Some, None, slice_get, append_assoc}
use Rattle.std.proofs.lemmas.List.{append-nil}
use Rattle.std.proofs.lemmas.List.Elements.{All-append, All-cons, All-nil}
use Rattle.aa_lane.specs.WorldState.{WorldState, opening, after, after_all, answer_to, answers_to, is_spent, is_full, decided}
use Rattle.aa_lane.specs.Log.{same, events, replied, by, may_make, GoesOn, leaves, Told, IsLog, LogLaws}
use Rattle.aa_lane.specs.declared.cells.Who.{Who}
use Rattle.aa_lane.specs.declared.cells.Who.TheVariants.{ByOwner, ByServer, ByShutter}
use Rattle.aa_lane.specs.declared.cells.Entry.{Entry}
use Rattle.aa_lane.specs.declared.event.Event.{Event}
use Rattle.aa_lane.specs.declared.event.Event.TheVariants.{Send, Take, Finish, Collect, Shut}
use Rattle.aa_lane.specs.declared.event.Reply.{Reply}
use Rattle.aa_lane.proofs.WorldStates.{after_all-snoc, answers_to-snoc}
use Rattle.aa_lane.proofs.Rows.{cond_case}

pub same_eq : (a b : Who) → same a b ≡ true → a ≡ b
same_eq ByOwner ByOwner e = refl
same_eq ByOwner ByServer e = cc
same_eq ByOwner ByShutter e = cc
same_eq ByServer ByOwner e = cc
same_eq ByServer ByServer e = refl
same_eq ByServer ByShutter e = cc
same_eq ByShutter ByOwner e = cc
same_eq ByShutter ByServer e = cc
same_eq ByShutter ByShutter e = refl

same_self : (a : Who) → same a a ≡ true
same_self ByOwner = refl
same_self ByServer = refl
same_self ByShutter = refl

module _ {X : Type 0} where
  cond_swap : (b c : Bool) (p q : X) (l : List X) → cond b (p ∷ cond c (l ++ q ∷ []) l) (cond c (l ++ q ∷ []) l) ≡ cond c (cond b (p ∷ l) l ++ q ∷ []) (cond b (p ∷ l) l)
  cond_swap true true p q l = refl
  cond_swap true false p q l = refl
  cond_swap false true p q l = refl
  cond_swap false false p q l = refl

module _ {M S Q A : Type 0} where
  pub events_snoc : (l : List (Entry M S Q A)) (e : Entry M S Q A) → events (l ++ e ∷ []) ≡ events l ++ e.event ∷ []
  events_snoc [] e = refl
  events_snoc (x ∷ l) e = ap (λ (k : List (Event M S Q A)). x.event ∷ k) (events_snoc l e)

  pub replied_snoc : (l : List (Entry M S Q A)) (e : Entry M S Q A) → replied (l ++ e ∷ []) ≡ replied l ++ e.reply ∷ []
  replied_snoc [] e = refl
  replied_snoc (x ∷ l) e = ap (λ (k : List (Reply M S Q A)). x.reply ∷ k) (replied_snoc l e)

  pub by_snoc : (a : Who) (l : List (Entry M S Q A)) (e : Entry M S Q A) → by a (l ++ e ∷ []) ≡ cond (same a e.who) (by a l ++ (e.event, e.reply) ∷ []) (by a l)
  by_snoc a [] e = refl
  by_snoc a (x ∷ l) e =
      let p : Event M S Q A × Reply M S Q A = (x.event, x.reply) in
      let q : Event M S Q A × Reply M S Q A = (e.event, e.reply) in
      ap (λ (k : List (Event M S Q A × Reply M S Q A)). cond (same a x.who) (p ∷ k) k) (by_snoc a l e) ∙ cond_swap (same a x.who) (same a e.who) p q (by a l)

  by_append : (a : Who) (l k : List (Entry M S Q A)) → by a (l ++ k) ≡ by a l ++ by a k
  by_append a [] k = refl
  by_append a (x ∷ l) k = elim (same a x.who) as (λ b. cond b ((x.event, x.reply) ∷ by a (l ++ k)) (by a (l ++ k)) ≡ cond b ((x.event, x.reply) ∷ by a l) (by a l) ++ by a k) [
    | true ↦ ap (λ (r : List (Event M S Q A × Reply M S Q A)). (x.event, x.reply) ∷ r) (by_append a l k)
    | false ↦ by_append a l k
  ]

  goes_all : (a : Who) (seen log : List (Entry M S Q A)) → GoesOn a seen log → by a log ≡ by a seen
  goes_all a seen log g = ap (by a) g.is ∙ by_append a seen g.more ∙ ap (λ (r : List (Event M S Q A × Reply M S Q A)). by a seen ++ r) g.others ∙ append-nil (by a seen)

  -- an end has seen the log that it left, and what others make is none of its own
  pub goes_itself : (a : Who) (log : List (Entry M S Q A)) → GoesOn a log log
  goes_itself a log = record { more = []; is = sym (append-nil log); others = refl }

  pub goes_further : (a : Who) (seen log : List (Entry M S Q A)) (x : Entry M S Q A) → same a x.who ≡ false → GoesOn a seen log → GoesOn a seen (log ++ x ∷ [])
  goes_further a seen log x e g = record {
    more = g.more ++ x ∷ [];
    is = ap (λ (l : List (Entry M S Q A)). l ++ x ∷ []) g.is ∙ append_assoc seen g.more (x ∷ []);
    others = by_snoc a g.more x ∙ rw e g.others;
  }

module _ {M S Q A : Type 0} (next : M → S → Q → S) (reply : M → S → Q → A) where
  pub leaves_snoc : (m : M) (t : S) (c : ℕ) (l : List (Entry M S Q A)) (e : Entry M S Q A) → leaves next reply m t c (l ++ e ∷ []) ≡ after next reply (leaves next reply m t c l) e.event
  leaves_snoc m t c l e = ap (after_all next reply (opening m t c)) (events_snoc l e) ∙ after_all-snoc next reply (opening m t c) (events l) e.event

  pub told_snoc : (m : M) (t : S) (c : ℕ) (l : List (Entry M S Q A)) (e : Entry M S Q A) → Told next reply m t c l → e.reply ≡ answer_to next reply (leaves next reply m t c l) e.event
      → Told next reply m t c (l ++ e ∷ [])
  told_snoc m t c l e h is =
      replied_snoc l e ∙ ap (λ (rs : List (Reply M S Q A)). rs ++ e.reply ∷ []) h ∙ ap (λ (r : Reply M S Q A). answers_to next reply (opening m t c) (events l) ++ r ∷ []) is
      ∙ sym (answers_to-snoc next reply (opening m t c) (events l) e.event) ∙ ap (answers_to next reply (opening m t c)) (sym (events_snoc l e))

  pub is_log_snoc : (m : M) (t : S) (c : ℕ) (l : List (Entry M S Q A)) (e : Entry M S Q A) → IsLog next reply m t c l → may_make e.who e.event ≡ true → e.reply ≡ answer_to next reply (leaves next reply m t c l) e.event
      → IsLog next reply m t c (l ++ e ∷ [])
  is_log_snoc m t c l e h may is = record {
    told = told_snoc m t c l e h.told is;
    able = All-append (λ (x : Entry M S Q A). may_make x.who x.event ≡ true) l (e ∷ []) h.able
        (All-cons (λ (x : Entry M S Q A). may_make x.who x.event ≡ true) e [] may (All-nil (λ (x : Entry M S Q A). may_make x.who x.event ≡ true)));
  }

  -- machine, opening state and capacity never change
  abbrev pub SameTerms : WorldState M S Q A → WorldState M S Q A → Type 0
  SameTerms w w' = (w'.machine ≡ w.machine) × (w'.start ≡ w.start) × (w'.capacity ≡ w.capacity)

  decided_terms : (w : WorldState M S Q A) (o : Option Q) → SameTerms w (decided next reply w o)
  decided_terms w None = (refl, refl, refl)
  decided_terms w (Some q) = (refl, refl, refl)

  after_terms : (w : WorldState M S Q A) (e : Event M S Q A) → SameTerms w (after next reply w e)
  after_terms w (Send q) =
      let P : WorldState M S Q A → Type 0 = SameTerms w in
      cond_case P (is_spent w) _ _ (λ _. (refl, refl, refl)) (λ _. cond_case P (is_full w) _ _ (λ _. (refl, refl, refl)) (λ _. cond_case P w.shut _ _ (λ _. (refl, refl, refl)) (λ _. (refl, refl, refl))))
  after_terms w Take =
      let P : WorldState M S Q A → Type 0 = SameTerms w in
      cond_case P (nat_lt (length w.answers) w.taken) _ _ (λ _. (refl, refl, refl)) (λ _. cond_case P (nat_lt w.taken (length w.accepted)) _ _ (λ _. (refl, refl, refl)) (λ _. (refl, refl, refl)))
  after_terms w Finish =
      let P : WorldState M S Q A → Type 0 = SameTerms w in
      cond_case P (w.taken == length w.answers) _ _ (λ _. (refl, refl, refl)) (λ _. decided_terms w (slice_get w.accepted (length w.answers)))
  after_terms w Collect =
      let P : WorldState M S Q A → Type 0 = SameTerms w in
      cond_case P (nat_lt w.collected (length w.answers)) _ _ (λ _. (refl, refl, refl)) (λ _. (refl, refl, refl))
  after_terms w Shut = (refl, refl, refl)

  all_terms : (w : WorldState M S Q A) (es : List (Event M S Q A)) → SameTerms w (after_all next reply w es)
  all_terms w [] = (refl, refl, refl)
  all_terms w (e ∷ es) =
      let one = after_terms w e in
      let more = all_terms (after next reply w e) es in
      (more.0 ∙ one.0, more.1 ∙ one.1, more.2 ∙ one.2)

  pub leaves_terms : (m : M) (t : S) (c : ℕ) (l : List (Entry M S Q A)) → SameTerms (opening m t c) (leaves next reply m t c l)
  leaves_terms m t c l = all_terms (opening m t c) (events l)

  pub log_laws : LogLaws next reply
  log_laws = record {
    begins = λ m t c a before now e r h. (
      h.goes_on.more ++ record { who = a; event = e; reply = r } ∷ [],
      h.seen ∙ ap (λ (l : List (Entry M S Q A)). l ++ record { who = a; event = e; reply = r } ∷ []) h.goes_on.is ∙ append_assoc before h.goes_on.more (record { who = a; event = e; reply = r } ∷ []),
    );
    once = λ m t c a before now e r h. ap (by a) h.seen ∙ by_snoc a h.log (record { who = a; event = e; reply = r })
        ∙ ap (λ b. cond b (by a h.log ++ (e, r) ∷ []) (by a h.log)) (same_self a) ∙ ap (λ (l : List (Event M S Q A × Reply M S Q A)). l ++ (e, r) ∷ []) (goes_all a before h.log h.goes_on);
    stays = λ m t c a before now e r h may. subst (IsLog next reply m t c) (sym h.seen) (is_log_snoc m t c h.log (record { who = a; event = e; reply = r }) h.is may h.replies);
    all = goes_all;
  }
