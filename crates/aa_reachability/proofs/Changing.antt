-- Changes to the names that rules name one by one, and to all names.
use Rattle.std.proofs.Common.{◌≡◌, ◌≢◌, ◌⊎◌, ℕ, ◌<◌, ◌-◌, Bool, true, false, cond, List, [], ◌∷◌, length, get_or, Option, Some, None, Contains, inl, inr}
use Rattle.std.proofs.Common.{refl, sym, ap, ◌∙◌, subst, ⊎_elim, arith}
use Rattle.std.specs.Prelude.{◌==◌, codes, filter, map, not, bit_and, bit_or, is_some, option_map, position}
use Rattle.std.specs.List.{slice_get}
use Rattle.std.specs.Option.{option_map_or, option_and_then}
use Rattle.std.specs.Str.{bytes_eq}
use Rattle.std.proofs.lemmas.Nat.{and_le_l}
use Rattle.std.proofs.lemmas.List.{get_or_default}
use Rattle.std.proofs.lemmas.List.Quantifiers.{position-Some}
use Rattle.std.proofs.lemmas.Slice.Eq.{bytes_eq-Decides}
use Rattle.aa_base.specs.Permissions.{every_bit}
use Rattle.aa_model.specs.declared.rule.ChangeRule.{ChangeRule}
use Rattle.aa_model.specs.declared.policy.Policy.{Policy}
use Rattle.aa_model.specs.declared.policy.Profile.{Profile}
use Rattle.aa_model.specs.declared.label.Label.{Label}
use Rattle.aa_model.specs.declared.label.Label.TheVariants.{Unconfined, Confined}
use Rattle.aa_model.specs.declared.request.Request.{Request}
use Rattle.aa_model.specs.declared.request.Request.TheVariants.{File, Link, Exec, Cap, Net, Change, Reload}
use Rattle.aa_model.specs.declared.answer.Answer.{Answer}
use Rattle.aa_compile.specs.declared.sets.RuleSets.{RuleSets}
use Rattle.aa_compile.specs.Holding.{change_holds}
use Rattle.aa_compile.specs.Labels.{profile_in, label_in, label_named}
use Rattle.aa_compile.specs.Said.{Saying, bits_if, minus, granted, verdict}
use Rattle.aa_compile.specs.Transitions.{named}
use Rattle.aa_mediate.specs.Bits.{change_bits}
use Rattle.aa_mediate.specs.Decided.{blocked}
use Rattle.aa_mediate.specs.Held.{saying, change_verdict}
use Rattle.aa_mediate.specs.Reply.{found_or, change_reply, reply_at, reply_by, reply}
use Rattle.aa_representatives.specs.Askable.{IsChange}
use Rattle.aa_representatives.specs.Representatives.{HasChange}
use Rattle.aa_reachability.specs.Order.{IsNoLater}
use Rattle.aa_reachability.specs.Moves.{label_next, LeadAllOf}
use Rattle.aa_reachability.specs.Single.{HasChangesOfRule, HasNames}
use Rattle.aa_reachability.proofs.Counting.{in_policy}
use Rattle.aa_reachability.proofs.Elements.{head_in, tail_in}
use Rattle.aa_reachability.proofs.Keeping.{label_of_either}
use Rattle.aa_reachability.proofs.Ordering.{no_later_same}

placed : {X : Type 0} (f : X → Bool) (xs : List X) (i : ℕ) → position f xs ≡ Some i → (x : X) × Contains xs x × (f x ≡ true)
placed f [] i e = absurd (let g : None ≡ Some i = e in cc)
placed f (d ∷ xs) i e =
    let t = position-Some f (d ∷ xs) i d e in
    (get_or (d ∷ xs) i d, (i, t.0, get_or_default (d ∷ xs) i (get_or (d ∷ xs) i d) d t.0), t.1)

-- a name is that of a label of the policy, or none
module _ (rs : List Request) (k : ℕ) (s : List ℕ) where
  abbrev IsNone : Option Policy → Type 0
  IsNone o = option_and_then (label_in k s) o ≡ None

  by_name : (profiles : List Profile) → HasNames profiles rs → (o : Option ℕ) → named profiles s ≡ o → (option_map (Confined k) o ≡ None) ⊎ HasChange s rs
  by_name profiles has None e = inl refl
  by_name profiles has (Some m) e =
      let at = placed (λ (p : Profile). bytes_eq s p.name) profiles m e in
      inr (subst (λ (x : List ℕ). HasChange x rs) (sym ((bytes_eq-Decides s at.0.name).0 at.2)) (has.names at.0 at.1))

  by_label : (profiles : List Profile) → HasNames profiles rs → (b : Bool) → bytes_eq s (codes "unconfined") ≡ b
      → (cond b (Some (Unconfined k)) (option_map (Confined k) (named profiles s)) ≡ None) ⊎ HasChange s rs
  by_label profiles has true e = inr (subst (λ (x : List ℕ). HasChange x rs) (sym ((bytes_eq-Decides s (codes "unconfined")).0 e)) has.free)
  by_label profiles has false e = by_name profiles has (named profiles s) refl

  pub some_name : (o : Option Policy) → HasNames (option_map_or (λ (p : Policy). p.profiles) o []) rs → IsNone o ⊎ HasChange s rs
  some_name None has = inl refl
  some_name (Some policy) has = by_label policy.profiles has (bytes_eq s (codes "unconfined")) refl

-- an allowing rule holds for the name, or none does
pub record Names (rules : List ChangeRule) (s : List ℕ) : Type 0 where
  pub rule : ChangeRule
  pub within : Contains rules rule
  pub allows : rule.deny ≡ false
  pub holds : change_holds s rule ≡ true

abbrev pub sayings : List ChangeRule → List Saying
sayings rules = map (λ (r : ChangeRule). saying r.audit r.deny) rules

allowing : (rules : List ChangeRule) (s : List ℕ) → ((change_verdict rules s).allow.0 ≡ 0) ⊎ Names rules s
allowing [] s = inl refl
allowing (r ∷ rules) s = at (change_holds s r) refl r.deny refl (allowing rules s)
  where
    later : Names rules s → Names (r ∷ rules) s
    later x = record { rule = x.rule; within = tail_in r x.rule rules x.within; allows = x.allows; holds = x.holds }

    at : (b : Bool) → change_holds s r ≡ b → (d : Bool) → r.deny ≡ d → ((verdict (sayings (filter (change_holds s) rules))).allow.0 ≡ 0) ⊎ Names rules s
        → ((verdict (sayings (cond b (r ∷ filter (change_holds s) rules) (filter (change_holds s) rules)))).allow.0 ≡ 0) ⊎ Names (r ∷ rules) s
    at false e d f found = ⊎_elim (λ (none : (verdict (sayings (filter (change_holds s) rules))).allow.0 ≡ 0). inl none) (λ (x : Names rules s). inr (later x)) found
    at true e false f found = inr (record { rule = r; within = head_in r rules; allows = f; holds = e })
    at true e true f found =
        ⊎_elim
        (λ (none : (verdict (sayings (filter (change_holds s) rules))).allow.0 ≡ 0).
        inl (ap (λ (x : Bool). bit_or (bits_if (not x) 1).0 (verdict (sayings (filter (change_holds s) rules))).allow.0) f ∙ ap (λ (m : ℕ). bit_or 0 m) none))
        (λ (x : Names rules s). inr (later x))
        found

-- where nothing is allowed the bit is missing
missing : (v : RuleSets) (found : Bool) → v.allow.0 ≡ 0 → cond found (minus 1 (granted v)) 1 ≡ 1
missing v false e = refl
missing v true e =
    let none : granted v ≡ 0 =
    (let le = and_le_l v.allow.0 (every_bit - v.deny.0) in omega (arith, le, e)) in
    ap (λ (m : ℕ). minus 1 m) none

label_where : (b : Bool) (x y : Answer) (l : Label) → b ≡ false → y.label ≡ l → (cond b x y).label ≡ l
label_where false x y l e f = f
label_where true x y l e f = absurd (let g : true ≡ false = e in cc)

module _ (ps : List Policy) (k n : ℕ) (p : Profile) (at : profile_in ps k n ≡ Some p) where
  abbrev found : List ℕ → Option Label
  found s = label_named ps k s

  pub change_label : (s : List ℕ) → label_next ps (Confined k n) (Change s) ≡ (change_reply k n p s (found s)).label
  unfolding reply
  change_label s =
      let there = in_policy (slice_get ps k) n p at in
      ap (λ (o : Option Policy). (reply_by ps (Confined k n) o (Change s)).label) there.1
      ∙ ap (λ (o : Option Profile). (reply_at ps k there.0.profiles n o (Change s)).label) there.2

  lost : (s : List ℕ) (o : Option Label) → o ≡ None → (change_reply k n p s o).label ≡ Confined k n
  lost s None e = label_of_either (blocked p (change_bits (change_verdict p.changes s) false) == 0) _ _ (Confined k n) refl refl
  lost s (Some l) e = absurd (let g : Some l ≡ None = e in cc)

  refused : (s : List ℕ) (o : Option Label) → p.complain ≡ false → (change_verdict p.changes s).allow.0 ≡ 0 → (change_reply k n p s o).label ≡ Confined k n
  refused s o enforced none =
      let bits = change_bits (change_verdict p.changes s) (is_some o) in
      let one : blocked p bits ≡ 1 = ap (λ (b : Bool). cond b bits.denied.0 bits.missing.0) enforced ∙ missing (change_verdict p.changes s) (is_some o) none in
      label_where (blocked p bits == 0) _ _ (Confined k n) (ap (λ (m : ℕ). m == 0) one) refl

  module _ (rs : List Request) (each : (r : Request) → Contains rs r → IsChange r) where
    abbrev Leads : Request → Type 0
    Leads r =
        (label_next ps (Confined k n) r ≡ Confined k n)
        ⊎ ((q : Request) × Contains rs q × (reply ps (Confined k n) r ≡ reply ps (Confined k n) q) × IsNoLater q r)

    module _ (enforced : p.complain ≡ false) (has : (r : ChangeRule) → Contains p.changes r → HasChangesOfRule rs r) where
      leads_by_rules : (r : Request) → IsChange r → Leads r
      leads_by_rules (Change s) asked =
          ⊎_elim
          (λ (none : (change_verdict p.changes s).allow.0 ≡ 0). inl (change_label s ∙ refused s (found s) enforced none))
          (λ (x : Names p.changes s). inr (Change s, has x.rule x.within x.allows s x.holds asked.1, refl, no_later_same (Change s)))
          (allowing p.changes s)
      leads_by_rules (File r) asked = absurd asked
      leads_by_rules (Link r) asked = absurd asked
      leads_by_rules (Exec r) asked = absurd asked
      leads_by_rules (Cap c) asked = absurd asked
      leads_by_rules (Net f s) asked = absurd asked
      leads_by_rules (Reload m) asked = absurd asked

      pub few_lead : LeadAllOf ps (Confined k n) IsChange rs
      few_lead = record { each = each; all = leads_by_rules }

    module _ (has : HasNames (option_map_or (λ (q : Policy). q.profiles) (slice_get ps k) []) rs) where
      leads_by_names : (r : Request) → IsChange r → Leads r
      leads_by_names (Change s) asked =
          ⊎_elim
          (λ (none : found s ≡ None). inl (change_label s ∙ lost s (found s) none))
          (λ (x : HasChange s rs). inr (Change s, x asked.1, refl, no_later_same (Change s)))
          (some_name rs k s (slice_get ps k) has)
      leads_by_names (File r) asked = absurd asked
      leads_by_names (Link r) asked = absurd asked
      leads_by_names (Exec r) asked = absurd asked
      leads_by_names (Cap c) asked = absurd asked
      leads_by_names (Net f s) asked = absurd asked
      leads_by_names (Reload m) asked = absurd asked

      pub names_lead : LeadAllOf ps (Confined k n) IsChange rs
      names_lead = record { each = each; all = leads_by_names }

-- without a profile
module _ (ps : List Policy) (k : ℕ) (rs : List Request) (each : (r : Request) → Contains rs r → IsChange r)
    (has : HasNames (option_map_or (λ (q : Policy). q.profiles) (slice_get ps k) []) rs) where
  free_lost : (o : Option Policy) (s : List ℕ) → label_named ps k s ≡ None → (reply_by ps (Unconfined k) o (Change s)).label ≡ Unconfined k
  free_lost None s e = refl
  free_lost (Some policy) s e = ap (λ (x : Option Label). found_or (Unconfined k) x) e

  free_stays : (s : List ℕ) → label_named ps k s ≡ None → label_next ps (Unconfined k) (Change s) ≡ Unconfined k
  unfolding reply
  free_stays s e = free_lost (slice_get ps k) s e

  free_leads : (r : Request) → IsChange r
      → (label_next ps (Unconfined k) r ≡ Unconfined k)
      ⊎ ((q : Request) × Contains rs q × (reply ps (Unconfined k) r ≡ reply ps (Unconfined k) q) × IsNoLater q r)
  free_leads (Change s) asked =
      ⊎_elim
      (λ (none : label_named ps k s ≡ None). inl (free_stays s none))
      (λ (x : HasChange s rs). inr (Change s, x asked.1, refl, no_later_same (Change s)))
      (some_name rs k s (slice_get ps k) has)
  free_leads (File r) asked = absurd asked
  free_leads (Link r) asked = absurd asked
  free_leads (Exec r) asked = absurd asked
  free_leads (Cap c) asked = absurd asked
  free_leads (Net f s) asked = absurd asked
  free_leads (Reload m) asked = absurd asked

  pub free_lead : LeadAllOf ps (Unconfined k) IsChange rs
  free_lead = record { each = each; all = free_leads }

-- in a profile that isn't there nothing moves a task
absent : (o : Option Policy) (ps : List Policy) (k n : ℕ) (r : Request) → option_and_then (λ (q : Policy). slice_get q.profiles n) o ≡ None
    → (reply_by ps (Confined k n) o r).label ≡ Confined k n
absent None ps k n r e = refl
absent (Some policy) ps k n r e = ap (λ (o : Option Profile). (reply_at ps k policy.profiles n o r).label) e

absent_stays : (ps : List Policy) (k n : ℕ) (r : Request) → profile_in ps k n ≡ None → label_next ps (Confined k n) r ≡ Confined k n
unfolding reply
absent_stays ps k n r e = absent (slice_get ps k) ps k n r e

pub none_lead : (ps : List Policy) (k n : ℕ) (rs : List Request) → profile_in ps k n ≡ None → rs ≡ [] → LeadAllOf ps (Confined k n) IsChange rs
none_lead ps k n rs e none = record {
  each = λ r c. absurd (let d = subst (λ (xs : List Request). Contains xs r) none c in omega (arith, d.1));
  all = λ r kind. inl (absent_stays ps k n r e);
}
