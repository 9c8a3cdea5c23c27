-- What nothing can break holds by each policy whose profiles are called as those that are read.
use Rattle.std.proofs.Common.{◌≡◌, ◌<◌, ℕ, zero, suc, ◌+◌, List, [], ◌∷◌, ◌++◌, length, map, get_or, codes}
use Rattle.std.proofs.Common.{Bool, true, false, true≢false, cond, Option, Some, None, refl, sym, ap, subst, ◌∙◌, arith}
use Rattle.std.specs.Prelude.{◌==◌, ◌&&◌, ◌||◌, not, filter, is_some, nat_lt, option_map}
use Rattle.std.specs.Option.{option_map_or}
use Rattle.std.specs.Bool.{nat_eq}
use Rattle.std.specs.Option.{option_eq}
use Rattle.std.specs.List.{list_any, slice_get, position_or_len}
use Rattle.std.specs.Str.{bytes_eq}
use Rattle.std.proofs.Math.Path.{fun_ext}
use Rattle.std.proofs.lemmas.Bool.{eq-eqb}
use Rattle.std.proofs.lemmas.List.{length-map}
use Rattle.std.proofs.lemmas.List.Quantifiers.{position-Some}
use Rattle.std.proofs.lemmas.Option.{none-some, same_Some, get_or_from_slice_get}
use Rattle.std.proofs.lemmas.Slice.Eq.{bytes_eq-Decides}
use Rattle.aa_pattern.specs.declared.pattern.Pattern.{Pattern}
use Rattle.aa_pattern.specs.Matching.{is_match}
use Rattle.aa_model.specs.Lawful.{has_parent}
use Rattle.aa_model.specs.Requests.{RequestedExec}
use Rattle.aa_model.specs.declared.policy.Policy.{Policy}
use Rattle.aa_model.specs.declared.policy.Profile.{Profile}
use Rattle.aa_model.specs.declared.label.Label.{Label}
use Rattle.aa_model.specs.declared.label.Label.TheVariants.{Unconfined, Confined}
use Rattle.aa_model.specs.declared.request.Request.{Request}
use Rattle.aa_model.specs.declared.request.Request.TheVariants.{File, Link, Exec as Execute, Cap, Net, Change, Reload}
use Rattle.aa_model.specs.declared.answer.Answer.{Answer}
use Rattle.aa_compile.specs.declared.transition.Transition.{Transition}
use Rattle.aa_compile.specs.declared.transition.Transition.TheVariants.{Denied, Nowhere, To}
use Rattle.aa_compile.specs.Attached.{attached, numbers_below}
use Rattle.aa_compile.specs.Labels.{first_profiles, label_named, policy_number}
use Rattle.aa_compile.specs.Transitions.{tops, named, transition}
use Rattle.aa_mediate.specs.declared.bits.RequestBits.{RequestBits}
use Rattle.aa_mediate.specs.Bits.{file_bits, exec_bits, plain_bits, change_bits}
use Rattle.aa_mediate.specs.Links.{link_bits}
use Rattle.aa_mediate.specs.Held.{cap_verdict, net_verdict, change_verdict}
use Rattle.aa_mediate.specs.Decided.{answered, blocked, decided, grant_note, refusal_note, without_perms}
use Rattle.aa_mediate.specs.Reply.{label_by, label_after, scrubs, found_or, goes_to, confined_in, change_reply, reply_free, reply_in, reply_at, reply}
use Rattle.aa_ask.specs.Told.{is_same}
use Rattle.aa_reachability.specs.Moves.{is_by_complain, label_kept}
use Rattle.aa_reachability.specs.Reach.{led_by}
use Rattle.aa_quantifiers.specs.declared.aim.Labels.{Labels}
use Rattle.aa_quantifiers.specs.declared.word.Word.{Word}
use Rattle.aa_quantifiers.specs.declared.word.Word.TheVariants.{Files, Execs, One}
use Rattle.aa_quantifiers.specs.Words.{IsOf}
use Rattle.aa_quantifiers.specs.Quantities.{grants, IsAnswered}
use Rattle.aa_quantifiers.proofs.Growing.{both}
use Rattle.aa_skipped.specs.declared.skipped.Skipped.{Skipped}
use Rattle.aa_claims.specs.declared.words.ClaimWord.{ClaimWord}
use Rattle.aa_claims.specs.declared.fault.Wrong.{Wrong}
use Rattle.aa_claims.specs.declared.fault.Wrong.TheVariants.{NoChange, Elsewhere, Granted, There}
use Rattle.aa_claims.specs.Forms.{names_led}
use Rattle.aa_assert.specs.declared.part.Part.{Part}
use Rattle.aa_assert.specs.declared.asked.Asked.{Asked}
use Rattle.aa_assert.specs.declared.asked.Asked.TheVariants.{Never, Leads, Always, Reaches, Enforced}
use Rattle.aa_assert.specs.Judging.{IsBroken}
use Rattle.aa_assert.specs.Leading.{is_named_in}
use Rattle.aa_assert.specs.Passages.{going}
use Rattle.aa_assert.specs.Scope.{is_among, is_about, is_about_free, is_about_profile, names_free, may_concern}
use Rattle.aa_assert.specs.Holding.{is_led_to, EndsThere, ComesThere, Counted, IsBrokenAt, Holds}
use Rattle.aa_assert.specs.Breaking.{is_there, may_be_there, is_led, may_lead_past, is_top_led, may_execute_there, is_about_another, is_led_from_another}
use Rattle.aa_assert.specs.Breaking.{is_apart_in, may_be_apart, is_refused_free, never_wrong, leads_wrong, always_wrong}
use Rattle.aa_assert.specs.Unbreakable.{called, AreCalledAs, UnbreakableHold}
use Rattle.aa_assert.proofs.Apart.{same_number}
use Rattle.aa_assert.proofs.There.{Each, attached_is, named_there}

-- ---- tests

or_none : (a b : Bool) → (a || b) ≡ false → (a ≡ false) × (b ≡ false)
or_none true b e = absurd (true≢false e)
or_none false b e = (refl, e)

and_none : (a b : Bool) → (a && b) ≡ false → a ≡ true → b ≡ false
and_none true b e is = e
and_none false b e is = absurd (true≢false (sym is))

not_false : (b : Bool) → not b ≡ false → b ≡ true
not_false true e = refl
not_false false e = absurd (true≢false e)

-- what no element of a list is, none of them is
none_is : {X : Type 0} (f : X → Bool) (xs : List X) (n : ℕ) (x : X) → slice_get xs n ≡ Some x → list_any f xs ≡ false → f x ≡ false
none_is f [] n x e none = absurd (none-some x e)
none_is f (y ∷ ys) zero x e none = ap f (sym (same_Some y x e)) ∙ (or_none (f y) (list_any f ys) none).0
none_is f (y ∷ ys) (suc n) x e none = none_is f ys n x e (or_none (f y) (list_any f ys) none).1

-- a fault is told only where the test fails
fails : (b : Bool) (w fault : Wrong) → cond b None (Some w) ≡ Some fault → b ≡ false
fails true w fault e = absurd (none-some fault e)
fails false w fault e = refl

-- ---- profiles that are called alike

any_called : (g : List ℕ × Option ℕ → Bool) (xs : List Profile) → list_any g (map called xs) ≡ list_any (λ (p : Profile). g (called p)) xs
any_called g [] = refl
any_called g (x ∷ xs) = ap (λ (b : Bool). g (called x) || b) (any_called g xs)

long_called : (name : List ℕ) (xs : List Profile)
    → position_or_len (λ (c : List ℕ × Option ℕ). bytes_eq name c.0) (map called xs) ≡ position_or_len (λ (p : Profile). bytes_eq name p.name) xs
long_called name [] = refl
long_called name (x ∷ xs) = ap (λ (n : ℕ). cond (not (bytes_eq name x.name)) (1 + n) 0) (long_called name xs)

module _ (qs ps : List Profile) (same : AreCalledAs qs ps) where
  any_same : (g : List ℕ × Option ℕ → Bool) → list_any (λ (p : Profile). g (called p)) qs ≡ list_any (λ (p : Profile). g (called p)) ps
  any_same g = sym (any_called g qs) ∙ ap (list_any g) same ∙ any_called g ps

  named_same : (name : List ℕ) → named qs name ≡ named ps name
  named_same name =
      ap (λ (n : ℕ). cond (nat_lt n (length qs)) (Some n) None) long
      ∙ ap (λ (m : ℕ). cond (nat_lt (position_or_len (λ (p : Profile). bytes_eq name p.name) ps) m)
      (Some (position_or_len (λ (p : Profile). bytes_eq name p.name) ps)) None) many
    where
      long : position_or_len (λ (p : Profile). bytes_eq name p.name) qs ≡ position_or_len (λ (p : Profile). bytes_eq name p.name) ps
      long =
          sym (long_called name qs) ∙ ap (λ (cs : List (List ℕ × Option ℕ)). position_or_len (λ (c : List ℕ × Option ℕ). bytes_eq name c.0) cs) same
          ∙ long_called name ps

      many : length qs ≡ length ps
      many = sym (length-map qs called) ∙ ap (λ (cs : List (List ℕ × Option ℕ)). length cs) same ∙ length-map ps called

  about_same : (ws : List ClaimWord) → list_any (λ (p : Profile). is_about ws p.name) qs ≡ list_any (λ (p : Profile). is_about ws p.name) ps
  about_same ws = any_same (λ (c : List ℕ × Option ℕ). is_about ws c.0)

  top_same : (ws : List ClaimWord) → list_any (is_top_led ws) qs ≡ list_any (is_top_led ws) ps
  top_same ws = any_same (λ (c : List ℕ × Option ℕ). not (is_some c.1) && is_among false (names_led ws) c.0)

  another_same : (ws : List ClaimWord) → is_about_another ws qs ≡ is_about_another ws ps
  another_same ws = fun_ext (λ name. any_same (λ (c : List ℕ × Option ℕ). is_about ws c.0 && not (bytes_eq c.0 name)))

  apart_same : (ws : List ClaimWord) → is_apart_in ws qs ≡ is_apart_in ws ps
  apart_same ws =
      ap (λ (b : Bool). (names_free (names_led ws) && b) || list_any (is_led_from_another ws qs) qs) (about_same ws)
      ∙ ap (λ (b : Bool). (names_free (names_led ws) && list_any (λ (p : Profile). is_about ws p.name) ps) || b)
      (any_same (λ (c : List ℕ × Option ℕ). is_among false (names_led ws) c.0 && (is_about_free ws || is_about_another ws qs c.0))
      ∙ ap (λ (k : List ℕ → Bool). list_any (λ (p : Profile). is_among false (names_led ws) p.name && (is_about_free ws || k p.name)) ps) (another_same ws))

-- ---- top-level profiles

module _ (ps : List Profile) where
  abbrev IsTop : ℕ → Type 0
  IsTop n = (q : Profile) × (slice_get ps n ≡ Some q) × (is_some q.parent ≡ false)

  no_parent : (o : Option ℕ) → option_eq nat_eq o None ≡ true → is_some o ≡ false
  no_parent None e = refl
  no_parent (Some n) e = absurd (true≢false (sym e))

  tops_from : (k : ℕ) (xs : List Profile) → ((i : ℕ) (q : Profile) → slice_get xs i ≡ Some q → slice_get ps (k + i) ≡ Some q)
      → Each IsTop (numbers_below None k xs)
  tops_from k [] stands = tt
  tops_from k (x ∷ xs) stands =
      at (has_parent None x) refl
      (tops_from (suc k) xs (λ i q e. subst (λ (n : ℕ). slice_get ps n ≡ Some q) (omega arith) (stands (suc i) q e)))
    where
      here : slice_get ps k ≡ Some x
      here = subst (λ (n : ℕ). slice_get ps n ≡ Some x) (omega arith) (stands 0 x refl)

      at : (b : Bool) → has_parent None x ≡ b → Each IsTop (numbers_below None (suc k) xs)
          → Each IsTop (cond b (k ∷ numbers_below None (suc k) xs) (numbers_below None (suc k) xs))
      at true e later = ((x, here, no_parent x.parent e), later)
      at false e later = later

  attached_top : (path : List ℕ) (m : ℕ) → attached ps (tops ps) path ≡ Some m → IsTop m
  attached_top path m e = attached_is IsTop ps (tops ps) path m (tops_from 0 ps (λ i q is. subst (λ (n : ℕ). slice_get ps n ≡ Some q) (omega arith) is)) e

-- ---- one policy

module _ (whole : Policy) where
  abbrev ones : List Policy
  ones = whole ∷ []

  -- a change to a name that no label has is granted nowhere
  free_refused : (name : List ℕ) → label_named ones 0 name ≡ None → grants (reply ones (Unconfined 0) (Change name)) ≡ false
  unfolding reply
  free_refused name none = ap (λ (o : Option Label). grants (goes_to (Unconfined 0) o)) none

  confined_refused : (name : List ℕ) → label_named ones 0 name ≡ None → (n : ℕ) → grants (reply ones (Confined 0 n) (Change name)) ≡ false
  unfolding reply
  confined_refused name none n = at (slice_get whole.profiles n)
    where
      by : (p : Profile) (b : Bool)
          → grants (without_perms (cond b (answered true false (Confined 0 n) (grant_note p (change_bits (change_verdict p.changes name) false)))
          (answered false false (Confined 0 n) (refusal_note p (change_bits (change_verdict p.changes name) false))))) ≡ false
      by p true = refl
      by p false = refl

      at : (o : Option Profile) → grants (reply_at ones 0 whole.profiles n o (Change name)) ≡ false
      at None = refl
      at (Some p) =
          ap (λ (o : Option Label). grants (change_reply 0 n p name o)) none
          ∙ by p (blocked p (change_bits (change_verdict p.changes name) false) == 0)

  -- and one that is granted leads to the label of the name
  free_goes : (name : List ℕ) (m : Label) → label_named ones 0 name ≡ Some m → grants (reply ones (Unconfined 0) (Change name)) ≡ true
      → (reply ones (Unconfined 0) (Change name)).label ≡ m
  unfolding reply
  free_goes name m is granted = ap (λ (o : Option Label). (goes_to (Unconfined 0) o).label) is

  confined_goes : (name : List ℕ) (m : Label) (n : ℕ) → label_named ones 0 name ≡ Some m → grants (reply ones (Confined 0 n) (Change name)) ≡ true
      → (reply ones (Confined 0 n) (Change name)).label ≡ m
  unfolding reply
  confined_goes name m n is granted = at (slice_get whole.profiles n) granted
    where
      by : (p : Profile) (b : Bool)
          → grants (without_perms (cond b (answered true false m (grant_note p (change_bits (change_verdict p.changes name) true)))
          (answered false false (Confined 0 n) (refusal_note p (change_bits (change_verdict p.changes name) true))))) ≡ true
          → (without_perms (cond b (answered true false m (grant_note p (change_bits (change_verdict p.changes name) true)))
          (answered false false (Confined 0 n) (refusal_note p (change_bits (change_verdict p.changes name) true))))).label ≡ m
      by p true g = refl
      by p false g = absurd (true≢false (sym g))

      at : (o : Option Profile) → grants (reply_at ones 0 whole.profiles n o (Change name)) ≡ true
          → (reply_at ones 0 whole.profiles n o (Change name)).label ≡ m
      at None g = absurd (true≢false (sym g))
      at (Some p) g =
          ap (λ (o : Option Label). (change_reply 0 n p name o).label) is
          ∙ by p (blocked p (change_bits (change_verdict p.changes name) true) == 0)
          (sym (ap (λ (o : Option Label). grants (change_reply 0 n p name o)) is) ∙ g)

  -- the label of a name is led to where its name is
  named_led : (ws : List ClaimWord) (name : List ℕ) (m : Label) → label_named ones 0 name ≡ Some m → is_led_to ones ws m ≡ is_led ws name
  named_led ws name m is = at (bytes_eq name (codes "unconfined")) is
    where
      by : (o : Option ℕ) → named whole.profiles name ≡ o → option_map (Confined 0) o ≡ Some m → is_led_to ones ws m ≡ is_among false (names_led ws) name
      by None e f = absurd (none-some m f)
      by (Some n) e f = ap (is_led_to ones ws) (sym (same_Some (Confined 0 n) m f)) ∙ stands (slice_get whole.profiles n) refl
        where
          stands : (o : Option Profile) → slice_get whole.profiles n ≡ o
              → option_map_or (is_named_in (names_led ws)) o false ≡ is_among false (names_led ws) name
          stands None at = absurd (true≢false (sym (named_there whole.profiles name n e) ∙ ap is_some at))
          stands (Some q) at =
              let found = position-Some (λ (p : Profile). bytes_eq name p.name) whole.profiles n q e in
              let called_so : bytes_eq name q.name ≡ true =
              ap (λ (p : Profile). bytes_eq name p.name) (sym (get_or_from_slice_get whole.profiles n q q at)) ∙ found.1 in
              ap (λ (x : List ℕ). is_among false (names_led ws) x) (sym ((bytes_eq-Decides name q.name).0 called_so))

      at : (b : Bool) → cond b (Some (Unconfined 0)) (option_map (Confined 0) (named whole.profiles name)) ≡ Some m
          → is_led_to ones ws m ≡ cond b (names_free (names_led ws)) (is_among false (names_led ws) name)
      at true e = ap (is_led_to ones ws) (sym (same_Some (Unconfined 0) m e))
      at false e = by (named whole.profiles name) refl e

  -- executions without a profile lead to the profile that is attached, or to none
  exec_goes : (x : RequestedExec) → (reply ones (Unconfined 0) (Execute x)).label ≡ label_by 0 (attached whole.profiles (tops whole.profiles) x.path)
  unfolding reply
  exec_goes x = refl

  -- all labels are of that policy
  abbrev IsOurs : Label → Type 0
  IsOurs l = policy_number l ≡ 0

  by_ours : (o : Option ℕ) → IsOurs (label_by 0 o)
  by_ours None = refl
  by_ours (Some n) = refl

  after_ours : (n : ℕ) (t : Transition) → IsOurs (label_after 0 n t)
  after_ours n (To next scrub) = by_ours next
  after_ours n Denied = refl
  after_ours n Nowhere = refl

  decided_ours : (p : Profile) (n : ℕ) (next : Label) (scrub : Bool) (bits : RequestBits) → IsOurs next
      → IsOurs (decided p (Confined 0 n) next scrub bits).label
  decided_ours p n next scrub bits ours = at (blocked p bits == 0)
    where
      at : (b : Bool) → IsOurs (cond b (answered true scrub next (grant_note p bits)) (answered false false (Confined 0 n) (refusal_note p bits))).label
      at true = ours
      at false = refl

  or_ours : (l : Label) (o : Option Label) → IsOurs l → ((m : Label) → o ≡ Some m → IsOurs m) → IsOurs (found_or l o)
  or_ours l None ours is = ours
  or_ours l (Some m) ours is = is m refl

  one_ours : (o : Option ℕ) (m : Label) → option_map (Confined 0) o ≡ Some m → IsOurs m
  one_ours None m e = absurd (none-some m e)
  one_ours (Some n) m e = ap policy_number (sym (same_Some (Confined 0 n) m e))

  name_ours : (name : List ℕ) (m : Label) → label_named ones 0 name ≡ Some m → IsOurs m
  name_ours name m e = at (bytes_eq name (codes "unconfined")) e
    where
      at : (b : Bool) → cond b (Some (Unconfined 0)) (option_map (Confined 0) (named whole.profiles name)) ≡ Some m → IsOurs m
      at true f = ap policy_number (sym (same_Some (Unconfined 0) m f))
      at false f = one_ours (named whole.profiles name) m f

  reload_ours : (name : List ℕ) (k : ℕ) (m : Label) → confined_in ones k name ≡ Some m → IsOurs m
  reload_ours name zero m e = one_ours (named whole.profiles name) m e
  reload_ours name (suc k) m e = absurd (none-some m e)

  free_ours : (r : Request) → IsOurs (reply_free ones 0 r).label
  free_ours (File f) = refl
  free_ours (Link l) = refl
  free_ours (Cap c) = refl
  free_ours (Net f s) = refl
  free_ours (Execute x) = by_ours (attached whole.profiles (tops whole.profiles) x.path)
  free_ours (Change name) = or_ours (Unconfined 0) (label_named ones 0 name) refl (name_ours name)
  free_ours (Reload zero) = refl
  free_ours (Reload (suc m)) = refl

  in_ours : (n : ℕ) (p : Profile) (r : Request) → IsOurs (reply_in ones 0 whole.profiles n p r).label
  in_ours n p (File r) = decided_ours p n (Confined 0 n) false (file_bits p.files r) refl
  in_ours n p (Link r) = decided_ours p n (Confined 0 n) false (link_bits p.files r) refl
  in_ours n p (Cap c) = decided_ours p n (Confined 0 n) false (plain_bits 1 (cap_verdict p.caps c)) refl
  in_ours n p (Net f s) = decided_ours p n (Confined 0 n) false (plain_bits 1 (net_verdict p.nets f s)) refl
  in_ours n p (Execute r) =
      let t = transition whole.profiles n p r.path r.owned in
      decided_ours p n (label_after 0 n t) (scrubs t) (exec_bits p.files r t) (after_ours n t)
  in_ours n p (Change name) =
      let found = label_named ones 0 name in
      decided_ours p n (found_or (Confined 0 n) found) false (change_bits (change_verdict p.changes name) (is_some found))
      (or_ours (Confined 0 n) found refl (name_ours name))
  in_ours n p (Reload m) = or_ours (Confined 0 n) (confined_in ones m p.name) refl (reload_ours p.name m)

  at_ours : (n : ℕ) (o : Option Profile) (r : Request) → IsOurs (reply_at ones 0 whole.profiles n o r).label
  at_ours n None r = refl
  at_ours n (Some p) r = in_ours n p r

  replied_ours : (l : Label) (r : Request) → IsOurs l → IsOurs (reply ones l r).label
  unfolding reply
  replied_ours (Unconfined zero) r ours = free_ours r
  replied_ours (Unconfined (suc k)) r ours = ours
  replied_ours (Confined zero n) r ours = at_ours n (slice_get whole.profiles n) r
  replied_ours (Confined (suc k) n) r ours = ours

  goes_ours : (l : Label) (r : Request) → IsOurs l → IsOurs (going ones l r)
  goes_ours l r ours = at (is_by_complain (reply ones l r))
    where
      at : (b : Bool) → IsOurs (cond b l (reply ones l r).label)
      at true = ours
      at false = replied_ours l r ours

  led_ours : (l : Label) (rs : List Request) → IsOurs l → IsOurs (led_by (going ones) l rs)
  led_ours l [] ours = ours
  led_ours l (r ∷ rs) ours = led_ours (going ones l r) rs (goes_ours l r ours)

-- ---- the claims

module _ (d : Part) (ws : List ClaimWord) (fault : Wrong) (read whole : Policy) (one : d.decided.policies.now ≡ read ∷ [])
    (same : AreCalledAs whole.profiles read.profiles) where
  abbrev alls : List Policy
  alls = whole ∷ []

  profiles_read : first_profiles d.decided.policies.now ≡ read.profiles
  profiles_read = ap first_profiles one

  label_same : (name : List ℕ) → label_named d.decided.policies.now 0 name ≡ label_named alls 0 name
  label_same name =
      ap (λ (ps : List Policy). label_named ps 0 name) one
      ∙ sym (ap (λ (o : Option ℕ). cond (bytes_eq name (codes "unconfined")) (Some (Unconfined 0)) (option_map (Confined 0) o))
      (named_same whole.profiles read.profiles same name))

  nobody : (name : List ℕ) → may_be_there d name ≡ false → label_named alls 0 name ≡ None
  nobody name e =
      at (label_named alls 0 name)
      (ap is_some (sym (label_same name)) ∙ (or_none (is_there d name) _ e).0)
    where
      at : (o : Option Label) → is_some o ≡ false → o ≡ None
      at None f = refl
      at (Some l) f = absurd (true≢false f)

  -- it is about no profile
  no_profile : is_about_profile d ws ≡ false → (n : ℕ) (p : Profile) → slice_get whole.profiles n ≡ Some p → is_about ws p.name ≡ true → ⊥
  no_profile e n p at about =
      let none = about_same whole.profiles read.profiles same ws
      ∙ sym (ap (λ (ps : List Profile). list_any (λ (q : Profile). is_about ws q.name) ps) profiles_read)
      ∙ (or_none (list_any (λ (q : Profile). is_about ws q.name) (first_profiles d.decided.policies.now)) _ e).0 in
      true≢false (sym about ∙ none_is (λ (q : Profile). is_about ws q.name) whole.profiles n p at none)

  -- one request, of which it refused so
  of_one : (q : Request) (Is : Request → Type 0) → (Is q → ⊥) → IsBroken (One q) (Counted true Is) → ⊥
  of_one q Is refused b = refused (subst Is (sym b.1) b.2.1)

  -- ---- that nothing is granted

  never_holds : (w : Word) → never_wrong d w ≡ Some fault → Holds true alls ws (Never w)
  never_holds (Files w) e = absurd (none-some fault e)
  never_holds (Execs w) e = absurd (none-some fault e)
  never_holds (One (File r)) e = absurd (none-some fault e)
  never_holds (One (Link r)) e = absurd (none-some fault e)
  never_holds (One (Execute r)) e = absurd (none-some fault e)
  never_holds (One (Cap c)) e = absurd (none-some fault e)
  never_holds (One (Net f s)) e = absurd (none-some fault e)
  never_holds (One (Reload m)) e = absurd (none-some fault e)
  never_holds (One (Change name)) e =
      let none = nobody name (fails (may_be_there d name) NoChange fault e) in
      record {
        free = λ about. of_one (Change name) (IsAnswered alls (Unconfined 0) true) (λ g. true≢false (sym g ∙ free_refused whole name none));
        each = λ n p at about. of_one (Change name) (IsAnswered alls (Confined 0 n) true) (λ g. true≢false (sym g ∙ confined_refused whole name none n));
      }

  -- ---- that nothing leads there

  -- a change that leads to none of the labels, at a label where it is refused unless the name is there, and leads to that label
  not_there : (name : List ℕ) (l : Label) → is_led ws name ≡ false
      → (label_named alls 0 name ≡ None → grants (reply alls l (Change name)) ≡ false)
      → ((m : Label) → label_named alls 0 name ≡ Some m → grants (reply alls l (Change name)) ≡ true → (reply alls l (Change name)).label ≡ m)
      → EndsThere alls ws l (Change name) → ⊥
  not_there name l unled refused goes h = at (label_named alls 0 name) refl
    where
      at : (o : Option Label) → label_named alls 0 name ≡ o → ⊥
      at None e = true≢false (sym h.0 ∙ refused e)
      at (Some m) e =
          true≢false (sym h.1 ∙ ap (is_led_to alls ws) (goes m e h.0) ∙ named_led whole ws name m e ∙ unled)

  change_holds : (name : List ℕ) (ls : Labels) (b : Bool) → may_be_there d name ≡ b
      → cond (not b) (Some NoChange) (cond (is_led ws name) None (Some Elsewhere)) ≡ Some fault → Holds true alls ws (Leads (One (Change name)) ls)
  change_holds name ls true is e =
      let unled = fails (is_led ws name) Elsewhere fault e in
      record {
        free = λ about. of_one (Change name) (EndsThere alls ws (Unconfined 0))
            (not_there name (Unconfined 0) unled (free_refused whole name) (free_goes whole name));
        each = λ n p at about. of_one (Change name) (EndsThere alls ws (Confined 0 n))
            (not_there name (Confined 0 n) unled (λ none. confined_refused whole name none n) (λ m. confined_goes whole name m n));
      }
  change_holds name ls false is e =
      let none = nobody name is in
      record {
        free = λ about. of_one (Change name) (EndsThere alls ws (Unconfined 0)) (λ h. true≢false (sym h.0 ∙ free_refused whole name none));
        each = λ n p at about. of_one (Change name) (EndsThere alls ws (Confined 0 n)) (λ h. true≢false (sym h.0 ∙ confined_refused whole name none n));
      }

  exec_holds : may_execute_there d ws ≡ false → (x : RequestedExec) → EndsThere alls ws (Unconfined 0) (Execute x) → ⊥
  exec_holds e x h = at (attached whole.profiles (tops whole.profiles) x.path) refl (sym (ap (is_led_to alls ws) (exec_goes whole x)) ∙ h.1)
    where
      behind : (names_free (names_led ws) || (list_any (is_top_led ws) (first_profiles d.decided.policies.now) || may_lead_past d ws)) ≡ false
      behind = (or_none (is_about_profile d ws) _ e).1

      none : list_any (is_top_led ws) whole.profiles ≡ false
      none =
          top_same whole.profiles read.profiles same ws ∙ sym (ap (λ (ps : List Profile). list_any (is_top_led ws) ps) profiles_read)
          ∙ (or_none _ (may_lead_past d ws) (or_none (names_free (names_led ws)) _ behind).1).0

      top : (m : ℕ) → IsTop whole.profiles m → option_map_or (is_named_in (names_led ws)) (slice_get whole.profiles m) false ≡ true → ⊥
      top m t is =
          let led : is_named_in (names_led ws) t.0 ≡ true = sym (ap (λ (o : Option Profile). option_map_or (is_named_in (names_led ws)) o false) t.1) ∙ is in
          true≢false (sym (both (not (is_some t.0.parent)) (is_named_in (names_led ws) t.0) (ap not t.2) led)
          ∙ none_is (is_top_led ws) whole.profiles m t.0 t.1 none)

      at : (o : Option ℕ) → attached whole.profiles (tops whole.profiles) x.path ≡ o → is_led_to alls ws (label_by 0 o) ≡ true → ⊥
      at None f is = true≢false (sym is ∙ (or_none (names_free (names_led ws)) _ behind).0)
      at (Some m) f is = top m (attached_top whole.profiles x.path m f) is

  leads_holds : (w : Word) (ls : Labels) → leads_wrong d ws w ≡ Some fault → Holds true alls ws (Leads w ls)
  leads_holds (Files w) ls e = absurd (none-some fault e)
  leads_holds (One (File r)) ls e = absurd (none-some fault e)
  leads_holds (One (Link r)) ls e = absurd (none-some fault e)
  leads_holds (One (Execute r)) ls e = absurd (none-some fault e)
  leads_holds (One (Cap c)) ls e = absurd (none-some fault e)
  leads_holds (One (Net f s)) ls e = absurd (none-some fault e)
  leads_holds (One (Reload m)) ls e = absurd (none-some fault e)
  leads_holds (One (Change name)) ls e = change_holds name ls (may_be_there d name) refl e
  leads_holds (Execs w) ls e =
      let not_so = fails (may_execute_there d ws) Elsewhere fault e in
      record {
        free = λ about broken. by broken.0 broken.1 broken.2.1;
        each = λ n p at about broken. no_profile (or_none (is_about_profile d ws) _ not_so).0 n p at about;
      }
    where
      by : (r : Request) → IsOf (Execs w) r → EndsThere alls ws (Unconfined 0) r → ⊥
      by (Execute x) is h = exec_holds (fails (may_execute_there d ws) Elsewhere fault e) x h
      by (File r) is h = is
      by (Link r) is h = is
      by (Cap c) is h = is
      by (Net f s) is h = is
      by (Change name) is h = is
      by (Reload m) is h = is

  -- ---- that all is granted

  free_granted : (w : Word) (r : Request) → IsOf w r → is_refused_free d w ≡ false → grants (reply alls (Unconfined 0) r) ≡ true
  unfolding reply
  free_granted w (File f) is e = refl
  free_granted w (Link l) is e = refl
  free_granted w (Execute x) is e = refl
  free_granted w (Cap c) is e = refl
  free_granted w (Net f s) is e = refl
  free_granted (Files v) (Change name) is e = absurd is
  free_granted (Execs v) (Change name) is e = absurd is
  free_granted (One q) (Change name) is e = at (label_named alls 0 name) (ap is_some (sym (label_same name)) ∙ there)
    where
      there : is_there d name ≡ true
      there = not_false (is_there d name) (subst (λ (x : Request). is_refused_free d (One x) ≡ false) is e)

      at : (o : Option Label) → is_some o ≡ true → grants (goes_to (Unconfined 0) o) ≡ true
      at None f = absurd (true≢false (sym f))
      at (Some l) f = refl
  free_granted (Files v) (Reload m) is e = absurd is
  free_granted (Execs v) (Reload m) is e = absurd is
  free_granted (One q) (Reload m) is e = absurd (true≢false (subst (λ (x : Request). is_refused_free d (One x) ≡ false) is e))

  always_holds : (w : Word) → always_wrong d ws w ≡ Some fault → Holds true alls ws (Always w)
  always_holds w e =
      let none = or_none (is_about_profile d ws) (is_refused_free d w) (fails (is_about_profile d ws || is_refused_free d w) Granted fault e) in
      record {
        free = λ about broken. true≢false (sym (free_granted w broken.0 broken.1 none.1) ∙ broken.2.1);
        each = λ n p at about broken. no_profile none.0 n p at about;
      }

  -- ---- that none comes there

  module _ (e : may_be_apart d ws ≡ false) where
    none_apart : is_apart_in ws whole.profiles ≡ false
    none_apart =
        apart_same whole.profiles read.profiles same ws ∙ sym (ap (is_apart_in ws) profiles_read)
        ∙ (or_none (is_apart_in ws (first_profiles d.decided.policies.now)) _ e).0

    none_free : (names_free (names_led ws) && list_any (λ (p : Profile). is_about ws p.name) whole.profiles) ≡ false
    none_free = (or_none _ (list_any (is_led_from_another ws whole.profiles) whole.profiles) none_apart).0

    none_led : (j : ℕ) (q : Profile) → slice_get whole.profiles j ≡ Some q → is_named_in (names_led ws) q ≡ true
        → (is_about_free ws || is_about_another ws whole.profiles q.name) ≡ false
    none_led j q at led =
        and_none (is_named_in (names_led ws) q) _
        (none_is (is_led_from_another ws whole.profiles) whole.profiles j q at
        (or_none (names_free (names_led ws) && list_any (λ (p : Profile). is_about ws p.name) whole.profiles) _ none_apart).1) led

    from_free : is_about_free ws ≡ true → (m : Label) → policy_number m ≡ 0 → is_same (Unconfined 0) m ≡ false → is_led_to alls ws m ≡ true → ⊥
    from_free about (Unconfined k) ours leaves arrives = true≢false (sym (eq-eqb 0 k (sym ours)) ∙ leaves)
    from_free about (Confined k j) ours leaves arrives = at (slice_get whole.profiles j) refl arrives
      where
        at : (o : Option Profile) → slice_get whole.profiles j ≡ o → option_map_or (is_named_in (names_led ws)) o false ≡ true → ⊥
        at None f is = true≢false (sym is)
        at (Some q) f is = true≢false (sym about ∙ (or_none (is_about_free ws) _ (none_led j q f is)).0)

    from_profile : (n : ℕ) (p : Profile) → slice_get whole.profiles n ≡ Some p → is_about ws p.name ≡ true → (m : Label) → policy_number m ≡ 0
        → is_same (Confined 0 n) m ≡ false → is_led_to alls ws m ≡ true → ⊥
    from_profile n p stands about (Unconfined k) ours leaves arrives =
        let none = and_none (names_free (names_led ws)) _ none_free arrives in
        true≢false (sym about ∙ none_is (λ (q : Profile). is_about ws q.name) whole.profiles n p stands none)
    from_profile n p stands about (Confined k j) ours leaves arrives = at (slice_get whole.profiles j) refl arrives
      where
        at : (o : Option Profile) → slice_get whole.profiles j ≡ o → option_map_or (is_named_in (names_led ws)) o false ≡ true → ⊥
        at None f is = true≢false (sym is)
        at (Some q) f is =
            let other = (or_none (is_about_free ws) (is_about_another ws whole.profiles q.name) (none_led j q f is)).1 in
            let test = none_is (λ (x : Profile). is_about ws x.name && not (bytes_eq x.name q.name)) whole.profiles n p stands other in
            let called_so : bytes_eq p.name q.name ≡ true = not_false (bytes_eq p.name q.name) (and_none (is_about ws p.name) _ test about) in
            let number = same_number whole.profiles whole.lawful.distinct n j p q stands f ((bytes_eq-Decides p.name q.name).0 called_so) in
            true≢false (sym (both (0 == k) (n == j) (eq-eqb 0 k (sym ours)) (eq-eqb n j number)) ∙ leaves)

    reach_holds : (ls : Labels) → Holds true alls ws (Reaches ls)
    reach_holds ls = record {
      free = λ about broken.
          from_free about (led_by (going alls) (Unconfined 0) broken.0) (led_ours whole (Unconfined 0) broken.0 refl)
          broken.2.leaves broken.2.arrives;
      each = λ n p at about broken.
          from_profile n p at about (led_by (going alls) (Confined 0 n) broken.0) (led_ours whole (Confined 0 n) broken.0 refl)
          broken.2.leaves broken.2.arrives;
    }

pub unbreakable_hold : UnbreakableHold
unbreakable_hold d ws (Never w) fault e read whole one same = never_holds d ws fault read whole one same w e
unbreakable_hold d ws (Leads w ls) fault e read whole one same = leads_holds d ws fault read whole one same w ls e
unbreakable_hold d ws (Always w) fault e read whole one same = always_holds d ws fault read whole one same w e
unbreakable_hold d ws (Reaches ls) fault e read whole one same = reach_holds d ws fault read whole one same (fails (may_be_apart d ws) There fault e) ls
unbreakable_hold d ws Enforced fault e read whole one same = absurd (none-some fault e)
