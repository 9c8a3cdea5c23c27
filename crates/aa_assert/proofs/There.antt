-- A request leads a task to a label that is there.
use Rattle.std.proofs.Common.{◌≡◌, ℕ, zero, suc, ◌<◌, ◌≤◌, List, [], ◌∷◌, ◌++◌, length, map, Bool, true, false, cond, Option, Some, None, refl, sym, ap, subst, ◌∙◌, ⊎_elim, arith}
use Rattle.std.specs.Prelude.{◌==◌, filter, is_some, codes}
use Rattle.std.specs.Option.{option_map, option_map_or}
use Rattle.std.specs.List.{list_any, list_all, slice_get}
use Rattle.std.specs.Str.{bytes_eq}
use Rattle.std.proofs.lemmas.Option.{same_Some, slice_get_cases}
use Rattle.std.proofs.lemmas.List.Quantifiers.{position-Some}
use Rattle.aa_pattern.specs.declared.pattern.Pattern.{Pattern}
use Rattle.aa_pattern.specs.Matching.{is_match}
use Rattle.aa_model.specs.declared.rule.ExecKind.{ExecKind}
use Rattle.aa_model.specs.declared.rule.ExecKind.TheVariants.{Inherit, Unconfined as Leaving, Profile as Named, Child}
use Rattle.aa_model.specs.declared.rule.Fallback.{Fallback}
use Rattle.aa_model.specs.declared.rule.Fallback.TheVariants.{Refuse, Inherit as Stay, Unconfined as Leave}
use Rattle.aa_model.specs.declared.rule.Exec.{Exec}
use Rattle.aa_model.specs.Lawful.{has_exec}
use Rattle.aa_model.specs.declared.policy.Policy.{Policy}
use Rattle.aa_model.specs.declared.policy.Profile.{Profile}
use Rattle.aa_model.specs.declared.label.Label.{Label}
use Rattle.aa_model.specs.declared.label.Label.TheVariants.{Unconfined, Confined}
use Rattle.aa_model.specs.declared.request.Request.{Request}
use Rattle.aa_model.specs.declared.request.Request.TheVariants.{File, Link, Exec as Execute, Cap, Net, Change, Reload}
use Rattle.aa_compile.specs.declared.attach.Attachment.{Attachment}
use Rattle.aa_compile.specs.declared.transition.Transition.{Transition}
use Rattle.aa_compile.specs.declared.transition.Transition.TheVariants.{Denied, Nowhere, To}
use Rattle.aa_compile.specs.Attached.{attached, attachment_of, at_number, attachments_at, attachments_by, common, is_strong, longest, strongest}
use Rattle.aa_compile.specs.FileRules.{file_verdict, chosen, way_of}
use Rattle.aa_compile.specs.Labels.{label_named}
use Rattle.aa_compile.specs.Transitions.{children, tops, named, child_name, found_by, goes, leads, leads_by, transition}
use Rattle.aa_mediate.specs.declared.bits.RequestBits.{RequestBits}
use Rattle.aa_mediate.specs.Bits.{file_bits, exec_bits, plain_bits, change_bits}
use Rattle.aa_mediate.specs.Links.{link_bits}
use Rattle.aa_mediate.specs.Held.{cap_verdict, net_verdict, change_verdict}
use Rattle.aa_mediate.specs.Decided.{answered, blocked, decided, grant_note, refusal_note}
use Rattle.aa_mediate.specs.Reply.{label_by, label_after, scrubs, found_or, confined_in, reply_free, reply_in, reply_at, reply}
use Rattle.aa_skipped.specs.Together.{has_label}

-- of each element it is so
abbrev pub Each : {X : Type 0} → (X → Type 0) → List X → Type 0
Each Is [] = Unit {0}
Each Is (x ∷ xs) = Is x × Each Is xs

each_append : {X : Type 0} (Is : X → Type 0) (xs ys : List X) → Each Is xs → Each Is ys → Each Is (xs ++ ys)
each_append Is [] ys es fs = fs
each_append Is (x ∷ xs) ys es fs = (es.0, each_append Is xs ys es.1 fs)

each_filter : {X : Type 0} (Is : X → Type 0) (f : X → Bool) (xs : List X) → Each Is xs → Each Is (filter f xs)
each_filter Is f [] es = tt
each_filter Is f (x ∷ xs) es = at (f x) (each_filter Is f xs es.1)
  where
    at : (b : Bool) → Each Is (filter f xs) → Each Is (cond b (x ∷ filter f xs) (filter f xs))
    at true more = (es.0, more)
    at false more = more

each_map : {X Y : Type 0} (Is : Y → Type 0) (f : X → Y) (xs : List X) → Each (λ (x : X). Is (f x)) xs → Each Is (map f xs)
each_map Is f [] es = tt
each_map Is f (x ∷ xs) es = (es.0, each_map Is f xs es.1)

-- the number that all are is one of them
one_of : (Is : ℕ → Type 0) (ns : List ℕ) (m : ℕ) → Each Is ns → common ns ≡ Some m → Is m
one_of Is [] m es e = absurd (let f : None ≡ Some m = e in cc)
one_of Is (n ∷ ns) m es e = at (list_all (λ k. k == n) ns) e
  where
    at : (b : Bool) → cond b (Some n) None ≡ Some m → Is m
    at true f = subst Is (same_Some n m f) es.0
    at false f = absurd (let g : None ≡ Some m = f in cc)

-- what is so of each of some numbers is so of that of the profile among them which is attached
module _ (Is : ℕ → Type 0) (profiles : List Profile) where
  patterns_are : (n : ℕ) → Is n → (qs : List Pattern) → Each (λ (h : ℕ × Pattern). Is h.0) (map (at_number n) qs)
  patterns_are n is [] = tt
  patterns_are n is (q ∷ qs) = (is, patterns_are n is qs)

  all_are : (ns : List ℕ) → Each Is ns → Each (λ (h : ℕ × Pattern). Is h.0) (attachments_by profiles ns)
  all_are [] es = tt
  all_are (n ∷ ns) es =
      each_append (λ (h : ℕ × Pattern). Is h.0) (map (at_number n) (attachments_at profiles n)) (attachments_by profiles ns)
      (patterns_are n es.0 (attachments_at profiles n)) (all_are ns es.1)

  pub attached_is : (ns : List ℕ) (path : List ℕ) (m : ℕ) → Each Is ns → attached profiles ns path ≡ Some m → Is m
  attached_is ns path m es e =
      let hs = filter (λ (h : ℕ × Pattern). is_match h.1.items.items path) (attachments_by profiles ns) in
      let found = each_filter (λ (h : ℕ × Pattern). Is h.0) (λ (h : ℕ × Pattern). is_match h.1.items.items path) (attachments_by profiles ns)
      (all_are ns es) in
      let as' = map attachment_of hs in
      let each = each_map (λ (a : Attachment). Is a.profile) attachment_of hs found in
      let strong = each_filter (λ (a : Attachment). Is a.profile) (is_strong (list_any (λ (a : Attachment). a.literal) as') (longest as')) as' each in
      one_of Is (map (λ (a : Attachment). a.profile) (strongest as')) m (each_map Is (λ (a : Attachment). a.profile) (strongest as') strong) e

module _ (profiles : List Profile) where
  -- the profile of that number is there
  abbrev pub IsThere : ℕ → Type 0
  IsThere n = is_some (slice_get profiles n) ≡ true

  below_there : (n : ℕ) → n < length profiles → IsThere n
  below_there n lt =
      ⊎_elim
      (λ (x : (p : Profile) × (n < length profiles) × (slice_get profiles n ≡ Some p) × _). ap is_some x.2)
      (λ (x : (length profiles ≤ n) × (slice_get profiles n ≡ None)). absurd (omega (arith, lt, x.0)))
      (slice_get_cases profiles n).1

  pub named_there : (name : List ℕ) (m : ℕ) → named profiles name ≡ Some m → IsThere m
  named_there name m e = at profiles refl
    where
      at : (ps : List Profile) → profiles ≡ ps → IsThere m
      at [] none = absurd (let f : None ≡ Some m = ap (λ (xs : List Profile). named xs name) (sym none) ∙ e in cc)
      at (p ∷ ps) some = below_there m (position-Some (λ (x : Profile). bytes_eq name x.name) profiles m p e).0

  patterns_there : (n : ℕ) (o : Option Profile) → slice_get profiles n ≡ o
      → Each (λ (h : ℕ × Pattern). IsThere h.0) (map (at_number n) (option_map_or (λ (p : Profile). p.attachments) o []))
  patterns_there n None e = tt
  patterns_there n (Some p) e = each_map (λ (h : ℕ × Pattern). IsThere h.0) (at_number n) p.attachments (all p.attachments)
    where
      all : (qs : List Pattern) → Each (λ (q : Pattern). IsThere n) qs
      all [] = tt
      all (q ∷ qs) = (ap is_some e, all qs)

  all_there : (ns : List ℕ) → Each (λ (h : ℕ × Pattern). IsThere h.0) (attachments_by profiles ns)
  all_there [] = tt
  all_there (n ∷ ns) =
      each_append (λ (h : ℕ × Pattern). IsThere h.0) (map (at_number n) (attachments_at profiles n)) (attachments_by profiles ns)
      (patterns_there n (slice_get profiles n) refl) (all_there ns)

  attached_there : (ns : List ℕ) (path : List ℕ) (m : ℕ) → attached profiles ns path ≡ Some m → IsThere m
  attached_there ns path m e =
      let hs = filter (λ (h : ℕ × Pattern). is_match h.1.items.items path) (attachments_by profiles ns) in
      let found = each_filter (λ (h : ℕ × Pattern). IsThere h.0) (λ (h : ℕ × Pattern). is_match h.1.items.items path) (attachments_by profiles ns)
      (all_there ns) in
      let as' = map attachment_of hs in
      let each = each_map (λ (a : Attachment). IsThere a.profile) attachment_of hs found in
      let strong = each_filter (λ (a : Attachment). IsThere a.profile) (is_strong (list_any (λ (a : Attachment). a.literal) as') (longest as')) as' each in
      one_of IsThere (map (λ (a : Attachment). a.profile) (strongest as')) m (each_map IsThere (λ (a : Attachment). a.profile) (strongest as') strong) e

  -- ---- where an execution leads

  abbrev IsThereIf : Option ℕ → Type 0
  IsThereIf o = (m : ℕ) → o ≡ Some m → IsThere m

  abbrev LeadsThere : Transition → Type 0
  LeadsThere (To next scrub) = IsThereIf next
  LeadsThere _ = Unit {0}

  none_there : IsThereIf None
  none_there m e = absurd (let f : None ≡ Some m = e in cc)

  this_there : (n : ℕ) → IsThere n → IsThereIf (Some n)
  this_there n is m e = subst IsThere (same_Some n m e) is

  unless : (b : Bool) (o : Option ℕ) → IsThereIf o → IsThereIf (cond b None o)
  unless true o is = none_there
  unless false o is = is

  found_there : (n : ℕ) (p : Profile) (path : List ℕ) (kind : ExecKind) (target : Option (List ℕ)) → IsThereIf (found_by profiles n p path kind target)
  found_there n p path Named (Some name) = named_there name
  found_there n p path Named None = attached_there (tops profiles) path
  found_there n p path Child (Some name) =
      unless (is_some p.parent) (named profiles (child_name p.name name)) (named_there (child_name p.name name))
  found_there n p path Child None =
      unless (is_some p.parent) (attached profiles (children profiles n) path) (attached_there (children profiles n) path)
  found_there n p path Inherit target = none_there
  found_there n p path Leaving target = none_there

  goes_there : (fallback : Fallback) (scrub : Bool) (n : ℕ) (o : Option ℕ) → IsThere n → IsThereIf o → LeadsThere (goes fallback scrub n o)
  goes_there fallback scrub n (Some m) is found = found
  goes_there Refuse scrub n None is found = tt
  goes_there Stay scrub n None is found = this_there n is
  goes_there Leave scrub n None is found = none_there

  leads_there_by : (kind : ExecKind) (fallback : Fallback) (scrub : Bool) (n : ℕ) (o : Option ℕ) → IsThere n → IsThereIf o
      → LeadsThere (leads kind fallback scrub n o)
  leads_there_by Inherit fallback scrub n o is found = this_there n is
  leads_there_by Leaving fallback scrub n o is found = none_there
  leads_there_by Named fallback scrub n o is found = goes_there fallback scrub n o is found
  leads_there_by Child fallback scrub n o is found = goes_there fallback scrub n o is found

  transition_there : (n : ℕ) (p : Profile) (path : List ℕ) (owned : Bool) → IsThere n → LeadsThere (transition profiles n p path owned)
  transition_there n p path owned is = at (has_exec (file_verdict p.files path owned).deny) (way_of (chosen p.files path owned))
    where
      way : (o : Option Exec) → LeadsThere (option_map_or (leads_by profiles n p path) o Nowhere)
      way None = tt
      way (Some e) =
          leads_there_by e.kind e.fallback e.scrub n (found_by profiles n p path e.kind e.target) is (found_there n p path e.kind e.target)

      at : (b : Bool) (o : Option Exec) → LeadsThere (cond b Denied (option_map_or (leads_by profiles n p path) o Nowhere))
      at true o = tt
      at false o = way o

  -- ---- labels

  by_there : (k : ℕ) (o : Option ℕ) → IsThereIf o → has_label profiles (label_by k o) ≡ true
  by_there k None is = refl
  by_there k (Some m) is = is m refl

  after_there : (k n : ℕ) (t : Transition) → IsThere n → LeadsThere t → has_label profiles (label_after k n t) ≡ true
  after_there k n (To next scrub) is leads = by_there k next leads
  after_there k n Denied is leads = is
  after_there k n Nowhere is leads = is

  decided_there : (p : Profile) (l next : Label) (scrub : Bool) (bits : RequestBits) → has_label profiles l ≡ true → has_label profiles next ≡ true
      → has_label profiles (decided p l next scrub bits).label ≡ true
  decided_there p l next scrub bits here there = at (blocked p bits == 0)
    where
      at : (b : Bool) → has_label profiles (cond b (answered true scrub next (grant_note p bits)) (answered false false l (refusal_note p bits))).label ≡ true
      at true = there
      at false = here

  -- the label that was found is there, and so is this one
  or_there : (l : Label) (o : Option Label) → has_label profiles l ≡ true → ((m : Label) → o ≡ Some m → has_label profiles m ≡ true)
      → has_label profiles (found_or l o) ≡ true
  or_there l None here is = here
  or_there l (Some m) here is = is m refl

  confined_there : (k : ℕ) (o : Option ℕ) → IsThereIf o → (m : Label) → option_map (Confined k) o ≡ Some m → has_label profiles m ≡ true
  confined_there k None is m e = absurd (let f : None ≡ Some m = e in cc)
  confined_there k (Some n) is m e = subst (λ (x : Label). has_label profiles x ≡ true) (same_Some (Confined k n) m e) (is n refl)

-- so of the one policy that is read
module _ (read : Policy) where
  name_there : (name : List ℕ) (m : Label) → label_named (read ∷ []) 0 name ≡ Some m → has_label read.profiles m ≡ true
  name_there name m e = at (bytes_eq name (codes "unconfined")) e
    where
      at : (b : Bool) → cond b (Some (Unconfined 0)) (option_map (Confined 0) (named read.profiles name)) ≡ Some m → has_label read.profiles m ≡ true
      at true f = subst (λ (x : Label). has_label read.profiles x ≡ true) (same_Some (Unconfined 0) m f) refl
      at false f = confined_there read.profiles 0 (named read.profiles name) (named_there read.profiles name) m f

  reload_there : (name : List ℕ) (k : ℕ) (m : Label) → confined_in (read ∷ []) k name ≡ Some m → has_label read.profiles m ≡ true
  reload_there name zero m e = confined_there read.profiles 0 (named read.profiles name) (named_there read.profiles name) m e
  reload_there name (suc k) m e = absurd (let f : None ≡ Some m = e in cc)

  free_there : (r : Request) → has_label read.profiles (reply_free (read ∷ []) 0 r).label ≡ true
  free_there (File f) = refl
  free_there (Link l) = refl
  free_there (Cap c) = refl
  free_there (Net f s) = refl
  free_there (Execute r) =
      by_there read.profiles 0 (attached read.profiles (tops read.profiles) r.path) (attached_there read.profiles (tops read.profiles) r.path)
  free_there (Change name) = or_there read.profiles (Unconfined 0) (label_named (read ∷ []) 0 name) refl (name_there name)
  free_there (Reload m) = at (slice_get (read ∷ []) m)
    where
      at : (o : Option Policy) → has_label read.profiles (found_or (Unconfined 0) (option_map (λ (p : Policy). Unconfined m) o)) ≡ true
      at None = refl
      at (Some p) = refl

  in_there : (n : ℕ) (p : Profile) (r : Request) → IsThere read.profiles n → has_label read.profiles (reply_in (read ∷ []) 0 read.profiles n p r).label ≡ true
  in_there n p (File r) is = decided_there read.profiles p (Confined 0 n) (Confined 0 n) false (file_bits p.files r) is is
  in_there n p (Link r) is = decided_there read.profiles p (Confined 0 n) (Confined 0 n) false (link_bits p.files r) is is
  in_there n p (Cap c) is = decided_there read.profiles p (Confined 0 n) (Confined 0 n) false (plain_bits 1 (cap_verdict p.caps c)) is is
  in_there n p (Net f s) is = decided_there read.profiles p (Confined 0 n) (Confined 0 n) false (plain_bits 1 (net_verdict p.nets f s)) is is
  in_there n p (Execute r) is =
      let t = transition read.profiles n p r.path r.owned in
      decided_there read.profiles p (Confined 0 n) (label_after 0 n t) (scrubs t) (exec_bits p.files r t) is
      (after_there read.profiles 0 n t is (transition_there read.profiles n p r.path r.owned is))
  in_there n p (Change name) is =
      let found = label_named (read ∷ []) 0 name in
      decided_there read.profiles p (Confined 0 n) (found_or (Confined 0 n) found) false (change_bits (change_verdict p.changes name) (is_some found)) is
      (or_there read.profiles (Confined 0 n) found is (name_there name))
  in_there n p (Reload m) is = or_there read.profiles (Confined 0 n) (confined_in (read ∷ []) m p.name) is (reload_there p.name m)

  at_there : (n : ℕ) (o : Option Profile) (r : Request) → IsThere read.profiles n
      → has_label read.profiles (reply_at (read ∷ []) 0 read.profiles n o r).label ≡ true
  at_there n None r is = is
  at_there n (Some p) r is = in_there n p r is

  pub leads_there : (l : Label) (r : Request) → has_label read.profiles l ≡ true → has_label read.profiles (reply (read ∷ []) l r).label ≡ true
  unfolding reply
  leads_there (Unconfined zero) r is = free_there r
  leads_there (Unconfined (suc k)) r is = refl
  leads_there (Confined zero n) r is = at_there n (slice_get read.profiles n) r is
  leads_there (Confined (suc k) n) r is = is
