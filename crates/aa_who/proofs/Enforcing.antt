-- Where rules are enforced all is answered as by the policies without their complain flags.
use Rattle.std.proofs.Common.{◌≡◌, ◌≤◌, ◌<◌, ℕ, zero, suc, ◌+◌, ◌-◌, List, [], ◌∷◌, ◌++◌, length, map, flat_map, codes}
use Rattle.std.proofs.Common.{Bool, true, false, true≢false, cond, Option, Some, None, refl, sym, ap, subst, ◌∙◌, arith, ⊎_elim}
use Rattle.std.specs.Prelude.{◌==◌, ◌&&◌, not, filter, bit_and, bit_or, is_some, nat_lt, position, option_map}
use Rattle.std.specs.Option.{option_map_or, option_and_then, option_eq}
use Rattle.std.specs.List.{All, IsDistinct, fold, slice_get, position_or_len}
use Rattle.std.specs.Str.{bytes_eq}
use Rattle.std.proofs.lemmas.Bool.{cases_lt, eqb-true, eq-eqb}
use Rattle.std.proofs.lemmas.List.{length-map}
use Rattle.std.proofs.lemmas.List.Elements.{All-map}
use Rattle.std.proofs.lemmas.Nat.{and-not, and_comm, and_assoc, and_le_l, and_le_r, le_or_l}
use Rattle.std.proofs.lemmas.Option.{none-some, same_Some, slice_get-map}
use Rattle.aa_pattern.specs.declared.pattern.Pattern.{Pattern}
use Rattle.aa_pattern.specs.Matching.{is_match}
use Rattle.aa_pattern.specs.Limits.{most_patterns}
use Rattle.aa_model.specs.declared.rule.ExecKind.{ExecKind}
use Rattle.aa_model.specs.declared.rule.ExecKind.TheVariants.{Inherit, Unconfined as Leaving, Profile as Named, Child}
use Rattle.aa_model.specs.declared.rule.Exec.{Exec}
use Rattle.aa_model.specs.Lawful.{has_exec, has_parent, names_of, file_patterns, attachments_with, IsLawfulRule, ParentsComeFirst, IsLawful}
use Rattle.aa_model.specs.declared.rule.FileRule.{FileRule}
use Rattle.aa_model.specs.Requests.{RequestedExec}
use Rattle.aa_base.specs.Permissions.{only_link, only_exec, link_and_exec}
use Rattle.aa_model.specs.declared.policy.Policy.{Policy}
use Rattle.aa_model.specs.declared.policy.Profile.{Profile}
use Rattle.aa_model.specs.declared.label.Label.{Label}
use Rattle.aa_model.specs.declared.label.Label.TheVariants.{Unconfined, Confined}
use Rattle.aa_model.specs.declared.request.Request.{Request}
use Rattle.aa_model.specs.declared.request.Request.TheVariants.{File, Link, Exec as Execute, Cap, Net, Change, Reload}
use Rattle.aa_model.specs.declared.answer.Answer.{Answer}
use Rattle.aa_model.specs.declared.answer.Note.{Note}
use Rattle.aa_model.specs.declared.answer.NoteWord.{NoteWord}
use Rattle.aa_model.specs.declared.answer.NoteWord.TheVariants.{Denied, Allowed, Audit}
use Rattle.aa_compile.specs.declared.sets.RuleSets.{RuleSets}
use Rattle.aa_compile.specs.declared.transition.Transition.{Transition}
use Rattle.aa_compile.specs.declared.transition.Transition.TheVariants as goes
use Rattle.aa_compile.specs.Attached.{attached, attached_by, attachment_of, pattern_of, at_number, attachments_at, attachments_by, numbers_below}
use Rattle.aa_compile.specs.FileRules.{file_verdict, chosen, way_of}
use Rattle.aa_compile.specs.Rows.{patterns_of}
use Rattle.aa_compile.specs.Checks.{attached_patterns}
use Rattle.aa_compile.specs.Labels.{label_in, label_name, label_named, policy_number, profile_in}
use Rattle.aa_compile.specs.Said.{perms_of, minus, granted}
use Rattle.aa_compile.specs.Transitions.{children, tops, named, named_child, child_name, found_by, leads, leads_by, transition}
use Rattle.aa_mediate.specs.declared.bits.RequestBits.{RequestBits}
use Rattle.aa_mediate.specs.Attachments.{attached_in}
use Rattle.aa_mediate.specs.Bits.{sorted, file_bits, exec_bits, plain_bits, change_bits}
use Rattle.aa_mediate.specs.Links.{same_exec, link_missing, link_bits_of, link_bits}
use Rattle.aa_mediate.specs.Held.{cap_verdict, net_verdict, change_verdict}
use Rattle.aa_mediate.specs.Decided.{answered, blocked, decided, note_of, grant_note, refusal_note, unnamed, without_perms}
use Rattle.aa_mediate.specs.Reply.{label_by, label_after, scrubs, found_or, goes_to, confined_in, free_in, reply_free, reply_in, reply_at, reply_by, reply}
use Rattle.aa_ask.specs.Verdicts.{says_allowed, is_by_complain}
use Rattle.aa_quantifiers.specs.Quantities.{is_allowed_anyway, grants}
use Rattle.aa_representatives.specs.Alike.{deciding_at, deciding_by, deciding, filing_at, filing, changing_at, changing_by, changing}
use Rattle.aa_representatives.specs.Names.{profiles_at, told_apart}
use Rattle.aa_who.specs.Enforced.{enforcing, AreEnforcing, ThereAreEnforcing, RulesEnforced}

-- ---- what doesn't look at the flags

abbrev is_named : List ℕ → Profile → Bool
is_named name p = bytes_eq name p.name

longer : (name : List ℕ) (xs : List Profile) → position_or_len (is_named name) (map enforcing xs) ≡ position_or_len (is_named name) xs
longer name [] = refl
longer name (x ∷ xs) = ap (λ (n : ℕ). cond (not (bytes_eq name x.name)) (1 + n) 0) (longer name xs)

named_same : (xs : List Profile) (name : List ℕ) → named (map enforcing xs) name ≡ named xs name
named_same xs name =
    ap (λ (n : ℕ). cond (nat_lt n (length (map enforcing xs))) (Some n) None) (longer name xs)
    ∙ ap (λ (m : ℕ). cond (nat_lt (position_or_len (is_named name) xs) m) (Some (position_or_len (is_named name) xs)) None)
    (length-map xs enforcing)

names_same : (xs : List Profile) → names_of (map enforcing xs) ≡ names_of xs
names_same [] = refl
names_same (x ∷ xs) = ap (λ (ns : List (List ℕ)). x.name ∷ ns) (names_same xs)

numbers_same : (parent : Option ℕ) (k : ℕ) (xs : List Profile) → numbers_below parent k (map enforcing xs) ≡ numbers_below parent k xs
numbers_same parent k [] = refl
numbers_same parent k (x ∷ xs) = ap (λ (ns : List ℕ). cond (has_parent parent x) (k ∷ ns) ns) (numbers_same parent (suc k) xs)

at_same : (xs : List Profile) (n : ℕ) → attachments_at (map enforcing xs) n ≡ attachments_at xs n
at_same xs n = ap (λ (o : Option Profile). option_map_or (λ (p : Profile). p.attachments) o []) (slice_get-map enforcing xs n) ∙ of (slice_get xs n)
  where
    of : (o : Option Profile) → option_map_or (λ (p : Profile). p.attachments) (option_map enforcing o) []
        ≡ option_map_or (λ (p : Profile). p.attachments) o []
    of None = refl
    of (Some p) = refl

by_same : (xs : List Profile) (ns : List ℕ) → attachments_by (map enforcing xs) ns ≡ attachments_by xs ns
by_same xs [] = refl
by_same xs (n ∷ ns) =
    ap (λ (ps : List Pattern). map (at_number n) ps ++ attachments_by (map enforcing xs) ns) (at_same xs n)
    ∙ ap (λ (hs : List (ℕ × Pattern)). map (at_number n) (attachments_at xs n) ++ hs) (by_same xs ns)

attached_same : (xs : List Profile) (ns : List ℕ) (path : List ℕ) → attached (map enforcing xs) ns path ≡ attached xs ns path
attached_same xs ns path =
    ap (λ (hs : List (ℕ × Pattern)). attached_by (map attachment_of (filter (λ (h : ℕ × Pattern). is_match h.1.items.items path) hs))) (by_same xs ns)

tops_same : (xs : List Profile) (path : List ℕ) → attached (map enforcing xs) (tops (map enforcing xs)) path ≡ attached xs (tops xs) path
tops_same xs path = ap (λ (ns : List ℕ). attached (map enforcing xs) ns path) (numbers_same None 0 xs) ∙ attached_same xs (tops xs) path

children_same : (xs : List Profile) (n : ℕ) (path : List ℕ)
    → attached (map enforcing xs) (children (map enforcing xs) n) path ≡ attached xs (children xs n) path
children_same xs n path = ap (λ (ns : List ℕ). attached (map enforcing xs) ns path) (numbers_same (Some n) 0 xs) ∙ attached_same xs (children xs n) path

found_same : (xs : List Profile) (n : ℕ) (p : Profile) (path : List ℕ) (kind : ExecKind) (target : Option (List ℕ))
    → found_by (map enforcing xs) n (enforcing p) path kind target ≡ found_by xs n p path kind target
found_same xs n p path Named (Some name) = named_same xs name
found_same xs n p path Named None = tops_same xs path
found_same xs n p path Child (Some name) = ap (λ (o : Option ℕ). cond (is_some p.parent) None o) (named_same xs (child_name p.name name))
found_same xs n p path Child None = ap (λ (o : Option ℕ). cond (is_some p.parent) None o) (children_same xs n path)
found_same xs n p path Inherit target = refl
found_same xs n p path Leaving target = refl

transition_same : (xs : List Profile) (n : ℕ) (p : Profile) (path : List ℕ) (owned : Bool)
    → transition (map enforcing xs) n (enforcing p) path owned ≡ transition xs n p path owned
transition_same xs n p path owned =
    ap (λ (t : Transition). cond (has_exec (file_verdict p.files path owned).deny) goes.Denied t) (way (way_of (chosen p.files path owned)))
  where
    way : (o : Option Exec) → option_map_or (leads_by (map enforcing xs) n (enforcing p) path) o goes.Nowhere
        ≡ option_map_or (leads_by xs n p path) o goes.Nowhere
    way None = refl
    way (Some e) = ap (leads e.kind e.fallback e.scrub n) (found_same xs n p path e.kind e.target)

abbrev pub profiles_in : Policy → List Profile
profiles_in p = p.profiles

abbrev pub cleared_in : Policy → List Profile
cleared_in p = map enforcing p.profiles

-- policies without complain flags
module _ (ps qs : List Policy) (are : AreEnforcing ps qs) where
  here : (k : ℕ) → option_map profiles_in (slice_get qs k) ≡ option_map cleared_in (slice_get ps k)
  here k = sym (slice_get-map profiles_in qs k) ∙ ap (λ (xs : List (List Profile)). slice_get xs k) are ∙ slice_get-map cleared_in ps k

  -- what is said of a policy by its profiles
  pub by_profiles : {X : Type 0} (f : Option Policy → X) (g : Option (List Profile) → X) → ((o : Option Policy) → f o ≡ g (option_map profiles_in o))
      → ((o : Option Policy) → g (option_map cleared_in o) ≡ f o) → (k : ℕ) → f (slice_get qs k) ≡ f (slice_get ps k)
  by_profiles f g is same k = is (slice_get qs k) ∙ ap g (here k) ∙ same (slice_get ps k)

  label_same : (k : ℕ) (name : List ℕ) → label_named qs k name ≡ label_named ps k name
  label_same k name = by_profiles (option_and_then (label_in k name)) (option_and_then by) is same k
    where
      by : List Profile → Option Label
      by xs = cond (bytes_eq name (codes "unconfined")) (Some (Unconfined k)) (option_map (Confined k) (named xs name))

      is : (o : Option Policy) → option_and_then (label_in k name) o ≡ option_and_then by (option_map profiles_in o)
      is None = refl
      is (Some p) = refl

      same : (o : Option Policy) → option_and_then by (option_map cleared_in o) ≡ option_and_then (label_in k name) o
      same None = refl
      same (Some p) =
          ap (λ (n : Option ℕ). cond (bytes_eq name (codes "unconfined")) (Some (Unconfined k)) (option_map (Confined k) n)) (named_same p.profiles name)

  free_same : (m : ℕ) → free_in qs m ≡ free_in ps m
  free_same m = by_profiles (option_map (λ (p : Policy). Unconfined m)) (option_map (λ (xs : List Profile). Unconfined m)) is same m
    where
      is : (o : Option Policy)
          → option_map (λ (p : Policy). Unconfined m) o ≡ option_map (λ (xs : List Profile). Unconfined m) (option_map profiles_in o)
      is None = refl
      is (Some p) = refl

      same : (o : Option Policy) → option_map (λ (xs : List Profile). Unconfined m) (option_map cleared_in o) ≡ option_map (λ (p : Policy). Unconfined m) o
      same None = refl
      same (Some p) = refl

  confined_same : (m : ℕ) (name : List ℕ) → confined_in qs m name ≡ confined_in ps m name
  confined_same m name = by_profiles (option_and_then (λ (p : Policy). by p.profiles)) (option_and_then by) is same m
    where
      by : List Profile → Option Label
      by xs = option_map (Confined m) (named xs name)

      is : (o : Option Policy) → option_and_then (λ (p : Policy). by p.profiles) o ≡ option_and_then by (option_map profiles_in o)
      is None = refl
      is (Some p) = refl

      same : (o : Option Policy) → option_and_then by (option_map cleared_in o) ≡ option_and_then (λ (p : Policy). by p.profiles) o
      same None = refl
      same (Some p) = ap (option_map (Confined m)) (named_same p.profiles name)

  attached_in_same : (k : ℕ) (path : List ℕ) → attached_in qs k path ≡ attached_in ps k path
  attached_in_same k path = by_profiles (option_and_then (λ (p : Policy). by p.profiles)) (option_and_then by) is same k
    where
      by : List Profile → Option ℕ
      by xs = attached xs (tops xs) path

      is : (o : Option Policy) → option_and_then (λ (p : Policy). by p.profiles) o ≡ option_and_then by (option_map profiles_in o)
      is None = refl
      is (Some p) = refl

      same : (o : Option Policy) → option_and_then by (option_map cleared_in o) ≡ option_and_then (λ (p : Policy). by p.profiles) o
      same None = refl
      same (Some p) = tops_same p.profiles path

-- ---- answers

-- b is the answer a, but that what complain mode alone grants is refused
pub record Enforces (l : Label) (a b : Answer) : Type 0 where
  pub granted : b.granted ≡ cond (is_by_complain a) false a.granted
  pub label : b.label ≡ cond (is_by_complain a) l a.label
  pub scrub : b.scrub ≡ cond (is_by_complain a) false a.scrub
  pub plain : is_by_complain b ≡ false

plainly : (l : Label) (a : Answer) → is_by_complain a ≡ false → Enforces l a a
plainly l a e = record {
  granted = ap (λ (b : Bool). cond b false a.granted) (sym e);
  label = ap (λ (b : Bool). cond b l a.label) (sym e);
  scrub = ap (λ (b : Bool). cond b false a.scrub) (sym e);
  plain = e;
}

abbrev by_note : Option Note → Bool
by_note note = option_map_or (λ (n : Note). says_allowed n.word) note false

denied_note : (x : ℕ) → by_note (note_of Denied x) ≡ false
denied_note x = at (x == 0)
  where
    at : (b : Bool) → by_note (cond b None (Some (record { word = Denied; perms = perms_of x }))) ≡ false
    at true = refl
    at false = refl

audit_note : (x : ℕ) → by_note (note_of Audit x) ≡ false
audit_note x = at (x == 0)
  where
    at : (b : Bool) → by_note (cond b None (Some (record { word = Audit; perms = perms_of x }))) ≡ false
    at true = refl
    at false = refl

allowed_note : (x : ℕ) → (x == 0) ≡ false → by_note (note_of Allowed x) ≡ true
allowed_note x e = ap (λ (b : Bool). by_note (cond b None (Some (record { word = Allowed; perms = perms_of x })))) e

unnamed_note : (o : Option Note) → by_note (unnamed o) ≡ by_note o
unnamed_note None = refl
unnamed_note (Some n) = refl

-- where nothing is missing nothing is denied
abbrev AreDeniedMissing : RequestBits → Type 0
AreDeniedMissing bits = (bits.missing.0 == 0) ≡ true → (bits.denied.0 == 0) ≡ true

module _ (l next : Label) (scrub : Bool) (NA NL RN RM : Option Note) (audit : by_note NA ≡ false)
    (refusal : by_note RN ≡ false) (refusal_too : by_note RM ≡ false) where
  by_parts : (x m : Bool) → (m ≡ true → x ≡ true) → (m ≡ false → by_note NL ≡ true)
      → Enforces l (cond x (answered true scrub next (cond m NA NL)) (answered false false l RN))
      (cond m (answered true scrub next (cond m NA NL)) (answered false false l RM))
  by_parts true true h allows = plainly l (answered true scrub next NA) audit
  by_parts false true h allows = absurd (true≢false (sym (h refl)))
  by_parts true false h allows = record {
    granted = ap (λ (b : Bool). cond b false true) (sym (allows refl));
    label = ap (λ (b : Bool). cond b l next) (sym (allows refl));
    scrub = ap (λ (b : Bool). cond b false scrub) (sym (allows refl));
    plain = refusal_too;
  }
  by_parts false false h allows = record {
    granted = ap (λ (b : Bool). cond b false false) (sym refusal);
    label = ap (λ (b : Bool). cond b l l) (sym refusal);
    scrub = ap (λ (b : Bool). cond b false false) (sym refusal);
    plain = refusal_too;
  }

decided_enforced : (p : Profile) (l next : Label) (scrub : Bool) (bits : RequestBits) → AreDeniedMissing bits
    → Enforces l (decided p l next scrub bits) (decided (enforcing p) l next scrub bits)
decided_enforced p l next scrub bits are =
    by_parts l next scrub (note_of Audit (cond p.audit bits.requested.0 bits.audited.0)) (note_of Allowed bits.missing.0)
    (refusal_note p bits) (refusal_note (enforcing p) bits)
    (audit_note (cond p.audit bits.requested.0 bits.audited.0))
    (denied_note (cond p.audit (blocked p bits) (minus (blocked p bits) bits.quiet.0)))
    (denied_note (cond p.audit bits.missing.0 (minus bits.missing.0 bits.quiet.0)))
    (blocked p bits == 0) (bits.missing.0 == 0) (at p.complain) (allowed_note bits.missing.0)
  where
    at : (c : Bool) → (bits.missing.0 == 0) ≡ true → (cond c bits.denied.0 bits.missing.0 == 0) ≡ true
    at true e = are e
    at false e = e

unnamed_enforced : (l : Label) (a b : Answer) → Enforces l a b → Enforces l (without_perms a) (without_perms b)
unnamed_enforced l a b e = record {
  granted = e.granted ∙ ap (λ (c : Bool). cond c false a.granted) (sym (unnamed_note a.note));
  label = e.label ∙ ap (λ (c : Bool). cond c l a.label) (sym (unnamed_note a.note));
  scrub = e.scrub ∙ ap (λ (c : Bool). cond c false a.scrub) (sym (unnamed_note a.note));
  plain = unnamed_note b.note ∙ e.plain;
}

sorted_missing : (asked missing : ℕ) (v : RuleSets) → AreDeniedMissing (sorted asked missing v)
sorted_missing asked missing v e =
    let none : missing ≡ 0 = eqb-true missing 0 e in
    eq-eqb (bit_and missing v.deny.0) 0 (omega (arith, none, and_le_l missing v.deny.0))

plain_missing : (asked : ℕ) (v : RuleSets) → AreDeniedMissing (plain_bits asked v)
plain_missing asked v = sorted_missing asked (minus asked (granted v)) v

change_missing : (found : Bool) (v : RuleSets) → AreDeniedMissing (change_bits v found)
change_missing found v = sorted_missing 1 (cond found (minus 1 (granted v)) 1) v

exec_missing_too : (files : List FileRule) (r : RequestedExec) (t : Transition) → AreDeniedMissing (exec_bits files r t)
exec_missing_too files r goes.Denied e = absurd (let f : false ≡ true = e in cc)
exec_missing_too files r goes.Nowhere e = refl
exec_missing_too files r (goes.To next scrub) e = refl

-- of numbers joined to nothing the first is nothing
first_none : (a b c : ℕ) → bit_or (bit_or a b) c ≡ 0 → a ≡ 0
first_none a b c e = omega (arith, le_or_l a b, le_or_l (bit_or a b) c, e)

-- the bit of a link that isn't beyond some bits is among them
link_among : (g : ℕ) → g < 256 → bit_and 8 (255 - g) ≡ 0 → bit_and g 8 ≡ 8
link_among g small e = let n = and-not 8 g 8 small (omega arith) in omega (arith, n, and_comm 8 (255 - g), e)

-- where it is among those that aren't denied it isn't denied
link_undenied : (d a : ℕ) → bit_and (bit_and a (255 - d)) 8 ≡ 8 → bit_and 8 d ≡ 0
link_undenied d a e =
    let eight : 8 ≤ bit_and (255 - d) 8 = omega (arith, and_assoc 8 a (255 - d), e, and_le_r a (bit_and (255 - d) 8)) in
    ⊎_elim
    (λ (l : d < 256). let n = and-not 8 d 8 l (omega arith) in omega (arith, n, eight, and_comm 8 d))
    (λ (g : 256 ≤ d). absurd (omega (arith, g, eight, and_le_l (255 - d) 8)))
    (cases_lt d 256)

link_missing_too : (v t : RuleSets) (same : Bool) → AreDeniedMissing (link_bits_of v t same)
link_missing_too v t same e =
    let none : link_missing v t same ≡ 0 = eqb-true (link_missing v t same) 0 e in
    let all : minus only_link (granted v) ≡ 0 =
    first_none (minus only_link (granted v)) (minus (minus (granted v) (granted t)) link_and_exec)
    (cond (has_exec (perms_of (granted v)) && not (has_exec (perms_of (granted t)) && same)) only_exec 0) none in
    eq-eqb (bit_and only_link v.deny.0) 0
    (link_undenied v.deny.0 v.allow.0 (link_among (granted v) (omega (arith, and_le_r v.allow.0 (255 - v.deny.0))) all))

module _ (ps qs : List Policy) (are : AreEnforcing ps qs) where
  going_to : (l : Label) (o : Option Label) → Enforces l (goes_to l o) (goes_to l o)
  going_to l o = plainly l (goes_to l o) refl

  in_enforced : (k n : ℕ) (profiles : List Profile) (p : Profile) (r : Request)
      → Enforces (Confined k n) (reply_in ps k profiles n p r) (reply_in qs k (map enforcing profiles) n (enforcing p) r)
  in_enforced k n profiles p (File r) =
      decided_enforced p (Confined k n) (Confined k n) false (file_bits p.files r) (plain_missing r.mask.0 (file_verdict p.files r.path r.owned))
  in_enforced k n profiles p (Link r) =
      decided_enforced p (Confined k n) (Confined k n) false (link_bits p.files r)
      (link_missing_too (file_verdict p.files r.link r.owned) (file_verdict p.files r.target r.owned)
      (option_eq same_exec (way_of (chosen p.files r.link r.owned)) (way_of (chosen p.files r.target r.owned))))
  in_enforced k n profiles p (Execute r) =
      let t = transition profiles n p r.path r.owned in
      subst
      (λ (u : Transition). Enforces (Confined k n) (decided p (Confined k n) (label_after k n t) (scrubs t) (exec_bits p.files r t))
      (decided (enforcing p) (Confined k n) (label_after k n u) (scrubs u) (exec_bits p.files r u)))
      (sym (transition_same profiles n p r.path r.owned))
      (decided_enforced p (Confined k n) (label_after k n t) (scrubs t) (exec_bits p.files r t) (exec_missing_too p.files r t))
  in_enforced k n profiles p (Cap c) =
      unnamed_enforced (Confined k n) _ _
      (decided_enforced p (Confined k n) (Confined k n) false (plain_bits 1 (cap_verdict p.caps c)) (plain_missing 1 (cap_verdict p.caps c)))
  in_enforced k n profiles p (Net f s) =
      unnamed_enforced (Confined k n) _ _
      (decided_enforced p (Confined k n) (Confined k n) false (plain_bits 1 (net_verdict p.nets f s)) (plain_missing 1 (net_verdict p.nets f s)))
  in_enforced k n profiles p (Change name) =
      let found = label_named ps k name in
      let bits : Option Label → RequestBits = λ o. change_bits (change_verdict p.changes name) (is_some o) in
      subst
      (λ (o : Option Label). Enforces (Confined k n) (without_perms (decided p (Confined k n) (found_or (Confined k n) found) false (bits found)))
      (without_perms (decided (enforcing p) (Confined k n) (found_or (Confined k n) o) false (bits o))))
      (sym (label_same ps qs are k name))
      (unnamed_enforced (Confined k n) _ _
      (decided_enforced p (Confined k n) (found_or (Confined k n) found) false (bits found) (change_missing (is_some found) (change_verdict p.changes name))))
  in_enforced k n profiles p (Reload m) =
      subst (λ (o : Option Label). Enforces (Confined k n) (goes_to (Confined k n) (confined_in ps m p.name)) (goes_to (Confined k n) o))
      (sym (confined_same ps qs are m p.name)) (going_to (Confined k n) (confined_in ps m p.name))

  at_enforced : (k n : ℕ) (profiles : List Profile) (o : Option Profile) (r : Request)
      → Enforces (Confined k n) (reply_at ps k profiles n o r) (reply_at qs k (map enforcing profiles) n (option_map enforcing o) r)
  at_enforced k n profiles None r = going_to (Confined k n) None
  at_enforced k n profiles (Some p) r = in_enforced k n profiles p r

  free_enforced : (k : ℕ) (r : Request) → Enforces (Unconfined k) (reply_free ps k r) (reply_free qs k r)
  free_enforced k (File r) = plainly (Unconfined k) _ refl
  free_enforced k (Link r) = plainly (Unconfined k) _ refl
  free_enforced k (Cap c) = plainly (Unconfined k) _ refl
  free_enforced k (Net f s) = plainly (Unconfined k) _ refl
  free_enforced k (Execute r) =
      subst (λ (o : Option ℕ). Enforces (Unconfined k) (answered true false (label_by k (attached_in ps k r.path)) None)
      (answered true false (label_by k o) None))
      (sym (attached_in_same ps qs are k r.path))
      (plainly (Unconfined k) (answered true false (label_by k (attached_in ps k r.path)) None) refl)
  free_enforced k (Change name) =
      subst (λ (o : Option Label). Enforces (Unconfined k) (goes_to (Unconfined k) (label_named ps k name)) (goes_to (Unconfined k) o))
      (sym (label_same ps qs are k name)) (going_to (Unconfined k) (label_named ps k name))
  free_enforced k (Reload m) =
      subst (λ (o : Option Label). Enforces (Unconfined k) (goes_to (Unconfined k) (free_in ps m)) (goes_to (Unconfined k) o))
      (sym (free_same ps qs are m)) (going_to (Unconfined k) (free_in ps m))

  by_enforced : (l : Label) (o u : Option Policy) (r : Request) → option_map profiles_in u ≡ option_map cleared_in o
      → Enforces l (reply_by ps l o r) (reply_by qs l u r)
  by_enforced (Unconfined k) None None r e = going_to (Unconfined k) None
  by_enforced (Confined k n) None None r e = going_to (Confined k n) None
  by_enforced l None (Some q) r e = absurd (none-some _ (sym e))
  by_enforced l (Some p) None r e = absurd (none-some _ e)
  by_enforced (Unconfined k) (Some p) (Some q) r e = free_enforced k r
  by_enforced (Confined k n) (Some p) (Some q) r e =
      subst (λ (xs : List Profile). Enforces (Confined k n) (reply_at ps k p.profiles n (slice_get p.profiles n) r) (reply_at qs k xs n (slice_get xs n) r))
      (sym (same_Some q.profiles (map enforcing p.profiles) e))
      (subst (λ (o : Option Profile). Enforces (Confined k n) (reply_at ps k p.profiles n (slice_get p.profiles n) r)
      (reply_at qs k (map enforcing p.profiles) n o r))
      (sym (slice_get-map enforcing p.profiles n)) (at_enforced k n p.profiles (slice_get p.profiles n) r))

  pub answers_enforced : (l : Label) (r : Request) → Enforces l (reply ps l r) (reply qs l r)
  unfolding reply
  answers_enforced l r = by_enforced l (slice_get ps (policy_number l)) (slice_get qs (policy_number l)) r (here ps qs are (policy_number l))

-- ---- what the rules allow

allowed_same : (o : Option Note) → option_map_or (λ (n : Note). is_allowed_anyway n.word) o false ≡ by_note o
allowed_same None = refl
allowed_same (Some n) = at n.word
  where
    at : (w : NoteWord) → is_allowed_anyway w ≡ says_allowed w
    at Denied = refl
    at Allowed = refl
    at Audit = refl

grants_by : (a : Answer) → grants a ≡ cond (is_by_complain a) false a.granted
grants_by a = ap (λ (c : Bool). a.granted && not c) (allowed_same a.note) ∙ at (is_by_complain a) a.granted
  where
    at : (c g : Bool) → (g && not c) ≡ cond c false g
    at true true = refl
    at true false = refl
    at false true = refl
    at false false = refl

granted_too : (l : Label) (a b : Answer) → Enforces l a b → grants a ≡ b.granted
granted_too l a b e = grants_by a ∙ sym e.granted

granted_plainly : (l : Label) (a b : Answer) → Enforces l a b → grants b ≡ b.granted
granted_plainly l a b e = grants_by b ∙ ap (λ (c : Bool). cond c false b.granted) e.plain

-- what the rules allow leads where it leads then
moved_too : (l : Label) (a b : Answer) → Enforces l a b → grants a ≡ true → b.label ≡ a.label
moved_too l a b e g = at (is_by_complain a) refl
  where
    at : (c : Bool) → is_by_complain a ≡ c → b.label ≡ a.label
    at true is = absurd (true≢false (sym g ∙ grants_by a ∙ ap (λ (c : Bool). cond c false a.granted) is))
    at false is = e.label ∙ ap (λ (c : Bool). cond c l a.label) is

pub rules_enforced : RulesEnforced
rules_enforced ps qs are l r =
    let e = answers_enforced ps qs are l r in
    (granted_too l (reply ps l r) (reply qs l r) e, granted_plainly l (reply ps l r) (reply qs l r) e)

-- ---- what else is the same

module _ (ps qs : List Policy) (are : AreEnforcing ps qs) where
  pub grants_same : (l : Label) (r : Request) → grants (reply ps l r) ≡ grants (reply qs l r)
  grants_same l r = let e = rules_enforced ps qs are l r in e.0 ∙ sym e.1

  pub label_moved : (l : Label) (r : Request) → grants (reply ps l r) ≡ true → (reply qs l r).label ≡ (reply ps l r).label
  label_moved l r g = moved_too l (reply ps l r) (reply qs l r) (answers_enforced ps qs are l r) g

  -- what is said of a profile, or of none
  pub at_profile : {X : Type 0} (F : Option Profile → X) → ((o : Option Profile) → F (option_map enforcing o) ≡ F o) → (k n : ℕ)
      → F (profile_in qs k n) ≡ F (profile_in ps k n)
  at_profile {X} F h k n =
      by_profiles ps qs are (λ (o : Option Policy). F (option_and_then (λ (p : Policy). slice_get p.profiles n) o))
      (λ (o : Option (List Profile)). F (option_and_then (λ (xs : List Profile). slice_get xs n) o)) is same k
    where
      is : (o : Option Policy) → F (option_and_then (λ (p : Policy). slice_get p.profiles n) o)
          ≡ F (option_and_then (λ (xs : List Profile). slice_get xs n) (option_map profiles_in o))
      is None = refl
      is (Some p) = refl

      same : (o : Option Policy) → F (option_and_then (λ (xs : List Profile). slice_get xs n) (option_map cleared_in o))
          ≡ F (option_and_then (λ (p : Policy). slice_get p.profiles n) o)
      same None = refl
      same (Some p) = ap F (slice_get-map enforcing p.profiles n) ∙ h (slice_get p.profiles n)

  pub name_same : (l : Label) → label_name qs l ≡ label_name ps l
  unfolding label_name
  name_same (Unconfined k) = refl
  name_same (Confined k n) = at_profile (λ (o : Option Profile). option_map_or (λ (p : Profile). p.name) o []) of_name k n
    where
      of_name : (o : Option Profile) → option_map_or (λ (p : Profile). p.name) (option_map enforcing o) [] ≡ option_map_or (λ (p : Profile). p.name) o []
      of_name None = refl
      of_name (Some p) = refl

  pub filing_same : (l : Label) → filing qs l ≡ filing ps l
  filing_same (Unconfined k) = refl
  filing_same (Confined k n) = at_profile filing_at of_files k n
    where
      of_files : (o : Option Profile) → filing_at (option_map enforcing o) ≡ filing_at o
      of_files None = refl
      of_files (Some p) = refl

  tops_too : (xs : List Profile) → attached_patterns (map enforcing xs) (tops (map enforcing xs)) ≡ attached_patterns xs (tops xs)
  tops_too xs =
      ap (λ (ns : List ℕ). attached_patterns (map enforcing xs) ns) (numbers_same None 0 xs) ∙ ap (map pattern_of) (by_same xs (tops xs))

  children_too : (xs : List Profile) (n : ℕ)
      → attached_patterns (map enforcing xs) (children (map enforcing xs) n) ≡ attached_patterns xs (children xs n)
  children_too xs n =
      ap (λ (ns : List ℕ). attached_patterns (map enforcing xs) ns) (numbers_same (Some n) 0 xs) ∙ ap (map pattern_of) (by_same xs (children xs n))

  deciding_at_too : (xs : List Profile) (n : ℕ) → deciding_at (map enforcing xs) n (slice_get (map enforcing xs) n) ≡ deciding_at xs n (slice_get xs n)
  deciding_at_too xs n = ap (deciding_at (map enforcing xs) n) (slice_get-map enforcing xs n) ∙ at (slice_get xs n)
    where
      at : (o : Option Profile) → deciding_at (map enforcing xs) n (option_map enforcing o) ≡ deciding_at xs n o
      at None = refl
      at (Some q) =
          ap (λ (ts : List Pattern). patterns_of q.files ++ ts ++ attached_patterns (map enforcing xs) (children (map enforcing xs) n)) (tops_too xs)
          ∙ ap (λ (cs : List Pattern). patterns_of q.files ++ attached_patterns xs (tops xs) ++ cs) (children_too xs n)

  pub deciding_same : (l : Label) → deciding qs l ≡ deciding ps l
  deciding_same (Unconfined k) = by_profiles ps qs are (deciding_by (Unconfined k)) by is same k
    where
      by : Option (List Profile) → List Pattern
      by None = []
      by (Some xs) = attached_patterns xs (tops xs)

      is : (o : Option Policy) → deciding_by (Unconfined k) o ≡ by (option_map profiles_in o)
      is None = refl
      is (Some p) = refl

      same : (o : Option Policy) → by (option_map cleared_in o) ≡ deciding_by (Unconfined k) o
      same None = refl
      same (Some p) = tops_too p.profiles
  deciding_same (Confined k n) = by_profiles ps qs are (deciding_by (Confined k n)) by is same k
    where
      by : Option (List Profile) → List Pattern
      by None = []
      by (Some xs) = deciding_at xs n (slice_get xs n)

      is : (o : Option Policy) → deciding_by (Confined k n) o ≡ by (option_map profiles_in o)
      is None = refl
      is (Some p) = refl

      same : (o : Option Policy) → by (option_map cleared_in o) ≡ deciding_by (Confined k n) o
      same None = refl
      same (Some p) = deciding_at_too p.profiles n

  pub changing_same : (l : Label) → changing qs l ≡ changing ps l
  changing_same (Unconfined k) = by_profiles ps qs are (changing_by (Unconfined k)) (λ (o : Option (List Profile)). []) is same k
    where
      is : (o : Option Policy) → changing_by (Unconfined k) o ≡ []
      is None = refl
      is (Some p) = refl

      same : (o : Option Policy) → [] ≡ changing_by (Unconfined k) o
      same None = refl
      same (Some p) = refl
  changing_same (Confined k n) = by_profiles ps qs are (changing_by (Confined k n)) by is same k
    where
      by : Option (List Profile) → List Pattern
      by None = []
      by (Some xs) = changing_at (slice_get xs n)

      is : (o : Option Policy) → changing_by (Confined k n) o ≡ by (option_map profiles_in o)
      is None = refl
      is (Some p) = refl

      of_changes : (o : Option Profile) → changing_at (option_map enforcing o) ≡ changing_at o
      of_changes None = refl
      of_changes (Some p) = refl

      same : (o : Option Policy) → by (option_map cleared_in o) ≡ changing_by (Confined k n) o
      same None = refl
      same (Some p) = ap changing_at (slice_get-map enforcing p.profiles n) ∙ of_changes (slice_get p.profiles n)

  pub apart_same : (l : Label) → told_apart (profiles_at qs l) ≡ told_apart (profiles_at ps l)
  apart_same l = by_profiles ps qs are (λ (o : Option Policy). told_apart (option_map_or profiles_in o [])) by is same (policy_number l)
    where
      by : Option (List Profile) → List (List ℕ)
      by o = told_apart (option_map_or (λ (xs : List Profile). xs) o [])

      is : (o : Option Policy) → told_apart (option_map_or profiles_in o []) ≡ by (option_map profiles_in o)
      is None = refl
      is (Some p) = refl

      same : (o : Option Policy) → by (option_map cleared_in o) ≡ told_apart (option_map_or profiles_in o [])
      same None = refl
      same (Some p) = ap (λ (ns : List (List ℕ)). [] ∷ codes "unconfined" ∷ ns) (names_same p.profiles)

-- ---- there are such policies

lawful_too : (xs : List Profile) → IsLawful xs → IsLawful (map enforcing xs)
lawful_too xs h = record {
  limits = record {
    counts = record {
      few = subst (λ (n : ℕ). n ≤ 4096) (sym (length-map xs enforcing)) h.limits.counts.few;
      short_names = All-map (λ (p : Profile). length p.name ≤ 1024) enforcing xs h.limits.counts.short_names;
      few_patterns = All-map (λ (p : Profile). file_patterns p ≤ most_patterns) enforcing xs h.limits.counts.few_patterns;
    };
    few_attachments = λ parent. subst (λ (n : ℕ). n ≤ most_patterns) (sym (sums parent 0 xs)) (h.limits.few_attachments parent);
  };
  distinct = subst (λ (ns : List (List ℕ)). IsDistinct bytes_eq ns) (sym (names_same xs)) h.distinct;
  confined = All-map (λ (p : Profile). bytes_eq p.name (codes "unconfined") ≡ false) enforcing xs h.confined;
  parents = parents;
  rules = All-map (λ (p : Profile). All IsLawfulRule p.files) enforcing xs h.rules;
}
  where
    sums : (parent : Option ℕ) (m : ℕ) (ys : List Profile)
        → fold (λ (a : ℕ) (p : Profile). a + attachments_with parent p) m (map enforcing ys)
        ≡ fold (λ (a : ℕ) (p : Profile). a + attachments_with parent p) m ys
    sums parent m [] = refl
    sums parent m (y ∷ ys) = sums parent (m + attachments_with parent y) ys

    parent_of : (o : Option Profile) → option_and_then (λ (q : Profile). q.parent) (option_map enforcing o) ≡ option_and_then (λ (q : Profile). q.parent) o
    parent_of None = refl
    parent_of (Some q) = refl

    parents : ParentsComeFirst (map enforcing xs)
    parents k n p is below = at (slice_get xs k) refl
      where
        at : (o : Option Profile) → slice_get xs k ≡ o
            → (n < k) × (option_and_then (λ (q : Profile). q.parent) (slice_get (map enforcing xs) n) ≡ None)
        at None e = absurd (none-some p (sym (slice_get-map enforcing xs k ∙ ap (option_map enforcing) e) ∙ is))
        at (Some q) e =
            let same : enforcing q ≡ p = same_Some (enforcing q) p (sym (slice_get-map enforcing xs k ∙ ap (option_map enforcing) e) ∙ is) in
            let first = h.parents k n q e (ap (λ (x : Profile). x.parent) same ∙ below) in (
              first.0,
              ap (option_and_then (λ (x : Profile). x.parent)) (slice_get-map enforcing xs n) ∙ parent_of (slice_get xs n) ∙ first.1,
            )

abbrev cleared : Policy → Policy
cleared p = record { profiles = map enforcing p.profiles; passed_over = p.passed_over; lawful = lawful_too p.profiles p.lawful }

pub there_are_enforcing : ThereAreEnforcing
there_are_enforcing ps = (map cleared ps, same ps)
  where
    same : (xs : List Policy) → AreEnforcing xs (map cleared xs)
    same [] = refl
    same (x ∷ xs) = ap (λ (yss : List (List Profile)). map enforcing x.profiles ∷ yss) (same xs)
