-- Policies whose profiles say the same answer the same.
use Rattle.std.proofs.Common.{◌≡◌, ◌⊎◌, ℕ, zero, suc, ◌<◌, ◌+◌, List, [], ◌∷◌, ◌++◌, map, length, Bool, true, false, not, cond, Option, Some, None, option_map, refl, sym, ap, ◌∙◌, arith, ⊎_elim, All}
use Rattle.std.specs.Prelude.{◌==◌, ◌&&◌, codes, is_some, filter, bit_and, bit_or, nat_lt}
use Rattle.std.specs.Bool.{nat_eq}
use Rattle.std.specs.List.{AllZip, slice_get, list_any, position_or_len}
use Rattle.std.specs.Option.{option_eq, option_map_or}
use Rattle.std.specs.Str.{bytes_eq}
use Rattle.std.proofs.lemmas.Bool.{eqb-true}
use Rattle.std.proofs.lemmas.List.Elements.{All-head, All-tail}
use Rattle.aa_pattern.specs.declared.pattern.Pattern.{Pattern}
use Rattle.aa_pattern.specs.Matching.{is_match}
use Rattle.aa_model.specs.declared.rule.Exec.{Exec}
use Rattle.aa_model.specs.declared.rule.ExecKind.{ExecKind}
use Rattle.aa_model.specs.declared.rule.ExecKind.TheVariants.{Inherit, Unconfined as Leaves, Profile as Named, Child}
use Rattle.aa_model.specs.declared.rule.FileRule.{FileRule}
use Rattle.aa_model.specs.declared.policy.Policy.{Policy}
use Rattle.aa_model.specs.declared.policy.Profile.{Profile}
use Rattle.aa_model.specs.Lawful.{has_exec}
use Rattle.aa_model.specs.Requests.{RequestedFile, RequestedLink, RequestedExec}
use Rattle.aa_model.specs.declared.label.Label.{Label}
use Rattle.aa_model.specs.declared.label.Label.TheVariants.{Unconfined, Confined}
use Rattle.aa_model.specs.declared.request.Request.{Request}
use Rattle.aa_model.specs.declared.request.Request.TheVariants.{File, Link, Exec as Execution, Cap, Net, Change, Reload}
use Rattle.aa_model.specs.declared.answer.Answer.{Answer}
use Rattle.aa_model.specs.declared.answer.NoteWord.TheVariants.{Denied as IsDenied, Allowed, Audit}
use Rattle.aa_compile.specs.declared.sets.RuleSets.{RuleSets}
use Rattle.aa_compile.specs.Said.{perms_of, minus, granted}
use Rattle.aa_compile.specs.FileRules.{file_verdict, chosen, way_of}
use Rattle.aa_compile.specs.Attached.{attached, attached_by, attachments_at, attachments_by, attachment_of, at_number, numbers_below}
use Rattle.aa_compile.specs.Labels.{label_named}
use Rattle.aa_compile.specs.declared.transition.Transition.{Transition}
use Rattle.aa_compile.specs.declared.transition.Transition.TheVariants.{Denied, Nowhere}
use Rattle.aa_compile.specs.Transitions.{children, tops, named, child_name, found_by, leads, leads_by}
use Rattle.aa_regions.specs.Regions.{IsAsked}
use Rattle.aa_mediate.specs.declared.bits.RequestBits.{RequestBits}
use Rattle.aa_mediate.specs.Held.{cap_verdict, net_verdict, change_verdict}
use Rattle.aa_mediate.specs.Bits.{sorted, plain_bits, file_bits, exec_missing, exec_denied, change_bits}
use Rattle.aa_mediate.specs.Links.{same_exec, link_missing, link_bits, link_bits_of}
use Rattle.aa_mediate.specs.Decided.{note_of, answered, decided, without_perms}
use Rattle.aa_mediate.specs.Reply.{label_by, label_after, scrubs, found_or, goes_to, confined_in, reply_free, kept, exec_reply, change_reply, reply_in, reply_at, reply}
use Rattle.aa_representatives.specs.Askable.{IsAskable, IsFile, IsLink}
use Rattle.aa_representatives.proofs.Standing.{mask_small}
use Rattle.aa_redundancy.specs.declared.rights.Rights.{Rights}
use Rattle.aa_redundancy.specs.Rights.{Lead, rights, lead_by, lead}
use Rattle.aa_redundancy.specs.Sameness.{SaySame, PoliciesSaySame, answers_to}
use Rattle.aa_redundancy.proofs.Bits.{reported_is, not_denied, first_none}
use Rattle.aa_redundancy.proofs.Asking.{wanted_name}

-- an answer by its parts
abbrev answer_by : Bool → Bool → Bool → Label → Label → Bool → ℕ → ℕ → ℕ → ℕ → ℕ → Answer
answer_by complain audit whole label next scrub requested missing denied quiet audited =
    let blocked = cond complain denied missing in
    cond (blocked == 0)
    (answered true scrub next (cond whole (note_of Audit (cond audit requested audited)) (note_of Allowed missing)))
    (answered false false label (note_of IsDenied (cond audit blocked (minus blocked quiet))))

decided_is : (p : Profile) (label next : Label) (scrub : Bool) (b : RequestBits)
    → decided p label next scrub b ≡ answer_by p.complain p.audit (b.missing.0 == 0) label next scrub b.requested.0 b.missing.0 b.denied.0 b.quiet.0 b.audited.0
decided_is p label next scrub b = refl

-- what is reported of a grant counts only where nothing is missing
audited_counts : (complain audit whole : Bool) (label next : Label) (scrub : Bool) (requested missing denied quiet a b : ℕ) → (whole ≡ true → a ≡ b)
    → answer_by complain audit whole label next scrub requested missing denied quiet a ≡ answer_by complain audit whole label next scrub requested missing denied quiet b
audited_counts complain audit true label next scrub requested missing denied quiet a b e = ap (answer_by complain audit true label next scrub requested missing denied quiet) (e refl)
audited_counts complain audit false label next scrub requested missing denied quiet a b e = refl

module _ (p q : Profile) (complains : p.complain ≡ q.complain) (audits : p.audit ≡ q.audit) where
  flags_same : (label next : Label) (scrub : Bool) (b : RequestBits) → decided p label next scrub b ≡ decided q label next scrub b
  flags_same label next scrub b =
      ap (λ (c : Bool). answer_by c p.audit (b.missing.0 == 0) label next scrub b.requested.0 b.missing.0 b.denied.0 b.quiet.0 b.audited.0) complains
      ∙ ap (λ (a : Bool). answer_by q.complain a (b.missing.0 == 0) label next scrub b.requested.0 b.missing.0 b.denied.0 b.quiet.0 b.audited.0) audits

  module _ (v w : RuleSets) (same : rights v ≡ rights w) where
    granted_same : granted v ≡ granted w
    granted_same = ap (λ (r : Rights). r.granted.0) same

    deny_same : v.deny.0 ≡ w.deny.0
    deny_same = ap (λ (r : Rights). r.denied.0) same

    loud_same : v.loud.0 ≡ w.loud.0
    loud_same = ap (λ (r : Rights). r.loud.0) same

    -- what is asked and granted is reported alike
    audited_same : (asked : ℕ) → asked < 256 → minus asked (granted v) ≡ 0 → bit_and asked v.audited.0 ≡ bit_and asked w.audited.0
    audited_same asked small none =
        reported_is asked v small none
        ∙ ap (λ (r : Rights). bit_and asked r.reported.0) same
        ∙ sym (reported_is asked w small (sym (ap (minus asked) granted_same) ∙ none))

    pub sorted_same : (asked missing : ℕ) → asked < 256 → (missing ≡ 0 → minus asked (granted v) ≡ 0) → (label next : Label) (scrub : Bool)
        → decided p label next scrub (sorted asked missing v) ≡ decided q label next scrub (sorted asked missing w)
    sorted_same asked missing small none label next scrub =
        let whole = missing == 0 in
        flags_same label next scrub (sorted asked missing v)
        ∙ ap (λ (d : ℕ). answer_by q.complain q.audit whole label next scrub asked missing (bit_and missing d) (minus (bit_and missing d) v.loud.0) (bit_and asked v.audited.0)) deny_same
        ∙ ap (λ (l : ℕ). answer_by q.complain q.audit whole label next scrub asked missing (bit_and missing w.deny.0) (minus (bit_and missing w.deny.0) l) (bit_and asked v.audited.0)) loud_same
        ∙ audited_counts q.complain q.audit whole label next scrub asked missing (bit_and missing w.deny.0) (minus (bit_and missing w.deny.0) w.loud.0) (bit_and asked v.audited.0) (bit_and asked w.audited.0)
        (λ (e : whole ≡ true). audited_same asked small (none (eqb-true missing 0 e)))

    pub plain_same : (asked : ℕ) → asked < 256 → (k n : ℕ) → kept k n p (plain_bits asked v) ≡ kept k n q (plain_bits asked w)
    plain_same asked small k n =
        sorted_same asked (minus asked (granted v)) small (λ e. e) (Confined k n) (Confined k n) false
        ∙ ap (λ (m : ℕ). decided q (Confined k n) (Confined k n) false (sorted asked m w)) (ap (minus asked) granted_same)

    changed_missing : (found : Bool) → cond found (minus 1 (granted v)) 1 ≡ 0 → minus 1 (granted v) ≡ 0
    changed_missing true e = e
    changed_missing false e = absurd (omega (arith, e))

    pub change_same : (found : Bool) (label next : Label) → decided p label next false (change_bits v found) ≡ decided q label next false (change_bits w found)
    change_same found label next =
        sorted_same 1 (cond found (minus 1 (granted v)) 1) (omega arith) (changed_missing found) label next false
        ∙ ap (λ (g : ℕ). decided q label next false (sorted 1 (cond found (minus 1 g) 1) w)) granted_same

  -- links: what is said of both paths is the same
  module _ (v w t u : RuleSets) (same : rights v ≡ rights w) (other : rights t ≡ rights u) (one two : Bool)
      (ways : has_exec (perms_of (granted w)) ≡ true → has_exec (perms_of (granted u)) ≡ true → one ≡ two) where
    abbrev exec_if : Bool → ℕ
    exec_if b = cond b 64 0

    exec_cases : (a b one two : Bool) → (a ≡ true → b ≡ true → one ≡ two) → exec_if (a && not (b && one)) ≡ exec_if (a && not (b && two))
    exec_cases true true one two h = ap (λ (s : Bool). exec_if (not s)) (h refl refl)
    exec_cases true false one two h = refl
    exec_cases false b one two h = refl

    abbrev missing_by : ℕ → ℕ → Bool → ℕ
    missing_by g h s = bit_or (bit_or (minus 8 g) (minus (minus g h) 72)) (exec_if (has_exec (perms_of g) && not (has_exec (perms_of h) && s)))

    missing_same : link_missing v t one ≡ link_missing w u two
    missing_same =
        ap (λ (g : ℕ). missing_by g (granted t) one) (granted_same v w same)
        ∙ ap (λ (h : ℕ). missing_by (granted w) h one) (granted_same t u other)
        ∙ ap (λ (n : ℕ). bit_or (bit_or (minus 8 (granted w)) (minus (minus (granted w) (granted u)) 72)) n)
        (exec_cases (has_exec (perms_of (granted w))) (has_exec (perms_of (granted u))) one two ways)

    no_link : link_missing v t one ≡ 0 → minus 8 (granted v) ≡ 0
    no_link e = first_none (minus 8 (granted v)) (minus (minus (granted v) (granted t)) 72) (first_none _ (exec_if (has_exec (perms_of (granted v)) && not (has_exec (perms_of (granted t)) && one))) e)

    pub links_same : (k n : ℕ) → kept k n p (link_bits_of v t one) ≡ kept k n q (link_bits_of w u two)
    links_same k n =
        let l = Confined k n in
        let m = link_missing v t one in
        flags_same l l false (link_bits_of v t one)
        ∙ ap (λ (d : ℕ). answer_by q.complain q.audit (m == 0) l l false 8 m (bit_and 8 d) (minus (bit_and 8 d) v.loud.0) (bit_and 8 v.audited.0)) (deny_same v w same)
        ∙ ap (λ (x : ℕ). answer_by q.complain q.audit (m == 0) l l false 8 m (bit_and 8 w.deny.0) (minus (bit_and 8 w.deny.0) x) (bit_and 8 v.audited.0)) (loud_same v w same)
        ∙ audited_counts q.complain q.audit (m == 0) l l false 8 m (bit_and 8 w.deny.0) (minus (bit_and 8 w.deny.0) w.loud.0) (bit_and 8 v.audited.0) (bit_and 8 w.audited.0)
        (λ (e : (m == 0) ≡ true). audited_same v w same 8 (omega arith) (no_link (eqb-true m 0 e)))
        ∙ ap (λ (x : ℕ). answer_by q.complain q.audit (x == 0) l l false 8 x (bit_and 8 w.deny.0) (minus (bit_and 8 w.deny.0) w.loud.0) (bit_and 8 w.audited.0)) missing_same

-- ways of executions that aren't denied
way_same : (d e : Bool) (rs qs : List FileRule) → d ≡ false → e ≡ false → lead_by d rs ≡ lead_by e qs → way_of rs ≡ way_of qs
way_same false false rs qs p q h = ap (λ (l : Lead). l.way) h
way_same true e rs qs p q h = absurd (let f = p in cc)
way_same false true rs qs p q h = absurd (let f = q in cc)

-- profiles that are the same but for their rules
pub record SameTop (p q : Profile) : Type 0 where
  pub name : p.name ≡ q.name
  pub parent : p.parent ≡ q.parent
  pub attachments : p.attachments ≡ q.attachments

top_of : (p q : Profile) → SaySame p q → SameTop p q
top_of p q h = record { name = h.name; parent = h.parent; attachments = h.attachments }

tops_of : (ps qs : List Profile) → AllZip SaySame ps qs → AllZip SameTop ps qs
tops_of [] [] h = tt
tops_of (p ∷ ps) (q ∷ qs) h = (top_of p q h.0, tops_of ps qs h.1)
tops_of [] (q ∷ qs) h = absurd h
tops_of (p ∷ ps) [] h = absurd h

-- neither is there, or both are, alike
abbrev Both : (Profile → Profile → Type 0) → Option Profile → Option Profile → Type 0
Both R None None = Unit {0}
Both R (Some x) (Some y) = R x y
Both R _ _ = ⊥

got : (R : Profile → Profile → Type 0) (ps qs : List Profile) (n : ℕ) → AllZip R ps qs → Both R (slice_get ps n) (slice_get qs n)
got R [] [] n h = tt
got R (p ∷ ps) (q ∷ qs) zero h = h.0
got R (p ∷ ps) (q ∷ qs) (suc n) h = got R ps qs n h.1
got R [] (q ∷ qs) n h = absurd h
got R (p ∷ ps) [] n h = absurd h

attachments_of : (o p : Option Profile) → Both SameTop o p → option_map_or (λ (x : Profile). x.attachments) o [] ≡ option_map_or (λ (x : Profile). x.attachments) p []
attachments_of None None h = refl
attachments_of (Some x) (Some y) h = h.attachments
attachments_of None (Some y) h = absurd h
attachments_of (Some x) None h = absurd h

first_named : (name : List ℕ) (ps qs : List Profile) → AllZip SameTop ps qs → position_or_len (λ (p : Profile). bytes_eq name p.name) ps ≡ position_or_len (λ (p : Profile). bytes_eq name p.name) qs
first_named name [] [] h = refl
first_named name (p ∷ ps) (q ∷ qs) h =
    ap (λ (x : List ℕ). cond (not (bytes_eq name x)) (1 + position_or_len (λ (p : Profile). bytes_eq name p.name) ps) 0) h.0.name
    ∙ ap (λ (n : ℕ). cond (not (bytes_eq name q.name)) (1 + n) 0) (first_named name ps qs h.1)
first_named name [] (q ∷ qs) h = absurd h
first_named name (p ∷ ps) [] h = absurd h

many_same : (ps qs : List Profile) → AllZip SameTop ps qs → length ps ≡ length qs
many_same [] [] h = refl
many_same (p ∷ ps) (q ∷ qs) h = ap suc (many_same ps qs h.1)
many_same [] (q ∷ qs) h = absurd h
many_same (p ∷ ps) [] h = absurd h

numbers_same : (parent : Option ℕ) (k : ℕ) (ps qs : List Profile) → AllZip SameTop ps qs → numbers_below parent k ps ≡ numbers_below parent k qs
numbers_same parent k [] [] h = refl
numbers_same parent k (p ∷ ps) (q ∷ qs) h =
    ap (λ (o : Option ℕ). cond (option_eq nat_eq o parent) (k ∷ numbers_below parent (suc k) ps) (numbers_below parent (suc k) ps)) h.0.parent
    ∙ ap (λ (ns : List ℕ). cond (option_eq nat_eq q.parent parent) (k ∷ ns) ns) (numbers_same parent (suc k) ps qs h.1)
numbers_same parent k [] (q ∷ qs) h = absurd h
numbers_same parent k (p ∷ ps) [] h = absurd h

module _ (ps qs : List Profile) (same : AllZip SameTop ps qs) where
  named_same : (name : List ℕ) → named ps name ≡ named qs name
  named_same name =
      ap (λ (n : ℕ). cond (nat_lt n (length ps)) (Some n) None) (first_named name ps qs same)
      ∙ ap (λ (n : ℕ). cond (nat_lt (position_or_len (λ (p : Profile). bytes_eq name p.name) qs) n) (Some (position_or_len (λ (p : Profile). bytes_eq name p.name) qs)) None) (many_same ps qs same)

  attachments_same : (numbers : List ℕ) → attachments_by ps numbers ≡ attachments_by qs numbers
  attachments_same [] = refl
  attachments_same (n ∷ ns) =
      ap (λ (l : List Pattern). map (at_number n) l ++ attachments_by ps ns) (attachments_of (slice_get ps n) (slice_get qs n) (got SameTop ps qs n same))
      ∙ ap (λ (l : List (ℕ × Pattern)). map (at_number n) (attachments_at qs n) ++ l) (attachments_same ns)

  attached_same : (ms ns path : List ℕ) → ms ≡ ns → attached ps ms path ≡ attached qs ns path
  attached_same ms ns path e =
      ap (λ (hs : List (ℕ × Pattern)). attached_by (map attachment_of (filter (λ h. is_match h.1.items.items path) hs))) (attachments_same ms)
      ∙ ap (λ (m : List ℕ). attached qs m path) e

  module _ (n : ℕ) (p q : Profile) (h : SameTop p q) (path : List ℕ) where
    found_same : (kind : ExecKind) (target : Option (List ℕ)) → found_by ps n p path kind target ≡ found_by qs n q path kind target
    found_same Named (Some name) = named_same name
    found_same Named None = attached_same (tops ps) (tops qs) path (numbers_same None 0 ps qs same)
    found_same Child (Some name) =
        ap (λ (o : Option ℕ). cond (is_some o) None (named ps (child_name p.name name))) h.parent
        ∙ ap (λ (m : List ℕ). cond (is_some q.parent) None (named ps (child_name m name))) h.name
        ∙ ap (λ (o : Option ℕ). cond (is_some q.parent) None o) (named_same (child_name q.name name))
    found_same Child None =
        ap (λ (o : Option ℕ). cond (is_some o) None (attached ps (children ps n) path)) h.parent
        ∙ ap (λ (o : Option ℕ). cond (is_some q.parent) None o) (attached_same (children ps n) (children qs n) path (numbers_same (Some n) 0 ps qs same))
    found_same Inherit target = refl
    found_same Leaves target = refl

    leads_same : (way : Option Exec) → option_map_or (leads_by ps n p path) way Nowhere ≡ option_map_or (leads_by qs n q path) way Nowhere
    leads_same None = refl
    leads_same (Some e) = ap (leads e.kind e.fallback e.scrub n) (found_same e.kind e.target)

-- an execution by what is said of it
module _ (k : ℕ) (ps : List Profile) (n : ℕ) (p : Profile) (path : List ℕ) where
  abbrev bits_at : Transition → ℕ → Bool → RequestBits
  bits_at t loud audited = record {
    requested = perms_of 64;
    missing = perms_of (exec_missing t);
    denied = perms_of (exec_denied t);
    quiet = perms_of (minus (exec_denied t) loud);
    audited = perms_of (cond audited 64 0);
  }

  abbrev goes_at : Transition → ℕ → Bool → Answer
  goes_at t loud audited = decided p (Confined k n) (label_after k n t) (scrubs t) (bits_at t loud audited)

  abbrev goes_by : Bool → ℕ → Option Exec → Bool → Answer
  goes_by denied loud way audited = goes_at (cond denied Denied (option_map_or (leads_by ps n p path) way Nowhere)) loud audited

  -- where it is denied the way doesn't count
  by_lead : (denied : Bool) (loud : ℕ) (rules : List FileRule) → goes_by denied loud (way_of rules) (list_any (λ r. r.audit) rules) ≡ goes_by denied loud (lead_by denied rules).way (lead_by denied rules).audited
  by_lead true loud rules = refl
  by_lead false loud rules = refl

module _ (k : ℕ) (ps qs : List Profile) (same : AllZip SameTop ps qs) (n : ℕ) (p q : Profile) (h : SaySame p q) where
  exec_same : (r : RequestedExec) → IsAsked r.path → exec_reply k ps n p r ≡ exec_reply k qs n q r
  exec_same r asked =
      let v = file_verdict p.files r.path r.owned in
      let w = file_verdict q.files r.path r.owned in
      let says = h.files r.path r.owned asked in
      let l = lead q.files r.path r.owned in
      by_lead k ps n p r.path (has_exec v.deny) v.loud.0 (chosen p.files r.path r.owned)
      ∙ ap (λ (x : Lead). goes_by k ps n p r.path (has_exec v.deny) v.loud.0 x.way x.audited) says.1
      ∙ ap (λ (x : Rights). goes_by k ps n p r.path (has_exec x.denied) v.loud.0 l.way l.audited) says.0
      ∙ ap (λ (x : Rights). goes_by k ps n p r.path (has_exec w.deny) x.loud.0 l.way l.audited) says.0
      ∙ ap (λ (t : Transition). goes_at k ps n p r.path (cond (has_exec w.deny) Denied t) w.loud.0 l.audited) (leads_same ps qs same n p q (top_of p q h) r.path l.way)
      ∙ flags_same p q h.complain h.audit (Confined k n) (label_after k n (cond (has_exec w.deny) Denied (option_map_or (leads_by qs n q r.path) l.way Nowhere)))
      (scrubs (cond (has_exec w.deny) Denied (option_map_or (leads_by qs n q r.path) l.way Nowhere)))
      (bits_at k ps n p r.path (cond (has_exec w.deny) Denied (option_map_or (leads_by qs n q r.path) l.way Nowhere)) w.loud.0 l.audited)
      ∙ sym (by_lead k qs n q r.path (has_exec w.deny) w.loud.0 (chosen q.files r.path r.owned))

  file_same : (r : RequestedFile) → IsFile (File r) → kept k n p (file_bits p.files r) ≡ kept k n q (file_bits q.files r)
  file_same r asked =
      plain_same p q h.complain h.audit (file_verdict p.files r.path r.owned) (file_verdict q.files r.path r.owned) (h.files r.path r.owned asked.0).0 r.mask.0
      (omega (arith, mask_small r.mask.0 asked.1)) k n

  link_same : (r : RequestedLink) → IsLink (Link r) → kept k n p (link_bits p.files r) ≡ kept k n q (link_bits q.files r)
  link_same r asked =
      let v = file_verdict p.files r.link r.owned in
      let w = file_verdict q.files r.link r.owned in
      let t = file_verdict p.files r.target r.owned in
      let u = file_verdict q.files r.target r.owned in
      let here = h.files r.link r.owned asked.0 in
      let there = h.files r.target r.owned asked.1 in
      links_same p q h.complain h.audit v w t u here.0 there.0
      (option_eq same_exec (way_of (chosen p.files r.link r.owned)) (way_of (chosen p.files r.target r.owned)))
      (option_eq same_exec (way_of (chosen q.files r.link r.owned)) (way_of (chosen q.files r.target r.owned)))
      (λ e f.
      ap (λ (x : Option Exec). option_eq same_exec x (way_of (chosen p.files r.target r.owned)))
      (way_same (has_exec v.deny) (has_exec w.deny) (chosen p.files r.link r.owned) (chosen q.files r.link r.owned) (ap (λ (x : Rights). has_exec x.denied) here.0 ∙ not_denied w e) (not_denied w e) here.1)
      ∙ ap (λ (x : Option Exec). option_eq same_exec (way_of (chosen q.files r.link r.owned)) x)
      (way_same (has_exec t.deny) (has_exec u.deny) (chosen p.files r.target r.owned) (chosen q.files r.target r.owned) (ap (λ (x : Rights). has_exec x.denied) there.0 ∙ not_denied u f) (not_denied u f) there.1))
      k n

-- which of the kinds it is
abbrev no : ⊥ → ⊥
no x = x

neither : {A B : Type 0} → (A → ⊥) → (B → ⊥) → A ⊎ B → ⊥
neither f g s = ⊎_elim f g s

here' : {A B : Type 0} → (B → ⊥) → A ⊎ B → A
here' g s = ⊎_elim (λ x. x) (λ y. absurd (g y)) s

later : {A B : Type 0} → (A → ⊥) → A ⊎ B → B
later f s = ⊎_elim (λ x. absurd (f x)) (λ y. y) s

abbrev none2 : ⊥ ⊎ ⊥ → ⊥
none2 s = neither no no s

abbrev none3 : ⊥ ⊎ (⊥ ⊎ ⊥) → ⊥
none3 s = neither no none2 s

abbrev none4 : ⊥ ⊎ (⊥ ⊎ (⊥ ⊎ ⊥)) → ⊥
none4 s = neither no none3 s

abbrev none5 : ⊥ ⊎ (⊥ ⊎ (⊥ ⊎ (⊥ ⊎ ⊥))) → ⊥
none5 s = neither no none4 s

abbrev none6 : ⊥ ⊎ (⊥ ⊎ (⊥ ⊎ (⊥ ⊎ (⊥ ⊎ ⊥)))) → ⊥
none6 s = neither no none5 s

module _ (p q : Policy) (same : PoliciesSaySame p q) where
  abbrev ps : List Profile
  ps = p.profiles

  abbrev qs : List Profile
  qs = q.profiles

  tops_same : AllZip SameTop ps qs
  tops_same = tops_of ps qs same

  label_same : (k : ℕ) (name : List ℕ) → label_named (p ∷ []) k name ≡ label_named (q ∷ []) k name
  label_same zero name = ap (λ (o : Option ℕ). cond (bytes_eq name (codes "unconfined")) (Some (Unconfined 0)) (option_map (Confined 0) o)) (named_same ps qs tops_same name)
  label_same (suc k) name = refl

  confined_same : (m : ℕ) (name : List ℕ) → confined_in (p ∷ []) m name ≡ confined_in (q ∷ []) m name
  confined_same zero name = ap (option_map (Confined 0)) (named_same ps qs tops_same name)
  confined_same (suc m) name = refl

  in_same : (k n : ℕ) (x y : Profile) → SaySame x y → (r : Request) → IsAskable r → reply_in (p ∷ []) k ps n x r ≡ reply_in (q ∷ []) k qs n y r
  in_same k n x y h (File r) asked = file_same k ps qs tops_same n x y h r (here' none6 asked)
  in_same k n x y h (Link r) asked = link_same k ps qs tops_same n x y h r (here' none5 (later no asked))
  in_same k n x y h (Execution r) asked = exec_same k ps qs tops_same n x y h r (here' none4 (later no (later no asked)))
  in_same k n x y h (Cap c) asked =
      ap without_perms (plain_same x y h.complain h.audit (cap_verdict x.caps c) (cap_verdict y.caps c) (h.caps c (here' none3 (later no (later no (later no asked))))) 1 (omega arith) k n)
  in_same k n x y h (Net f s) asked =
      let t = here' none2 (later no (later no (later no (later no asked)))) in
      ap without_perms (plain_same x y h.complain h.audit (net_verdict x.nets f s) (net_verdict y.nets f s) (h.nets f s t.0 t.1) 1 (omega arith) k n)
  in_same k n x y h (Change name) asked =
      let t = here' no (later no (later no (later no (later no (later no asked))))) in
      let found = label_named (p ∷ []) k name in
      ap without_perms (change_same x y h.complain h.audit (change_verdict x.changes name) (change_verdict y.changes name) (h.changes name (wanted_name name t.0 t.1)) (is_some found) (Confined k n) (found_or (Confined k n) found))
      ∙ ap (change_reply k n y name) (label_same k name)
  in_same k n x y h (Reload m) asked =
      ap (λ (name : List ℕ). goes_to (Confined k n) (confined_in (p ∷ []) m name)) h.name
      ∙ ap (goes_to (Confined k n)) (confined_same m y.name)

  at_same : (k n : ℕ) (o u : Option Profile) → Both SaySame o u → (r : Request) → IsAskable r → reply_at (p ∷ []) k ps n o r ≡ reply_at (q ∷ []) k qs n u r
  at_same k n None None h r asked = refl
  at_same k n (Some x) (Some y) h r asked = in_same k n x y h r asked
  at_same k n None (Some y) h r asked = absurd h
  at_same k n (Some x) None h r asked = absurd h

  free_same : (r : Request) → reply_free (p ∷ []) 0 r ≡ reply_free (q ∷ []) 0 r
  free_same (File r) = refl
  free_same (Link r) = refl
  free_same (Execution r) = ap (λ (o : Option ℕ). answered true false (label_by 0 o) None) (attached_same ps qs tops_same (tops ps) (tops qs) r.path (numbers_same None 0 ps qs tops_same))
  free_same (Cap c) = refl
  free_same (Net f s) = refl
  free_same (Change name) = ap (goes_to (Unconfined 0)) (label_same 0 name)
  free_same (Reload zero) = refl
  free_same (Reload (suc m)) = refl

  pub reply_same : (l : Label) (r : Request) → IsAskable r → reply (p ∷ []) l r ≡ reply (q ∷ []) l r
  unfolding reply
  reply_same (Unconfined zero) r asked = free_same r
  reply_same (Unconfined (suc k)) r asked = refl
  reply_same (Confined zero n) r asked = at_same 0 n (slice_get ps n) (slice_get qs n) (got SaySame ps qs n same) r asked
  reply_same (Confined (suc k) n) r asked = refl

  pub answers_same : (l : Label) (rs : List Request) → All IsAskable rs → answers_to p l rs ≡ answers_to q l rs
  answers_same l [] asked = refl
  answers_same l (r ∷ rs) asked =
      let e = reply_same l r (All-head IsAskable r rs asked) in
      ap (λ (a : Answer). a ∷ answers_to p a.label rs) e
      ∙ ap (λ (as' : List Answer). reply (q ∷ []) l r ∷ as') (answers_same (reply (q ∷ []) l r).label rs (All-tail IsAskable r rs asked))
