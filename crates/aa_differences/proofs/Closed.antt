-- Where profiles that weren't read could change nothing at a label, no request is undecided there.
use Rattle.std.proofs.Common.{◌≡◌, ℕ, List, [], ◌∷◌, ◌++◌, map, length, drop, Bool, true, false, true≢false, cond, Option, Some, None, refl, sym, ap, subst, ◌∙◌, Contains}
use Rattle.std.specs.Prelude.{not, ◌&&◌, ◌||◌, ◌==◌, is_some, codes, if◌then◌else◌}
use Rattle.std.specs.Bool.{nat_eq}
use Rattle.std.specs.Option.{option_map_or}
use Rattle.std.specs.Str.{bytes_eq}
use Rattle.std.specs.List.{list_any, slice_get, starts_with}
use Rattle.std.proofs.lemmas.Bool.{eq-eqb, eqb-true}
use Rattle.aa_pattern.specs.declared.item.Item.{Item, Byte}
use Rattle.aa_pattern.specs.declared.pattern.Pattern.{Pattern}
use Rattle.aa_pattern.specs.Globs.{Matches}
use Rattle.aa_pattern.specs.Matching.{is_match}
use Rattle.aa_pattern.proofs.Decided.{decided}
use Rattle.aa_model.specs.declared.rule.ExecKind.{ExecKind}
use Rattle.aa_model.specs.declared.rule.ExecKind.TheVariants.{Inherit, Unconfined as Plain, Profile as Named, Child}
use Rattle.aa_model.specs.declared.rule.Exec.{Exec}
use Rattle.aa_model.specs.declared.rule.FileRule.{FileRule}
use Rattle.aa_model.specs.declared.rule.ChangeRule.{ChangeRule}
use Rattle.aa_model.specs.declared.policy.Profile.{Profile}
use Rattle.aa_model.specs.declared.label.Label.TheVariants.{Unconfined, Confined}
use Rattle.aa_model.specs.declared.request.Request.{Request}
use Rattle.aa_model.specs.declared.request.Request.TheVariants as asks
use Rattle.aa_model.specs.Requests.{RequestedExec}
use Rattle.aa_model.specs.Lawful.{has_exec}
use Rattle.aa_compile.specs.FileRules.{file_verdict, some_match, applies_by, any_sort, says_how, ways_by, is_nil, chosen, way_of}
use Rattle.aa_compile.specs.Patterns.{is_literal}
use Rattle.aa_compile.specs.Holding.{change_holds}
use Rattle.aa_compile.specs.Transitions.{named}
use Rattle.aa_compile.proofs.ConflictLemmas.{in_head}
use Rattle.aa_skipping.specs.declared.unread.Head.{Head}
use Rattle.aa_skipping.specs.declared.unread.Unread.{Unread}
use Rattle.aa_skipping.specs.Searches.{has_rival}
use Rattle.aa_skipping.specs.Names.{is_end, is_of, may_be_unread, is_doubtful}
use Rattle.aa_skipping.specs.Undecided.{is_unsure, is_unsure_way, undecided_exec, is_doubtful_label, holds_with, lets_change, undecided_in, undecided_free, undecided}
use Rattle.aa_skipping.proofs.Elements.{in_filter, in_any, any_in}
use Rattle.aa_quantifiers.proofs.Growing.{fails, left, right, both, or_grows, any_grows}
use Rattle.aa_quantifiers.proofs.Closing.{byte_front, open_grows}
use Rattle.aa_quantifiers.specs.Doubts.{byte_of, may_go_on, may_meet, may_attach, is_search}
use Rattle.aa_differences.specs.Openings.{may_lead, is_open_rule, may_be_some, may_match, may_have_one, is_open_change, is_open_in, is_open_label, ClosedLabels}

-- ---- executions

-- one of the patterns matches the path
abbrev IsMatchedBy : List Pattern → List ℕ → Type 0
IsMatchedBy patterns path = (q : Pattern) × Contains patterns q × (is_match q.items.items path ≡ true)

-- a rule that says how, and of which a pattern matches the path
record Says (rules : List FileRule) (path : List ℕ) (r : FileRule) : Type 0 where
  among : Contains rules r
  how : says_how r ≡ true
  at : IsMatchedBy r.patterns path

sorted_says : (path : List ℕ) (sort : Pattern → Bool) (owned : Bool) (rules : List FileRule) (r : FileRule) → Contains (ways_by sort rules path owned) r → Says rules path r
sorted_says path sort owned rules r c =
    let found = in_filter (λ x. says_how x && applies_by sort path owned x) rules r c in
    let applies = right (says_how r) (applies_by sort path owned r) found.1 in
    let some = in_any (λ (q : Pattern). sort q && is_match q.items.items path) r.patterns (right (owned || not r.owner) (some_match sort path r.patterns) applies) in
    record {
      among = found.0;
      how = left (says_how r) (applies_by sort path owned r) found.1;
      at = (some.0, some.1, right (sort some.0) (is_match some.0.items.items path) some.2);
    }

chosen_says : (path : List ℕ) (owned : Bool) (rules : List FileRule) (r : FileRule) → Contains (chosen rules path owned) r → Says rules path r
chosen_says path owned rules r c = by_sort (is_nil (ways_by is_literal rules path owned)) c
  where
    by_sort : (b : Bool) → Contains (cond b (ways_by any_sort rules path owned) (ways_by is_literal rules path owned)) r → Says rules path r
    by_sort true d = sorted_says path any_sort owned rules r d
    by_sort false d = sorted_says path is_literal owned rules r d

module _ (profiles : List Profile) (unread : Unread) (path : List ℕ) (patterns : List Pattern) (matched : IsMatchedBy patterns path) where
  leads : (p : Profile) (kind : ExecKind) (target : Option (List ℕ)) → is_unsure profiles unread p path kind target ≡ true
      → (if is_search kind target then list_any (λ (q : Pattern). may_attach q unread) patterns else is_unsure profiles unread p [] kind target) ≡ true
  leads p Named None e = any_in (λ (q : Pattern). may_attach q unread) patterns matched.0 matched.1 (open_grows profiles unread matched.0 path matched.2 e)
  leads p Named (Some name) e = e
  leads p Child None e = e
  leads p Child (Some name) e = e
  leads p Inherit target e = e
  leads p Plain target e = e

  way_leads : (p : Profile) (way : Option Exec) → option_map_or (is_unsure_way profiles unread p path) way false ≡ true
      → option_map_or (may_lead profiles unread p patterns) way false ≡ true
  way_leads p None e = e
  way_leads p (Some w) e = leads p w.kind w.target e

first_way : (f : Exec → Bool) (rules : List FileRule) → option_map_or f (way_of rules) false ≡ true
    → (r : FileRule) × Contains rules r × (option_map_or f r.exec false ≡ true)
first_way f [] e = absurd (true≢false (sym e))
first_way f (r ∷ rs) e = (r, in_head r rs, e)

module _ (profiles : List Profile) (unread : Unread) where
  exec_leads : (p : Profile) (r : RequestedExec) → undecided_exec profiles unread p r ≡ true → list_any (is_open_rule profiles unread p) p.files ≡ true
  exec_leads p r e =
      let ways = right (not (has_exec (file_verdict p.files r.path r.owned).deny)) _ e in
      let one = first_way (is_unsure_way profiles unread p r.path) (chosen p.files r.path r.owned) ways in
      let says = chosen_says r.path r.owned p.files one.0 one.1 in
      any_in (is_open_rule profiles unread p) p.files one.0 says.among
      (both (not one.0.deny) _ (left (not one.0.deny) (is_some one.0.exec) says.how) (way_leads profiles unread r.path one.0.patterns says.at p one.0.exec one.2))

-- ---- names

-- what matches a text that begins so meets its front
front_meets : (xs : List Item) (front rest : List ℕ) → Matches xs (front ++ rest) → may_meet xs (map Byte front) ≡ true
front_meets [] front rest m = refl
front_meets (x ∷ xs) [] rest m = refl
front_meets (x ∷ xs) (b ∷ front) rest m = at (front_meets xs front rest) (byte_of x) refl
  where
    same_tails : (a c : ℕ) (t u : List ℕ) → a ∷ t ≡ c ∷ u → (a ≡ c) × (t ≡ u)
    same_tails a c t u e = (cc, cc)

    at : (Matches xs (front ++ rest) → may_meet xs (map Byte front) ≡ true) → (o : Option ℕ) → byte_of x ≡ o → may_go_on o (Some b) (may_meet xs (map Byte front)) ≡ true
    at more None e = refl
    at more (Some a) e =
        let h = byte_front x xs a (b ∷ front ++ rest) e m in
        let same = same_tails b a (front ++ rest) h.0 h.1 in
        both (a == b) (may_meet xs (map Byte front)) (eq-eqb a b (sym same.0)) (more (subst (Matches xs) (sym same.1) h.2))

begins : (front text : List ℕ) → starts_with nat_eq text front ≡ true → text ≡ front ++ drop (length front) text
begins [] text e = refl
begins (c ∷ front) [] e = absurd (true≢false (sym e))
begins (c ∷ front) (d ∷ text) e =
    let same : c ≡ d = eqb-true c d (left (c == d) (starts_with nat_eq text front) e) in
    ap (λ (x : ℕ). x ∷ text) (sym same) ∙ ap (λ (s : List ℕ). c ∷ s) (begins front text (right (c == d) (starts_with nat_eq text front) e))

-- a name of a profile, or of a child of it, begins so
name_begins : (h name : List ℕ) → is_of h name ≡ true → name ≡ h ++ drop (length h) name
name_begins h name e = at (starts_with nat_eq name h) refl e
  where
    at : (b : Bool) → starts_with nat_eq name h ≡ b → option_map_or is_end (if b then Some (drop (length h) name) else None) false ≡ true → name ≡ h ++ drop (length h) name
    at true f n = begins h name f
    at false f n = absurd (true≢false (sym n))

matched_name : (q : Pattern) (h : Head) (name : List ℕ) → is_match q.items.items name ≡ true → is_of h.name name ≡ true → may_match q h ≡ true
matched_name q h name matched is =
    front_meets q.items.items h.name (drop (length h.name) name)
    (subst (Matches q.items.items) (name_begins h.name name is) ((decided q.items.items name).0 matched))

-- one that is such is there
some_such : (is : Head → Bool) (others : Bool) (hs : List Head) → (others || list_any is hs) ≡ true → (others || not (is_nil hs)) ≡ true
some_such is true hs n = refl
some_such is false [] n = n
some_such is false (h ∷ hs) n = refl

-- so one that has a name
some_named : (unread : Unread) (name : List ℕ) → may_be_unread unread name ≡ true → may_be_some unread ≡ true
some_named unread name e = some_such (λ (h : Head). is_of h.name name) unread.others unread.heads e

one_named : (unread : Unread) (o : Option Pattern) (name : List ℕ) → option_map_or (λ (q : Pattern). is_match q.items.items name) o true ≡ true → may_be_unread unread name ≡ true
    → may_have_one unread o ≡ true
one_named unread None name holds may = some_named unread name may
one_named unread (Some q) name holds may =
    or_grows unread.others (list_any (λ (h : Head). is_of h.name name) unread.heads) (list_any (may_match q) unread.heads)
    (any_grows (may_match q) (λ (h : Head). is_of h.name name) (λ h is. matched_name q h name holds is) unread.heads) may

change_open : (unread : Unread) (name : List ℕ) → may_be_unread unread name ≡ true → (r : ChangeRule) → holds_with false name r ≡ true → is_open_change unread r ≡ true
change_open unread name may r holds =
    both (not r.deny) _ (left (not r.deny) (change_holds name r) holds) (one_named unread r.pattern name (right (not r.deny) (change_holds name r) holds) may)

-- a profile whose rules let a task change to a name that one may have is open
lets_open : (profiles : List Profile) (unread : Unread) (p : Profile) (name : List ℕ) → may_be_unread unread name ≡ true → lets_change p name ≡ true → is_open_in profiles unread p ≡ true
lets_open profiles unread p name may lets =
    at p.complain (list_any (is_open_rule profiles unread p) p.files) (right (not (list_any (holds_with true name) p.changes)) _ lets)
  where
    last : (b c : Bool) → c ≡ true → (b || c) ≡ true
    last true c e = refl
    last false c e = e

    at : (complain rules : Bool) → (complain || list_any (holds_with false name) p.changes) ≡ true
        → ((complain && may_be_some unread) || (rules || list_any (is_open_change unread) p.changes)) ≡ true
    at true rules n = ap (λ (b : Bool). b || (rules || list_any (is_open_change unread) p.changes)) (some_named unread name may)
    at false rules n = last rules _ (any_grows (is_open_change unread) (holds_with false name) (change_open unread name may) p.changes n)

doubtful_named : (profiles : List Profile) (unread : Unread) (name : List ℕ) → is_doubtful_label profiles unread name ≡ true → may_be_unread unread name ≡ true
doubtful_named profiles unread name e =
    right (not (is_some (named profiles name))) (may_be_unread unread name) (right (not (bytes_eq name (codes "unconfined"))) (is_doubtful profiles unread name) e)

-- ---- labels

module _ (profiles : List Profile) (unread : Unread) where
  open_in : (p : Profile) (r : Request) → undecided_in profiles unread p r ≡ true → is_open_in profiles unread p ≡ true
  open_in p (asks.Exec x) e = rules (p.complain && may_be_some unread) (exec_leads profiles unread p x e)
    where
      rules : (b : Bool) → list_any (is_open_rule profiles unread p) p.files ≡ true → (b || (list_any (is_open_rule profiles unread p) p.files || list_any (is_open_change unread) p.changes)) ≡ true
      rules true n = refl
      rules false n = ap (λ (b : Bool). b || list_any (is_open_change unread) p.changes) n
  open_in p (asks.Change name) e =
      lets_open profiles unread p name (doubtful_named profiles unread name (left (is_doubtful_label profiles unread name) (lets_change p name) e))
      (right (is_doubtful_label profiles unread name) (lets_change p name) e)
  open_in p (asks.File r) e = absurd (true≢false (sym e))
  open_in p (asks.Link r) e = absurd (true≢false (sym e))
  open_in p (asks.Cap c) e = absurd (true≢false (sym e))
  open_in p (asks.Net f s) e = absurd (true≢false (sym e))
  open_in p (asks.Reload m) e = absurd (true≢false (sym e))

  open_free : (r : Request) → undecided_free profiles unread r ≡ true → may_be_some unread ≡ true
  open_free (asks.Exec x) e = some_such (has_rival profiles x.path) unread.others unread.heads e
  open_free (asks.Change name) e = some_named unread name (doubtful_named profiles unread name e)
  open_free (asks.File r) e = absurd (true≢false (sym e))
  open_free (asks.Link r) e = absurd (true≢false (sym e))
  open_free (asks.Cap c) e = absurd (true≢false (sym e))
  open_free (asks.Net f s) e = absurd (true≢false (sym e))
  open_free (asks.Reload m) e = absurd (true≢false (sym e))

  held_closed : (o : Option Profile) (r : Request) → option_map_or (is_open_in profiles unread) o true ≡ false → option_map_or (λ (p : Profile). undecided_in profiles unread p r) o true ≡ false
  held_closed None r closed = closed
  held_closed (Some p) r closed = fails (undecided_in profiles unread p r) (is_open_in profiles unread p) (open_in p r) closed

pub closed_labels : ClosedLabels
unfolding undecided is_open_label
closed_labels profiles unread (Unconfined k) closed r = fails (undecided_free profiles unread r) (may_be_some unread) (open_free profiles unread r) closed
closed_labels profiles unread (Confined k n) closed r = held_closed profiles unread (slice_get profiles n) r closed
