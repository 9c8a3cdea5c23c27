-- Requests of a word that profiles which weren't read could change nothing of.
use Rattle.std.proofs.Common.{◌≡◌, ℕ, List, [], ◌∷◌, ◌++◌, Bool, true, false, true≢false, cond, Option, Some, None, refl, sym, ap, subst, ◌∙◌, Contains}
use Rattle.std.specs.Prelude.{not, ◌&&◌, ◌||◌, ◌==◌, is_some, if◌then◌else◌}
use Rattle.std.specs.Option.{option_map_or}
use Rattle.std.specs.List.{list_any, slice_get}
use Rattle.std.proofs.lemmas.Bool.{eq-eqb}
use Rattle.std.proofs.lemmas.Option.{same_Some}
use Rattle.aa_pattern.specs.declared.item.Item.{Item, Byte}
use Rattle.aa_pattern.specs.declared.pattern.Pattern.{Pattern}
use Rattle.aa_pattern.specs.Globs.{Matches}
use Rattle.aa_pattern.specs.Matching.{is_match}
use Rattle.aa_pattern.proofs.Decided.{decided}
use Rattle.aa_model.specs.declared.rule.ExecKind.{ExecKind}
use Rattle.aa_model.specs.declared.rule.ExecKind.TheVariants.{Inherit, Unconfined as Plain, Profile as Named, Child}
use Rattle.aa_model.specs.declared.rule.Exec.{Exec}
use Rattle.aa_model.specs.declared.rule.FileRule.{FileRule}
use Rattle.aa_model.specs.declared.policy.Profile.{Profile}
use Rattle.aa_model.specs.declared.label.Label.TheVariants.{Unconfined, Confined}
use Rattle.aa_model.specs.declared.request.Request.{Request}
use Rattle.aa_model.specs.declared.request.Request.TheVariants as asks
use Rattle.aa_model.specs.Requests.{RequestedExec}
use Rattle.aa_model.specs.Lawful.{has_exec}
use Rattle.aa_compile.specs.FileRules.{file_verdict, some_match, applies_by, any_sort, says_how, ways_by, is_nil, chosen, way_of}
use Rattle.aa_compile.specs.Patterns.{is_literal}
use Rattle.aa_compile.proofs.ConflictLemmas.{in_head}
use Rattle.aa_skipping.specs.declared.unread.Head.{Head}
use Rattle.aa_skipping.specs.declared.unread.Unread.{Unread}
use Rattle.aa_skipping.specs.Searches.{is_rival, has_rival, is_open}
use Rattle.aa_skipping.specs.Undecided.{is_unsure, is_unsure_way, undecided_exec, undecided_in, undecided}
use Rattle.aa_skipping.proofs.Elements.{in_filter, any_in}
use Rattle.aa_quantifiers.proofs.Growing.{fails, left, right, both, or_grows, any_grows}
use Rattle.aa_quantifiers.specs.declared.word.Word.TheVariants.{Files, Execs, One}
use Rattle.aa_quantifiers.specs.Doubts.{byte_of, may_go_on, may_meet, meets, may_attach, is_search}
use Rattle.aa_quantifiers.specs.Doubts.{may_be_unsure, is_open_rule, is_open_in, is_open_word, ClosedWords}

-- ---- two patterns that match one path

abbrev pub HasFront : ℕ → List Item → List ℕ → Type 0
HasFront a xs s = (t : List ℕ) × (s ≡ a ∷ t) × Matches xs t

pub byte_front : (x : Item) (xs : List Item) (a : ℕ) (s : List ℕ) → byte_of x ≡ Some a → Matches (x ∷ xs) s → HasFront a xs s
byte_front (Byte c) xs a s e m = (m.1, m.2 ∙ ap (λ l. l ++ m.1) (m.3.0 ∙ ap (λ (b : ℕ). b ∷ []) (same_Some c a e)), m.4)
byte_front _ xs a s e m = cc

same_tails : (a b : ℕ) (t u : List ℕ) → a ∷ t ≡ b ∷ u → (a ≡ b) × (t ≡ u)
same_tails a b t u e = (cc, cc)

matched_meet : (xs ys : List Item) (s : List ℕ) → Matches xs s → Matches ys s → may_meet xs ys ≡ true
matched_meet [] ys s m n = refl
matched_meet (x ∷ xs) [] s m n = refl
matched_meet (x ∷ xs) (y ∷ ys) s m n = at (matched_meet xs ys) (byte_of x) (byte_of y) refl refl
  where
    at : ((t : List ℕ) → Matches xs t → Matches ys t → may_meet xs ys ≡ true) → (o p : Option ℕ) → byte_of x ≡ o → byte_of y ≡ p → may_go_on o p (may_meet xs ys) ≡ true
    at rest None p e f = refl
    at rest (Some a) None e f = refl
    at rest (Some a) (Some b) e f =
        let h = byte_front x xs a s e m in
        let k = byte_front y ys b s f n in
        let same = same_tails a b h.0 k.0 (sym h.1 ∙ k.1) in
        both (a == b) (may_meet xs ys) (eq-eqb a b same.0) (rest h.0 h.2 (subst (Matches ys) (sym same.1) k.2))

meet_at : (p q : Pattern) (path : List ℕ) → is_match p.items.items path ≡ true → is_match q.items.items path ≡ true → meets p q ≡ true
meet_at p q path e f = matched_meet p.items.items q.items.items path ((decided p.items.items path).0 e) ((decided q.items.items path).0 f)

-- ---- executions

module _ (profiles : List Profile) (unread : Unread) (pattern : Pattern) (path : List ℕ) (matched : is_match pattern.items.items path ≡ true) where
  rival_meets : (b : Pattern) → is_rival profiles path b ≡ true → meets pattern b ≡ true
  rival_meets b e = meet_at pattern b path matched (left (is_match b.items.items path) _ e)

  pub open_grows : is_open profiles unread path ≡ true → may_attach pattern unread ≡ true
  open_grows e =
      or_grows unread.others (list_any (has_rival profiles path) unread.heads) _
      (any_grows (λ (h : Head). list_any (meets pattern) h.attachments) (has_rival profiles path)
      (λ h r. any_grows (meets pattern) (is_rival profiles path) rival_meets h.attachments r) unread.heads) e

  unsure_grows : (p : Profile) (kind : ExecKind) (target : Option (List ℕ)) → is_unsure profiles unread p path kind target ≡ true
      → (if is_search kind target then may_attach pattern unread else is_unsure profiles unread p [] kind target) ≡ true
  unsure_grows p Named None e = open_grows e
  unsure_grows p Named (Some name) e = e
  unsure_grows p Child None e = e
  unsure_grows p Child (Some name) e = e
  unsure_grows p Inherit target e = e
  unsure_grows p Plain target e = e

  way_grows : (p : Profile) (way : Option Exec) → option_map_or (is_unsure_way profiles unread p path) way false ≡ true
      → option_map_or (may_be_unsure profiles unread p pattern) way false ≡ true
  way_grows p None e = e
  way_grows p (Some w) e = unsure_grows p w.kind w.target e

  -- a rule that says how, and applies at the path
  record Says (rules : List FileRule) (r : FileRule) : Type 0 where
    among : Contains rules r
    how : says_how r ≡ true
    at : list_any (meets pattern) r.patterns ≡ true

  sorted_says : (sort : Pattern → Bool) (owned : Bool) (rules : List FileRule) (r : FileRule) → Contains (ways_by sort rules path owned) r → Says rules r
  sorted_says sort owned rules r c =
      let found = in_filter (λ x. says_how x && applies_by sort path owned x) rules r c in
      let applies = right (says_how r) (applies_by sort path owned r) found.1 in
      record {
        among = found.0;
        how = left (says_how r) (applies_by sort path owned r) found.1;
        at = any_grows (meets pattern) (λ (q : Pattern). sort q && is_match q.items.items path)
            (λ q e. meet_at pattern q path matched (right (sort q) (is_match q.items.items path) e)) r.patterns
            (right (owned || not r.owner) (some_match sort path r.patterns) applies);
      }

  chosen_says : (owned : Bool) (rules : List FileRule) (r : FileRule) → Contains (chosen rules path owned) r → Says rules r
  chosen_says owned rules r c = by_sort (is_nil (ways_by is_literal rules path owned)) c
    where
      by_sort : (b : Bool) → Contains (cond b (ways_by any_sort rules path owned) (ways_by is_literal rules path owned)) r → Says rules r
      by_sort true d = sorted_says any_sort owned rules r d
      by_sort false d = sorted_says is_literal owned rules r d

  first_way : (f : Exec → Bool) (rules : List FileRule) → option_map_or f (way_of rules) false ≡ true → (r : FileRule) × Contains rules r × (option_map_or f r.exec false ≡ true)
  first_way f [] e = absurd (true≢false (sym e))
  first_way f (r ∷ rs) e = (r, in_head r rs, e)

  not_denying : (deny some : Bool) → (not deny && some) ≡ true → not deny ≡ true
  not_denying deny some e = left (not deny) some e

  exec_grows : (p : Profile) (r : RequestedExec) → r.path ≡ path → undecided_exec profiles unread p r ≡ true → is_open_in profiles unread pattern p ≡ true
  exec_grows p r same e =
      let ways = right (not (has_exec (file_verdict p.files r.path r.owned).deny)) _ e in
      let here = subst (λ (s : List ℕ). option_map_or (is_unsure_way profiles unread p s) (way_of (chosen p.files s r.owned)) false ≡ true) same ways in
      let one = first_way (is_unsure_way profiles unread p path) (chosen p.files path r.owned) here in
      let says = chosen_says r.owned p.files one.0 one.1 in
      any_in (is_open_rule profiles unread p pattern) p.files one.0 says.among
      (both (not one.0.deny) _ (left (not one.0.deny) (is_some one.0.exec) says.how)
      (both (list_any (meets pattern) one.0.patterns) _ says.at (way_grows p one.0.exec one.2)))

-- ---- words

in_profile : (profiles : List Profile) (unread : Unread) (o : Option Profile) (f g : Profile → Bool) → ((p : Profile) → g p ≡ true → f p ≡ true)
    → option_map_or f o true ≡ false → option_map_or g o true ≡ false
in_profile profiles unread None f g grows none = none
in_profile profiles unread (Some p) f g grows none = fails (g p) (f p) (grows p) none

no_file : (o : Option Profile) → not (is_some o) ≡ false → option_map_or (λ (p : Profile). false) o true ≡ false
no_file None e = e
no_file (Some p) e = refl

pub closed_words : ClosedWords
unfolding undecided is_open_word
closed_words profiles unread label (One q) closed r is = subst (λ (x : Request). undecided profiles unread label x ≡ false) is closed
closed_words profiles unread (Unconfined k) (Files w) closed (asks.File f) is = refl
closed_words profiles unread (Confined k n) (Files w) closed (asks.File f) is = no_file (slice_get profiles n) closed
closed_words profiles unread (Unconfined k) (Execs w) closed (asks.Exec x) is =
    fails (is_open profiles unread x.path) (may_attach w.pattern unread) (open_grows profiles unread w.pattern x.path is.matched) closed
closed_words profiles unread (Confined k n) (Execs w) closed (asks.Exec x) is =
    in_profile profiles unread (slice_get profiles n) (is_open_in profiles unread w.pattern) (λ (p : Profile). undecided_in profiles unread p (asks.Exec x))
    (λ p e. exec_grows profiles unread w.pattern x.path is.matched p x refl e) closed
closed_words profiles unread label _ closed _ is = absurd is
