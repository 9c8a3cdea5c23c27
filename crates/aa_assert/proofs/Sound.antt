-- What isn't undecided of a claim is so by the policy of all files.
use Rattle.std.proofs.Common.{◌≡◌, ℕ, ◌<◌, ◌≤◌, List, [], ◌∷◌, ◌++◌, length, map, get_or, Bool, true, false, true≢false, Option, Some, None, refl, sym, ap, subst, ◌∙◌, Contains, ⊎_elim, arith}
use Rattle.std.specs.Prelude.{◌||◌, ◌==◌, filter, codes, is_some, IsTrue, if◌then◌else◌}
use Rattle.std.specs.Option.{option_map_or}
use Rattle.std.specs.List.{All, list_any, slice_get}
use Rattle.std.proofs.lemmas.Option.{slice_get_cases, same_Some}
use Rattle.std.proofs.lemmas.Bool.{eqb-true, eq-eqb}
use Rattle.aa_pattern.specs.Globs.{IsNonzeroByte}
use Rattle.aa_model.specs.declared.policy.Policy.{Policy}
use Rattle.aa_model.specs.declared.policy.Profile.{Profile}
use Rattle.aa_model.specs.declared.label.Label.{Label}
use Rattle.aa_model.specs.declared.label.Label.TheVariants.{Unconfined, Confined}
use Rattle.aa_model.specs.declared.request.Request.{Request}
use Rattle.aa_model.specs.declared.answer.Answer.{Answer}
use Rattle.aa_compile.specs.Labels.{profile_in, first_profiles}
use Rattle.aa_mediate.specs.Reply.{reply}
use Rattle.aa_quantifiers.specs.declared.word.Word.{Word}
use Rattle.aa_quantifiers.specs.Words.{IsOf}
use Rattle.aa_quantifiers.specs.Quantities.{grants, IsAnswered}
use Rattle.aa_quantifiers.specs.Doubts.{is_open_word, ClosedWords}
use Rattle.aa_skipping.specs.declared.unread.Head.{Head}
use Rattle.aa_skipping.specs.declared.unread.Unread.{Unread}
use Rattle.aa_skipping.specs.Joined.{HasHead, IsUnreadTop, IsUnreadChild}
use Rattle.aa_skipping.specs.Undecided.{undecided}
use Rattle.aa_skipping.specs.Laws.{moved, moved_answer}
use Rattle.aa_skipping.proofs.Elements.{none_in}
use Rattle.aa_skipped.specs.declared.skipped.Skipped.{Skipped}
use Rattle.aa_skipped.specs.Together.{together, one_decides, has_label, EachDecides}
use Rattle.aa_skipped.proofs.Each.{head_each}
use Rattle.aa_undecided.specs.Answers.{placed, files_among, files_deciding}
use Rattle.aa_undecided.specs.Holding.{unreads, IsWhole}
use Rattle.aa_undecided.proofs.Sound.{none_such, has_some}
use Rattle.aa_reachability.specs.Moves.{is_by_complain, label_kept}
use Rattle.aa_reachability.specs.Reach.{led_by}
use Rattle.aa_claims.specs.declared.words.ClaimWord.{ClaimWord}
use Rattle.aa_claims.specs.Forms.{names_led}
use Rattle.aa_assert.specs.declared.asked.Asked.{Asked}
use Rattle.aa_assert.specs.declared.asked.Asked.TheVariants.{Never, Leads, Always, Reaches, Enforced}
use Rattle.aa_assert.specs.declared.part.Part.{Part}
use Rattle.aa_assert.specs.Enforced.{complains_at}
use Rattle.aa_assert.specs.Judging.{IsBroken}
use Rattle.aa_assert.specs.Leading.{is_named_in, IsLedTo}
use Rattle.aa_assert.specs.Passages.{going}
use Rattle.aa_assert.specs.Scope.{is_about, may_be_about, concerns}
use Rattle.aa_assert.specs.Findings.{AllFound, files_concerned, files_changing_in, files_changing, files_on_way, first_some, labels_about}
use Rattle.aa_assert.specs.Findings.{IsFoundAt, IsFoundOfPassage}
use Rattle.aa_assert.specs.Answers.{IsAnswerBy}
use Rattle.aa_assert.specs.Holding.{is_led_to, EndsThere, Counted, IsBrokenAt, Holds, IsClear, ClearClaimsHold, AreNamesText, ClaimsHold, FreeClaimsHold}
use Rattle.aa_assert.specs.Holding.{BreakingsStand, EndingsStand, WaysStand, ArrivalsStand, ComesThere, IsAbout, ToldWaysBreak}
use Rattle.aa_ask.specs.Told.{is_same}
use Rattle.aa_assert.proofs.Apart.{itself, differ, same_number}
use Rattle.aa_assert.proofs.Beginning.{about_begins}
use Rattle.aa_assert.proofs.Clear.{In, IsKept, AreKept, AllKept, all_clear, cons_nil, no_else, none_told, none_of, sure_of, each_looked, about_in, free_in}
use Rattle.aa_assert.proofs.Naming.{AreSaid, are_said, ends_led, comes_way}
use Rattle.aa_assert.proofs.There.{leads_there}

-- what fails of each fails of the others too
none_more : (f g : Unread → Bool) → ((u : Unread) → f u ≡ false → g u ≡ false) → (us : List Unread) → list_any f us ≡ false → list_any g us ≡ false
none_more f g more [] e = e
none_more f g more (u ∷ us) e = at (f u) (g u) (more u) (none_more f g more us) e
  where
    at : (a b : Bool) → (a ≡ false → b ≡ false) → (list_any f us ≡ false → list_any g us ≡ false) → (a || list_any f us) ≡ false → (b || list_any g us) ≡ false
    at true b h rest n = absurd (true≢false n)
    at false b h rest n = ap (λ (c : Bool). c || list_any g us) (h refl) ∙ rest n

-- where no file is such, none is found
such_none : (p : Unread → Bool) (skipped : List Skipped) → list_any p (unreads skipped) ≡ false → map placed (filter (λ (k : Skipped). p k.unread) skipped) ≡ []
such_none p [] e = refl
such_none p (k ∷ ks) e = at (such_none p ks) (p k.unread) refl e
  where
    at : (list_any p (unreads ks) ≡ false → map placed (filter (λ (x : Skipped). p x.unread) ks) ≡ []) → (b : Bool) → p k.unread ≡ b
        → (b || list_any p (unreads ks)) ≡ false → map placed
        (if b then k ∷ filter (λ (x : Skipped). p x.unread) ks else filter (λ (x : Skipped). p x.unread) ks) ≡ []
    at rest true f n = absurd (true≢false n)
    at rest false f n = rest n

or_none : (a b : Bool) → (a || b) ≡ false → (a ≡ false) × (b ≡ false)
or_none true b e = absurd (true≢false e)
or_none false b e = (refl, e)

-- where no file could change the answers to a word, none could decide one of its requests
closed_files : ClosedWords → (d : Part) (l : Label) (v : Word) → files_changing d l v ≡ [] → (r : Request) → IsOf v r
    → files_deciding d.decided.policies.now d.skipped.now l r ≡ []
unfolding files_deciding
closed_files closed d l v none r is = at (slice_get d.decided.policies.now 0) none
  where
    at : (o : Option Policy) → option_map_or (files_changing_in d.skipped.now l v) o [] ≡ [] → option_map_or (files_among d.skipped.now l r) o [] ≡ []
    at None e = refl
    at (Some p) e =
        such_none (λ (u : Unread). undecided p.profiles u l r) d.skipped.now
        (none_more (λ (u : Unread). is_open_word p.profiles u l v) (λ (u : Unread). undecided p.profiles u l r) (λ u f. closed p.profiles u l v f r is)
        (unreads d.skipped.now) (none_such (λ (u : Unread). is_open_word p.profiles u l v) d.skipped.now e))

module _ (each : EachDecides) (d : Part) (read whole : Policy) (place : ℕ → ℕ) (w : IsWhole d.decided d.skipped.now read whole place) where
  abbrev ks : List Skipped
  ks = d.skipped.now

  -- none of the files could decide: the answer is that of the whole
  sure_by : (l : Label) (r : Request) → one_decides read.profiles l r (unreads ks) ≡ false
      → reply (whole ∷ []) (moved place l) r ≡ moved_answer place (reply (read ∷ []) l r)
  sure_by l r none =
      let has = has_some read.profiles l r w.file w.files (subst (λ (xs : List Skipped). one_decides read.profiles l r (unreads xs) ≡ false) w.some none) in
      each (unreads ks) read whole place w.joined l r has none

  decided_by : (l : Label) (r : Request) → files_deciding d.decided.policies.now ks l r ≡ [] → one_decides read.profiles l r (unreads ks) ≡ false
  unfolding files_deciding
  decided_by l r none =
      none_such (λ (u : Unread). undecided read.profiles u l r) ks (subst (λ (ps : List Policy). files_deciding ps ks l r ≡ []) w.one none)

  by_read : (l : Label) (r : Request) → reply d.decided.policies.now l r ≡ reply (read ∷ []) l r
  by_read l r = ap (λ (ps : List Policy). reply ps l r) w.one

  pub stands : (l : Label) (r : Request) (against : Bool) → files_deciding d.decided.policies.now ks l r ≡ [] → IsAnswered d.decided.policies.now l against r
      → IsAnswered (whole ∷ []) (moved place l) against r
  stands l r against none answered = ap grants (sure_by l r (decided_by l r none)) ∙ (sym (ap grants (by_read l r)) ∙ answered)

  -- ---- labels

  led_at : (ws : List ClaimWord) (n : ℕ) (o : Option Profile) → slice_get read.profiles n ≡ o → is_some o ≡ true
      → option_map_or (is_named_in (names_led ws)) (slice_get whole.profiles (place n)) false ≡ option_map_or (is_named_in (names_led ws)) o false
  led_at ws n None e some = absurd (true≢false (sym some))
  led_at ws n (Some p) e some = ap (λ (o : Option Profile). option_map_or (is_named_in (names_led ws)) o false) (w.joined.kept n p e).1

  -- a label that is there is named as it was
  led_same : (ws : List ClaimWord) (l : Label) → has_label read.profiles l ≡ true → is_led_to (whole ∷ []) ws (moved place l) ≡ is_led_to (read ∷ []) ws l
  led_same ws (Unconfined k) has = refl
  led_same ws (Confined k n) has = led_at ws n (slice_get read.profiles n) refl has

  there : (l : Label) (r : Request) → one_decides read.profiles l r (unreads ks) ≡ false → has_label read.profiles l ≡ true
  there l r none = has_some read.profiles l r w.file w.files (subst (λ (xs : List Skipped). one_decides read.profiles l r (unreads xs) ≡ false) w.some none)

  -- so is that to which a request leads that none could decide
  led_after : (ws : List ClaimWord) (l : Label) (r : Request) → one_decides read.profiles l r (unreads ks) ≡ false
      → is_led_to (whole ∷ []) ws (reply (whole ∷ []) (moved place l) r).label ≡ is_led_to d.decided.policies.now ws (reply d.decided.policies.now l r).label
  led_after ws l r none =
      ap (λ (a : Answer). is_led_to (whole ∷ []) ws a.label) (sure_by l r none)
      ∙ (led_same ws (reply (read ∷ []) l r).label (leads_there read l r (there l r none))
      ∙ ap (λ (ps : List Policy). is_led_to ps ws (reply ps l r).label) (sym w.one))

  granted_same : (l : Label) (r : Request) → one_decides read.profiles l r (unreads ks) ≡ false
      → grants (reply (whole ∷ []) (moved place l) r) ≡ grants (reply d.decided.policies.now l r)
  granted_same l r none = ap grants (sure_by l r none) ∙ sym (ap grants (by_read l r))

  ends_there : (ws : List ClaimWord) (l : Label) (r : Request) → one_decides read.profiles l r (unreads ks) ≡ false → EndsThere d.decided.policies.now ws l r
      → EndsThere (whole ∷ []) ws (moved place l) r
  ends_there ws l r none ends = (granted_same l r none ∙ ends.0, led_after ws l r none ∙ ends.1)

  ends_back : (ws : List ClaimWord) (l : Label) (r : Request) → one_decides read.profiles l r (unreads ks) ≡ false → EndsThere (whole ∷ []) ws (moved place l) r
      → EndsThere d.decided.policies.now ws l r
  ends_back ws l r none ends = (sym (granted_same l r none) ∙ ends.0, sym (led_after ws l r none) ∙ ends.1)

  kept_moved : (l : Label) (a : Answer) → label_kept (moved place l) (moved_answer place a) ≡ moved place (label_kept l a)
  kept_moved l a = at (is_by_complain a)
    where
      at : (b : Bool) → (if b then moved place l else moved place a.label) ≡ moved place (if b then l else a.label)
      at true = refl
      at false = refl

  goes : (l : Label) (r : Request) → files_deciding d.decided.policies.now ks l r ≡ []
      → going (whole ∷ []) (moved place l) r ≡ moved place (going d.decided.policies.now l r)
  goes l r none =
      ap (label_kept (moved place l)) (sure_by l r (decided_by l r none) ∙ sym (ap (moved_answer place) (by_read l r)))
      ∙ kept_moved l (reply d.decided.policies.now l r)

  ways : (l : Label) (rs : List Request) → files_on_way d.decided.policies.now ks l rs ≡ []
      → led_by (going (whole ∷ [])) (moved place l) rs ≡ moved place (led_by (going d.decided.policies.now) l rs)
  ways l [] none = refl
  ways l (r ∷ rs) none =
      let parts = no_else (files_deciding d.decided.policies.now ks l r) (files_on_way d.decided.policies.now ks (going d.decided.policies.now l r) rs) none in
      ap (λ (m : Label). led_by (going (whole ∷ [])) m rs) (goes l r parts.0) ∙ ways (going d.decided.policies.now l r) rs parts.1

  -- ---- where ways end

  has_kept : (l : Label) (a : Answer) → has_label read.profiles l ≡ true → has_label read.profiles a.label ≡ true
      → has_label read.profiles (label_kept l a) ≡ true
  has_kept l a here next = at (is_by_complain a)
    where
      at : (b : Bool) → has_label read.profiles (if b then l else a.label) ≡ true
      at true = here
      at false = next

  has_led : (rs : List Request) (l : Label) → has_label read.profiles l ≡ true
      → has_label read.profiles (led_by (going d.decided.policies.now) l rs) ≡ true
  has_led [] l has = has
  has_led (r ∷ rs) l has =
      has_led rs (going d.decided.policies.now l r)
      (has_kept l (reply d.decided.policies.now l r) has
      (ap (λ (a : Answer). has_label read.profiles a.label) (by_read l r) ∙ leads_there read l r has))

  -- no two read profiles have one place
  once : (m n : ℕ) (o u : Option Profile) → slice_get read.profiles m ≡ o → slice_get read.profiles n ≡ u → is_some o ≡ true → is_some u ≡ true
      → place m ≡ place n → m ≡ n
  once m n None u e f has too same = absurd (true≢false (sym has))
  once m n (Some p) None e f has too same = absurd (true≢false (sym too))
  once m n (Some p) (Some q) e f has too same =
      let here = w.joined.kept m p e in
      let there_too = w.joined.kept n q f in
      let one = same_Some _ _ (sym here.1 ∙ (ap (slice_get whole.profiles) same ∙ there_too.1)) in
      same_number read.profiles read.lawful.distinct m n p q e f (ap (λ (x : Profile). x.name) one)

  apart : (l m : Label) → has_label read.profiles l ≡ true → has_label read.profiles m ≡ true → is_same l m ≡ false
      → is_same (moved place l) (moved place m) ≡ false
  apart (Unconfined j) (Unconfined k) has too e = e
  apart (Unconfined j) (Confined k n) has too e = refl
  apart (Confined j m) (Unconfined k) has too e = refl
  apart (Confined j m) (Confined k n) has too e =
      differ (j == k) (m == n) (place m == place n)
      (λ same. eq-eqb m n
      (once m n (slice_get read.profiles m) (slice_get read.profiles n) refl refl has too (eqb-true (place m) (place n) same)))
      e

  begins : (l : Label) (rs : List Request) → files_on_way d.decided.policies.now ks l rs ≡ []
      → is_same l (led_by (going d.decided.policies.now) l rs) ≡ false → has_label read.profiles l ≡ true
  begins l [] none leaves = absurd (true≢false (sym (itself l) ∙ leaves))
  begins l (r ∷ rs) none leaves =
      let parts = no_else (files_deciding d.decided.policies.now ks l r) (files_on_way d.decided.policies.now ks (going d.decided.policies.now l r) rs) none in
      there l r (decided_by l r parts.0)

  comes : (ws : List ClaimWord) (l : Label) (rs : List Request) → files_on_way d.decided.policies.now ks l rs ≡ []
      → ComesThere d.decided.policies.now ws l rs → ComesThere (whole ∷ []) ws (moved place l) rs
  comes ws l rs none c =
      let end = led_by (going d.decided.policies.now) l rs in
      let has = begins l rs none c.leaves in
      let has_end = has_led rs l has in
      let led = ways l rs none in
      record {
        asked = c.asked;
        leaves = ap (is_same (moved place l)) led ∙ apart l end has has_end c.leaves;
        arrives =
            ap (is_led_to (whole ∷ []) ws) led
            ∙ (led_same ws end has_end ∙ (ap (λ (ps : List Policy). is_led_to ps ws end) (sym w.one) ∙ c.arrives));
      }

  module _ (closed_words : ClosedWords) where
    -- no file could change the word's answers: none could decide one of its requests
    closed_by : (l : Label) (v : Word) → files_changing d l v ≡ [] → (r : Request) → IsOf v r → one_decides read.profiles l r (unreads ks) ≡ false
    closed_by l v none r is =
        let here = subst (λ (ps : List Policy). option_map_or
        (λ (p : Policy). map placed (filter (λ (k : Skipped). is_open_word p.profiles k.unread l v) ks)) (slice_get ps 0) [] ≡ []) w.one none in
        none_more (λ (u : Unread). is_open_word read.profiles u l v) (λ (u : Unread). undecided read.profiles u l r)
        (λ u e. closed_words read.profiles u l v e r is) (unreads ks) (none_such (λ (u : Unread). is_open_word read.profiles u l v) ks here)

    -- a word that is kept at a label isn't broken there by the whole
    kept_holds : (l : Label) (v : Word) (Is IsHere : Request → Type 0) → ((r : Request) → one_decides read.profiles l r (unreads ks) ≡ false → IsHere r → Is r)
        → IsKept d l v Is → IsBroken v IsHere → ⊥
    kept_holds l v Is IsHere back kept broken =
        let here = back broken.0 (closed_by l v kept.closed broken.0 broken.1) broken.2 in
        let other = kept.holds (broken.0, broken.1, here) in
        other.2 (closed_files closed_words d l v kept.closed other.0 other.1)

    answered_back : (l : Label) (against : Bool) (r : Request) → one_decides read.profiles l r (unreads ks) ≡ false
        → IsAnswered (whole ∷ []) (moved place l) against r
        → IsAnswered d.decided.policies.now l against r
    answered_back l against r none answered = ap grants (by_read l r) ∙ (sym (ap grants (sure_by l r none)) ∙ answered)

    says_hold : (ws : List ClaimWord) (l : Label) (says : Asked) → AreSaid d.decided.policies.now ws says → AreKept d l says
        → (says ≡ Enforced → complains_at (whole ∷ []) (moved place l) ≡ false)
        → IsBrokenAt d.unclean (whole ∷ []) ws (moved place l) says → ⊥
    says_hold ws l (Never v) said kept enforced broken =
        kept_holds l v (Counted d.unclean (IsAnswered d.decided.policies.now l true)) (Counted d.unclean (IsAnswered (whole ∷ []) (moved place l) true))
        (λ r none h. (h.0, answered_back l true r none h.1)) kept broken
    says_hold ws l (Always v) said kept enforced broken =
        kept_holds l v (Counted d.unclean (IsAnswered d.decided.policies.now l false)) (Counted d.unclean (IsAnswered (whole ∷ []) (moved place l) false))
        (λ r none h. (h.0, answered_back l false r none h.1)) kept broken
    says_hold ws l (Leads v ls) said kept enforced broken =
        kept_holds l v (Counted d.unclean (IsLedTo d.decided.policies.now l ls)) (Counted d.unclean (EndsThere (whole ∷ []) ws (moved place l)))
        (λ r none h. (h.0, ends_led d.decided.policies.now ws ls said l r (ends_back ws l r none h.1))) kept broken
    says_hold ws l (Reaches ls) said kept enforced broken = cons_nil w.file w.files (sym w.some ∙ kept.0)
    says_hold ws l Enforced said kept enforced broken = true≢false (sym broken ∙ enforced refl)

    module _ (ws : List ClaimWord) (says : Asked) (said : AreSaid d.decided.policies.now ws says) (unconcerned : files_concerned ws d ≡ []) where
      -- no profile that wasn't read has a name that the claim is about
      none_concerned : concerns ws (together (unreads ks)) ≡ false
      none_concerned = head_each (may_be_about ws) (unreads ks) ∙ none_such (concerns ws) ks unconcerned

      known : (top : Profile) → IsUnreadTop (together (unreads ks)) top → (h : Head) × (may_be_about ws h ≡ false) × (top.name ≡ h.name)
      known top unread =
          let none = or_none (together (unreads ks)).others (list_any (may_be_about ws) (together (unreads ks)).heads) none_concerned in
          ⊎_elim
          (λ (t : IsTrue (together (unreads ks)).others). absurd (true≢false (sym t ∙ none.0)))
          (λ (h : (x : Head) × Contains (together (unreads ks)).heads x × HasHead top x).
          (h.0, none_in (may_be_about ws) (together (unreads ks)).heads none.1 h.0 h.1, h.2.called))
          unread.known

      not_top : (q : Profile) → IsUnreadTop (together (unreads ks)) q → is_about ws q.name ≡ true → ⊥
      not_top q unread about =
          let h = known q unread in
          true≢false (sym (subst (λ (n : List ℕ). is_about ws n ≡ true) h.2 about) ∙ (or_none (is_about ws h.0.name) _ h.1).0)

      not_child : (q : Profile) → IsUnreadChild (together (unreads ks)) (length read.profiles) whole.profiles place q → All IsNonzeroByte q.name
          → is_about ws q.name ≡ true → ⊥
      not_child q unread text about =
          let h = known unread.parent unread.unread_too in
          let called : q.name ≡ (h.0.name ++ codes "//") ++ unread.name = unread.called ∙ ap (λ (n : List ℕ). (n ++ codes "//") ++ unread.name) h.2 in
          true≢false
          (sym (about_begins ws (h.0.name ++ codes "//") unread.name (subst (All IsNonzeroByte) called text)
          (subst (λ (n : List ℕ). is_about ws n ≡ true) called about))
          ∙ (or_none (is_about ws h.0.name) _ h.1).1)

      module _
          (kept : (k : ℕ) (p : Profile) → slice_get read.profiles k ≡ Some p → is_about ws p.name ≡ true → AreKept d (Confined 0 k) says) where
        read_holds : (n m : ℕ) (q : Profile) → n < length read.profiles → place n ≡ m → slice_get whole.profiles m ≡ Some q → is_about ws q.name ≡ true
            → IsBrokenAt d.unclean (whole ∷ []) ws (Confined 0 m) says → ⊥
        read_holds n m q lt at got about broken =
            ⊎_elim
            (λ (here : (x : Profile) × (n < length read.profiles) × (slice_get read.profiles n ≡ Some x) × (get_or read.profiles n x ≡ x)). found here.0 here.2)
            (λ (none : (length read.profiles ≤ n) × (slice_get read.profiles n ≡ None)). absurd (omega (arith, lt, none.0)))
            (slice_get_cases read.profiles n).1
          where
            enforced_here : (p : Profile) → slice_get read.profiles n ≡ Some p → complains_at d.decided.policies.now (Confined 0 n) ≡ false → p.complain ≡ false
            enforced_here p is e =
                ap (λ (o : Option Profile). option_map_or (λ (x : Profile). x.complain) o false) (sym is)
                ∙ subst (λ (ps : List Policy). complains_at ps (Confined 0 n) ≡ false) w.one e

            found : (p : Profile) → slice_get read.profiles n ≡ Some p → ⊥
            found p is =
                let there = w.joined.kept n p is in
                let same = same_Some _ _ (sym there.1 ∙ (ap (slice_get whole.profiles) at ∙ got)) in
                let k = kept n p is (subst (λ (x : Profile). is_about ws x.name ≡ true) (sym same) about) in
                says_hold ws (Confined 0 n) says said k
                (λ e. ap (λ (o : Option Profile). option_map_or (λ (x : Profile). x.complain) o false) there.1 ∙ enforced_here p is
                (subst (AreKept d (Confined 0 n)) e k))
                (subst (λ (i : ℕ). IsBrokenAt d.unclean (whole ∷ []) ws (Confined 0 i) says) (sym at) broken)

        pub holds : AreNamesText whole → (m : ℕ) (q : Profile) → slice_get whole.profiles m ≡ Some q → is_about ws q.name ≡ true
            → IsBrokenAt d.unclean (whole ∷ []) ws (Confined 0 m) says → ⊥
        holds texts m q got about broken =
            ⊎_elim
            (λ (old : (n : ℕ) × (n < length read.profiles) × (place n ≡ m)). read_holds old.0 m q old.1 old.2 got about broken)
            (λ added. ⊎_elim
            (λ (top : IsUnreadTop (together (unreads ks)) q). not_top q top about)
            (λ (child : IsUnreadChild (together (unreads ks)) (length read.profiles) whole.profiles place q). not_child q child (texts m q got) about) added)
            (w.joined.added m q got)

-- what is known of a claim that is clear
module _ (first : Bool) (d : Part) (limit : ℕ) (ws : List ClaimWord) (head asked : ClaimWord) (fs : AllFound)
    (answer : IsAnswerBy first d limit ws head asked fs)
    (clear : IsClear fs) where
  said : AreSaid d.decided.policies.now ws answer.says
  said = are_said d ws head asked answer.says answer.is_asked

  kept : AllKept first d limit ws answer.says asked.text.items
  kept = all_clear first d limit ws answer.says asked.text.items answer.are.0 answer.are.1 (subst IsClear answer.are.2 clear)

  module _ (closed : ClosedWords) where
    none_broken : (l : Label) (v : Word) (Is : Request → Type 0) → IsKept d l v Is → IsBroken v Is → ⊥
    none_broken l v Is k broken =
        let other = k.holds broken in
        other.2 (closed_files closed d l v k.closed other.0 other.1)

    holds_here : (l : Label) (says : Asked) → AreSaid d.decided.policies.now ws says → AreKept d l says
        → IsBrokenAt d.unclean d.decided.policies.now ws l says → ⊥
    holds_here l (Never v) is k broken = none_broken l v _ k broken
    holds_here l (Always v) is k broken = none_broken l v _ k broken
    holds_here l (Leads v ls) is k broken =
        none_broken l v _ k (broken.0, broken.1, (broken.2.0, ends_led d.decided.policies.now ws ls is l broken.0 broken.2.1))
    holds_here l (Reaches ls) is k broken = k.1 broken.0 broken.1 (comes_way d.decided.policies.now ws ls is l broken.0 broken.2)
    holds_here l Enforced is k broken = true≢false (sym broken ∙ k)

    claim_holds : Holds d.unclean d.decided.policies.now ws answer.says
    claim_holds = record {
      free = λ about broken. holds_here (Unconfined 0) answer.says said (kept.free about) broken;
      each = λ n p e about broken. holds_here (Confined 0 n) answer.says said (kept.each n p e about) broken;
    }

pub clear_claims_hold : ClosedWords → ClearClaimsHold
clear_claims_hold closed first d limit ws head asked fs answer clear = claim_holds first d limit ws head asked fs answer clear closed

-- each whom a claim is about is one of the labels
about_label : (policies : List Policy) (ws : List ClaimWord) (l : Label) → IsAbout policies ws l → In l (labels_about ws (first_profiles policies))
about_label policies ws (Unconfined k) about =
    subst (λ (i : ℕ). In (Unconfined i) (labels_about ws (first_profiles policies))) (sym about.0) (free_in policies ws about.1)
about_label policies ws (Confined k n) about =
    subst (λ (i : ℕ). In (Confined i n) (labels_about ws (first_profiles policies))) (sym about.0)
    (about_in policies ws n about.1.0 about.1.1 about.1.2)

pub told_ways_break : ToldWaysBreak
told_ways_break first d limit ws head asked fs answer ls says l about rs comes sure nobody =
    let policies = d.decided.policies.now in
    let are = answer.are in
    let text = asked.text.items in
    let labels = labels_about ws (first_profiles policies) in
    let named : AreSaid policies ws (Reaches ls) = subst (AreSaid policies ws) says (are_said d ws head asked answer.says answer.is_asked) in
    let none = sym (ap (λ (x : AllFound). x.list) are.2) ∙ nobody in
    let rest = no_else (files_concerned ws d) (first_some (map (λ (x : AllFound). x.doubt) are.0)) (sym (ap (λ (x : AllFound). x.doubt) are.2) ∙ sure) in
    let t = each_looked first (IsFoundAt d limit answer.says text) labels are.0 are.1 none l (about_label policies ws l about) in
    let at : IsFoundOfPassage d limit l ls t.0 = subst (λ (a : Asked). IsFoundAt d limit a text l t.0) says t.1 in
    none_told d limit l t.0 (none_of (λ (x : AllFound). x.list) t.0 are.0 t.2 none) (sure_of t.0 are.0 t.2 rest.1) ls at.0 at.1 at.2 rs
    comes.counted comes.told (comes_way policies ws ls named l rs comes.comes)

pub claims_hold : EachDecides → ClosedWords → ClaimsHold
claims_hold each closed first d limit ws head asked fs read whole place w texts answer clear m q got about broken =
    let k = kept first d limit ws head asked fs answer clear in
    let each_kept = subst (λ (ps : List Policy). (i : ℕ) (p : Profile) → profile_in ps 0 i ≡ Some p → is_about ws p.name ≡ true
    → AreKept d (Confined 0 i) answer.says) w.one k.each in
    holds each d read whole place w closed ws answer.says (said first d limit ws head asked fs answer clear) k.unconcerned each_kept texts m q got about broken

pub free_claims_hold : EachDecides → ClosedWords → FreeClaimsHold
free_claims_hold each closed first d limit ws head asked fs read whole place w answer clear about broken =
    let k = kept first d limit ws head asked fs answer clear in
    says_hold each d read whole place w closed ws (Unconfined 0) answer.says (said first d limit ws head asked fs answer clear) (k.free about)
    (λ e. refl) broken

pub breakings_stand : EachDecides → BreakingsStand
breakings_stand each d read whole place w l r against none answered = stands each d read whole place w l r against none answered

pub endings_stand : EachDecides → EndingsStand
endings_stand each d read whole place w ws l r none ends = ends_there each d read whole place w ws l r (decided_by each d read whole place w l r none) ends

pub arrivals_stand : EachDecides → ArrivalsStand
arrivals_stand each d read whole place w ws l rs none c = comes each d read whole place w ws l rs none c

pub ways_stand : EachDecides → WaysStand
ways_stand each d read whole place w l rs none = ways each d read whole place w l rs none
