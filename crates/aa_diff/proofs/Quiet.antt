-- Where nothing is told of somebody, both policies of all files answer alike.
use Rattle.std.proofs.Common.{◌≡◌, ℕ, zero, suc, ◌+◌, ◌<◌, ◌≤◌, ◌⊎◌, inl, inr, List, [], ◌∷◌, ◌++◌, length, map, get_or, Bool, true, false, true≢false, cond}
use Rattle.std.proofs.Common.{Option, Some, None, option_map, refl, sym, ap, subst, ◌∙◌, Contains, ⊎_elim, arith}
use Rattle.std.specs.Prelude.{not, ◌&&◌, ◌||◌, nat_lt, flat_map, filter, is_some, codes, if◌then◌else◌}
use Rattle.std.specs.Option.{option_map_or}
use Rattle.std.specs.Str.{bytes_eq}
use Rattle.std.specs.List.{list_any, slice_get}
use Rattle.std.proofs.lemmas.Bool.{and_parts, lt-ltb, le-ltb}
use Rattle.std.proofs.lemmas.Option.{slice_get_cases, slice_get_within, slice_get_past, slice_get-get_or, same_Some, none-some}
use Rattle.std.proofs.lemmas.List.Quantifiers.{position-Some}
use Rattle.std.proofs.lemmas.List.Folds.{list_any-append}
use Rattle.std.proofs.lemmas.Slice.Eq.{bytes_eq-Decides}
use Rattle.aa_base.specs.declared.fault.Spot.{Spot}
use Rattle.aa_files.specs.Texts.{texts}
use Rattle.aa_model.specs.declared.policy.Policy.{Policy}
use Rattle.aa_model.specs.declared.policy.Profile.{Profile}
use Rattle.aa_model.specs.declared.label.Label.{Label}
use Rattle.aa_model.specs.declared.label.Label.TheVariants.{Unconfined, Confined}
use Rattle.aa_model.specs.declared.answer.Answer.{Answer}
use Rattle.aa_model.specs.declared.request.Request.{Request}
use Rattle.aa_compile.specs.FileRules.{is_nil}
use Rattle.aa_compile.specs.Labels.{label_name, profile_in, first_profiles}
use Rattle.aa_compile.specs.Transitions.{named}
use Rattle.aa_compile.proofs.ConflictLemmas.{got_in, in_head}
use Rattle.aa_mediate.specs.Reply.{reply}
use Rattle.aa_representatives.specs.Askable.{IsAskable}
use Rattle.aa_skipping.specs.declared.unread.Head.{Head}
use Rattle.aa_skipping.specs.declared.unread.Unread.{Unread}
use Rattle.aa_skipping.specs.Joined.{moved_profile, IsUnreadTop, IsUnreadChild, IsJoinedWith}
use Rattle.aa_skipping.specs.Names.{is_of, may_be_unread, is_doubtful}
use Rattle.aa_skipping.specs.Undecided.{undecided}
use Rattle.aa_skipping.specs.Laws.{moved, moved_answer, NamesStand}
use Rattle.aa_skipping.proofs.Elements.{none_in, flat_map_in}
use Rattle.aa_skipped.specs.declared.skipped.Skipped.{Skipped}
use Rattle.aa_skipped.specs.Together.{together, one_decides, has_label, EachDecides}
use Rattle.aa_skipped.proofs.Each.{head_each}
use Rattle.aa_undecided.specs.Answers.{PlacedFile, placed, files_deciding}
use Rattle.aa_undecided.specs.Holding.{unreads}
use Rattle.aa_undecided.proofs.Sound.{none_such}
use Rattle.aa_differences.specs.declared.at_labels.Difference.{Difference}
use Rattle.aa_differences.specs.Same.{name_of, SameLabel, SameAnswer, AnsweredAlike}
use Rattle.aa_differences.specs.declared.comparison.UntoldLabels.{UntoldLabels}
use Rattle.aa_differences.specs.Differences.{IsEntryOf, AreTold}
use Rattle.aa_differences.specs.Openings.{is_open_label, ClosedLabels}
use Rattle.aa_differences.proofs.Pairing.{named_is}
use Rattle.aa_passed_over.specs.declared.apart.Side.{Side}
use Rattle.aa_passed_over.specs.declared.apart.Side.TheVariants.{Old, New}
use Rattle.aa_passed_over.specs.Apart.{number_named}
use Rattle.aa_diff.specs.declared.options.Wanted.{Wanted}
use Rattle.aa_diff.specs.declared.part.Part.{Part}
use Rattle.aa_diff.specs.declared.finding.Finding.{Finding}
use Rattle.aa_diff.specs.Changes.{is_same}
use Rattle.aa_diff.specs.Gathered.{is_part, is_as_well}
use Rattle.aa_diff.specs.Signs.{sign_of}
use Rattle.aa_diff.specs.Named.{is_named}
use Rattle.aa_diff.specs.Telling.{IsTold, Itself, ByPart, LinesTellEntries}
use Rattle.aa_diff.specs.Untold.{About, Free, Named, Others, Untold, is_shown, is_some_file, untold_if, files_opening, undecided_at, undecided_by, undecided_of, all_undecided, untold_of, untold_head}
use Rattle.aa_diff.specs.Untold.{untold_others, untold_file, untold_missing, all_not_compared, is_decided, decided_if, decided_of, Large, about_label, large_at, large_of, all_large}
use Rattle.aa_unclean_paths.specs.Requests.{is_at_unclean_path, does_request_count}
use Rattle.aa_diff.specs.Holding.{DoesCount, called_at, is_nobody, names, is_free, covers_name, is_untold, is_large, is_free_large, is_apart, lines_told, IsQuiet, IsQuietFree, AreBeside}
use Rattle.aa_diff.specs.Holding.{ProfilesHold, FreeHold}
use Rattle.aa_diff.proofs.Telling.{label_same}
use Rattle.aa_diff.proofs.Counting.{part_unclean, counts_too}

-- ---- tests of lists

-- what fails of each fails of the others too
none_more : (f g : Unread → Bool) → ((u : Unread) → f u ≡ false → g u ≡ false) → (us : List Unread) → list_any f us ≡ false → list_any g us ≡ false
none_more f g more [] e = e
none_more f g more (u ∷ us) e = at (f u) (g u) (more u) (none_more f g more us) e
  where
    at : (a b : Bool) → (a ≡ false → b ≡ false) → (list_any f us ≡ false → list_any g us ≡ false) → (a || list_any f us) ≡ false → (b || list_any g us) ≡ false
    at true b h rest n = absurd (true≢false n)
    at false b h rest n = ap (λ (c : Bool). c || list_any g us) (h refl) ∙ rest n

-- where no file is such, none is found
such_none : (p : Unread → Bool) (skipped : List Skipped) → list_any p (unreads skipped) ≡ false
    → map placed (filter (λ (x : Skipped). p x.unread) skipped) ≡ []
such_none p [] e = refl
such_none p (x ∷ xs) e = at (such_none p xs) (p x.unread) refl e
  where
    at : (list_any p (unreads xs) ≡ false → map placed (filter (λ (y : Skipped). p y.unread) xs) ≡ []) → (b : Bool) → p x.unread ≡ b
        → (b || list_any p (unreads xs)) ≡ false
        → map placed (cond b (x ∷ filter (λ (y : Skipped). p y.unread) xs) (filter (λ (y : Skipped). p y.unread) xs)) ≡ []
    at rest true f n = absurd (true≢false n)
    at rest false f n = rest n

or_none : (a b : Bool) → (a || b) ≡ false → (a ≡ false) × (b ≡ false)
or_none true b e = absurd (true≢false e)
or_none false b e = (refl, e)

-- where none of two lists joined passes, none of either does
append_none : {X : Type 0} (f : X → Bool) (xs ys : List X) → list_any f (xs ++ ys) ≡ false → (list_any f xs ≡ false) × (list_any f ys ≡ false)
append_none f xs ys e = or_none (list_any f xs) (list_any f ys) (sym (list_any-append f xs ys) ∙ e)

module _ {X Y : Type 0} (f : Y → Bool) (g : X → List Y) where
  flat_each : (xs : List X) → list_any f (flat_map g xs) ≡ false → list_any (λ (x : X). list_any f (g x)) xs ≡ false
  flat_each [] e = e
  flat_each (x ∷ xs) e =
      let t = append_none f (g x) (flat_map g xs) e in
      ap (λ (b : Bool). b || list_any (λ (y : X). list_any f (g y)) xs) t.0 ∙ flat_each xs t.1

  flat_none : (xs : List X) (x : X) → Contains xs x → list_any f (flat_map g xs) ≡ false → list_any f (g x) ≡ false
  flat_none xs x c e = none_in (λ (y : X). list_any f (g y)) xs (flat_each xs e) x c

both_nil : (fs gs : List PlacedFile) → not (is_nil fs && is_nil gs) ≡ false → (fs ≡ []) × (gs ≡ [])
both_nil [] [] e = (refl, refl)
both_nil [] (g ∷ gs) e = absurd (true≢false e)
both_nil (f ∷ fs) gs e = absurd (true≢false e)

-- the name of a profile that is there
name_there : (ps : List Policy) (k n : ℕ) (p : Profile) → profile_in ps k n ≡ Some p → label_name ps (Confined k n) ≡ p.name
unfolding label_name
name_there ps k n p there = ap (λ (o : Option Profile). option_map_or (λ (x : Profile). x.name) o []) there

-- ---- what is told of nobody

module _ (w : Wanted) (all : texts w.profiles.now ≡ []) where
  shows : (who : About) → is_shown w who ≡ true
  shows Free = ap (λ (ns : List (List ℕ)). is_named ns (codes "unconfined")) all
  shows (Named name) = ap (λ (ns : List (List ℕ)). is_named ns name) all
  shows Others = refl

  -- where such an entry isn't there, no file could tell
  none_told : (f : Untold → Bool) (who : About) (old new : List PlacedFile) → f (record { who = who; old = old; new = new }) ≡ true
      → list_any f (untold_if w who old new) ≡ false → (old ≡ []) × (new ≡ [])
  none_told f who old new is none = at (is_shown w who) (is_some_file old new) refl refl (shows who)
    where
      at : (a b : Bool) → is_shown w who ≡ a → is_some_file old new ≡ b → is_shown w who ≡ true → (old ≡ []) × (new ≡ [])
      at a false e g shown = both_nil old new g
      at a true e g shown =
          let test : (is_shown w who && is_some_file old new) ≡ true = ap (λ (c : Bool). c && is_some_file old new) shown ∙ g in
          let listed = ap (λ (c : Bool). list_any f (cond c (record { who = who; old = old; new = new } ∷ []) [])) test in
          absurd (true≢false (ap (λ (c : Bool). c || false) (sym is) ∙ (sym listed ∙ none)))

  -- ---- labels whose patterns aren't too many

  told_at : (f : Large → Bool) (ps : List Policy) (limit : ℕ) (ls : List UntoldLabels) (l m : Label)
      → ((u : UntoldLabels) → u.from ≡ l → f (large_at ps limit u) ≡ true) → list_any f (all_large w ps limit ls) ≡ false → AreTold ls l m
  told_at f ps limit ls l m is none u c from to =
      let own = flat_none f (large_of w ps limit) ls u c none in
      let listed = ap (λ (b : Bool). list_any f (cond b (large_at ps limit u ∷ []) [])) (shows (about_label ps u.from)) in
      true≢false (ap (λ (b : Bool). b || false) (sym (is u from)) ∙ (sym listed ∙ own))

  free_told : (ps : List Policy) (limit : ℕ) (ls : List UntoldLabels) (m : Label) → list_any is_free_large (all_large w ps limit ls) ≡ false → AreTold ls (Unconfined 0) m
  free_told ps limit ls m none = told_at is_free_large ps limit ls (Unconfined 0) m (λ u from. ap (λ (a : Label). is_nobody (about_label ps a)) from) none

  profile_told : (ps : List Policy) (limit : ℕ) (ls : List UntoldLabels) (n : ℕ) (p : Profile) (m : Label) (name : List ℕ) → profile_in ps 0 n ≡ Some p → p.name ≡ name
      → list_any (is_large name) (all_large w ps limit ls) ≡ false → AreTold ls (Confined 0 n) m
  profile_told ps limit ls n p m name there called none =
      told_at (is_large name) ps limit ls (Confined 0 n) m
      (λ u from. ap (λ (a : Label). names name (about_label ps a)) from ∙ (bytes_eq-Decides (label_name ps (Confined 0 n)) name).1 (name_there ps 0 n p there ∙ called)) none

  -- ---- labels at which nothing is undecided

  undecided_none : (f : Untold → Bool) (d e : Part) (who : About) (l m : Label) → ((old new : List PlacedFile) → f (record { who = who; old = old; new = new }) ≡ true)
      → list_any f (undecided_at w d e who l m) ≡ false → (files_opening d l ≡ []) × (files_opening e m ≡ [])
  undecided_none f d e who l m is none = none_told f who (files_opening d l) (files_opening e m) (is (files_opening d l) (files_opening e m)) none

  free_none : (d e : Part) → list_any is_free (all_undecided w d e) ≡ false → (files_opening d (Unconfined 0) ≡ []) × (files_opening e (Unconfined 0) ≡ [])
  free_none d e none =
      undecided_none is_free d e Free (Unconfined 0) (Unconfined 0) (λ old new. refl)
      (append_none is_free (undecided_at w d e Free (Unconfined 0) (Unconfined 0)) (flat_map (undecided_of w d e) (first_profiles d.decided.policies.now)) none).0

  -- a profile that both sides read
  profile_none : (d e : Part) (read other : Policy) → d.decided.policies.now ≡ read ∷ [] → e.decided.policies.now ≡ other ∷ [] → (name : List ℕ) (n m : ℕ) (p q : Profile)
      → slice_get read.profiles n ≡ Some p → p.name ≡ name → slice_get other.profiles m ≡ Some q → q.name ≡ name → list_any (is_untold name) (all_undecided w d e) ≡ false
      → (files_opening d (Confined 0 n) ≡ []) × (files_opening e (Confined 0 m) ≡ [])
  profile_none d e read other one two name n m p q got called there called' none =
      let rest = (append_none (is_untold name) (undecided_at w d e Free (Unconfined 0) (Unconfined 0)) (flat_map (undecided_of w d e) (first_profiles d.decided.policies.now)) none).1 in
      let among : Contains (first_profiles d.decided.policies.now) p = subst (λ (ps : List Policy). Contains (first_profiles ps) p) (sym one) (got_in read.profiles n p got) in
      let own = flat_none (is_untold name) (undecided_of w d e) (first_profiles d.decided.policies.now) p among rest in
      let first : number_named d.decided.policies.now p.name ≡ Some n = ap (λ (ps : List Policy). number_named ps p.name) one ∙ named_is read.profiles read.lawful.distinct n p got in
      let second : number_named e.decided.policies.now p.name ≡ Some m = ap (λ (ps : List Policy). number_named ps p.name) two
      ∙ (ap (named other.profiles) (called ∙ sym called') ∙ named_is other.profiles other.lawful.distinct m q there) in
      let by = subst (λ (o : Option ℕ). list_any (is_untold name) (undecided_by w d e p.name o (number_named e.decided.policies.now p.name)) ≡ false) first own in
      let at = subst (λ (o : Option ℕ). list_any (is_untold name) (undecided_by w d e p.name (Some n) o) ≡ false) second by in
      undecided_none (is_untold name) d e (Named p.name) (Confined 0 n) (Confined 0 m) (λ old new. (bytes_eq-Decides p.name name).1 called) at

  -- ---- names that are compared

  module _ (name : List ℕ) where
    one_none : (side : Side) (who : About) (k : Skipped) → covers_name name who ≡ true → list_any (is_apart name) (untold_of w who side (placed k ∷ [])) ≡ false → ⊥
    one_none Old who k is none = never_so (none_told (is_apart name) who (placed k ∷ []) [] is none).0
      where
        never_so : placed k ∷ [] ≡ [] → ⊥
        never_so e = cc
    one_none New who k is none = never_so (none_told (is_apart name) who [] (placed k ∷ []) is none).1
      where
        never_so : placed k ∷ [] ≡ [] → ⊥
        never_so e = cc

    heads_none : (side : Side) (k : Skipped) (hs : List Head) → list_any (is_apart name) (flat_map (untold_head w side k) hs) ≡ false → list_any (λ (h : Head). is_of h.name name) hs ≡ false
    heads_none side k [] e = refl
    heads_none side k (h ∷ hs) e =
        let t = append_none (is_apart name) (untold_head w side k h) (flat_map (untold_head w side k) hs) e in
        at (is_of h.name name) refl (one_none side (Named h.name) k) t.0 (heads_none side k hs t.1)
      where
        at : (b : Bool) → is_of h.name name ≡ b → (is_of h.name name ≡ true → list_any (is_apart name) (untold_head w side k h) ≡ false → ⊥) → list_any (is_apart name) (untold_head w side k h) ≡ false
            → list_any (λ (x : Head). is_of x.name name) hs ≡ false → (is_of h.name name || list_any (λ (x : Head). is_of x.name name) hs) ≡ false
        at true f never_so none rest = absurd (never_so f none)
        at false f never_so none rest = ap (λ (b : Bool). b || list_any (λ (x : Head). is_of x.name name) hs) f ∙ rest

    file_none : (side : Side) (k : Skipped) → list_any (is_apart name) (untold_file w side k) ≡ false → may_be_unread k.unread name ≡ false
    file_none side k e =
        let t = append_none (is_apart name) (flat_map (untold_head w side k) k.unread.heads) (untold_others w side k) e in
        at k.unread.others refl t.1 (heads_none side k k.unread.heads t.0)
      where
        at : (b : Bool) → k.unread.others ≡ b → list_any (is_apart name) (untold_others w side k) ≡ false → list_any (λ (h : Head). is_of h.name name) k.unread.heads ≡ false → may_be_unread k.unread name ≡ false
        at true f none rest =
            let listed = ap (λ (b : Bool). list_any (is_apart name) (cond b (untold_of w Others side (placed k ∷ [])) [])) f in
            absurd (one_none side Others k refl (sym listed ∙ none))
        at false f none rest = ap (λ (b : Bool). b || list_any (λ (h : Head). is_of h.name name) k.unread.heads) f ∙ rest

    files_none : (side : Side) (ks : List Skipped) → list_any (is_apart name) (flat_map (untold_file w side) ks) ≡ false → list_any (λ (u : Unread). may_be_unread u name) (unreads ks) ≡ false
    files_none side [] e = refl
    files_none side (k ∷ ks) e =
        let t = append_none (is_apart name) (untold_file w side k) (flat_map (untold_file w side) ks) e in
        ap (λ (b : Bool). b || list_any (λ (u : Unread). may_be_unread u name) (unreads ks)) (file_none side k t.0) ∙ files_none side ks t.1

    -- no profile of skipped files of either side has the name
    none_apart : (d e : Part) → list_any (is_apart name) (all_not_compared w d e) ≡ false
        → (may_be_unread (together (unreads d.skipped.now)) name ≡ false) × (may_be_unread (together (unreads e.skipped.now)) name ≡ false)
    none_apart d e none =
        let old = flat_map (untold_file w Old) d.skipped.now in
        let new = flat_map (untold_file w New) e.skipped.now in
        let missing = flat_map (untold_missing w New e) (first_profiles d.decided.policies.now) in
        let more = flat_map (untold_missing w Old d) (first_profiles e.decided.policies.now) in
        let r = append_none (is_apart name) (old ++ new ++ missing) more none in
        let q = append_none (is_apart name) (old ++ new) missing r.0 in
        let t = append_none (is_apart name) old new q.0 in (
          head_each (λ (h : Head). is_of h.name name) (unreads d.skipped.now) ∙ files_none Old d.skipped.now t.0,
          head_each (λ (h : Head). is_of h.name name) (unreads e.skipped.now) ∙ files_none New e.skipped.now t.1,
        )

-- ---- places of labels that aren't there

-- the place, where there is one, and else a number behind all
abbrev pinned : ℕ → ℕ → (ℕ → ℕ) → ℕ → ℕ
pinned count total place n = if nat_lt n count then place n else total + n

pinned_is : (count total : ℕ) (place : ℕ → ℕ) (n : ℕ) → n < count → pinned count total place n ≡ place n
pinned_is count total place n lt = ap (λ (b : Bool). cond b (place n) (total + n)) (lt-ltb n count lt)

pinned_past : (count total : ℕ) (place : ℕ → ℕ) (n : ℕ) → count ≤ n → pinned count total place n ≡ total + n
pinned_past count total place n le = ap (λ (b : Bool). cond b (place n) (total + n)) (le-ltb n count le)

module _ (unread : Unread) (read whole : Policy) (place : ℕ → ℕ) (j : IsJoinedWith unread read.profiles whole.profiles place) where
  abbrev at : ℕ → ℕ
  at = pinned (length read.profiles) (length whole.profiles) place

  parent_pinned : (n : ℕ) (p : Profile) → slice_get read.profiles n ≡ Some p → (o : Option ℕ) → p.parent ≡ o → option_map place o ≡ option_map at o
  parent_pinned n p got None e = refl
  parent_pinned n p got (Some k) e =
      let before = read.lawful.parents n k p got e in
      let within = slice_get_within read.profiles n p got in
      ap Some (sym (pinned_is (length read.profiles) (length whole.profiles) place k (omega (arith, before.0, within))))

  moved_pinned : (n : ℕ) (p : Profile) → slice_get read.profiles n ≡ Some p → (spot : Spot) → moved_profile place spot p ≡ moved_profile at spot p
  moved_pinned n p got spot = ap (λ (o : Option ℕ). record p { at = spot; parent = o }) (parent_pinned n p got p.parent refl)

  child_pinned : (q : Profile) → IsUnreadChild unread (length read.profiles) whole.profiles place q → IsUnreadChild unread (length read.profiles) whole.profiles at q
  child_pinned q c = record {
    number = c.number;
    parent = c.parent;
    name = c.name;
    below = c.below;
    stands = c.stands;
    not_read = λ n lt e. c.not_read n lt (sym (pinned_is (length read.profiles) (length whole.profiles) place n lt) ∙ e);
    unread_too = c.unread_too;
    called = c.called;
  }

  -- the policies are joined by these places too
  joined_pinned : IsJoinedWith unread read.profiles whole.profiles at
  joined_pinned = record {
    kept = λ n p got. let k = j.kept n p got in
        (k.0, ap (slice_get whole.profiles) (pinned_is (length read.profiles) (length whole.profiles) place n (slice_get_within read.profiles n p got)) ∙ (k.1 ∙ ap Some (moved_pinned n p got k.0)));
    added = λ m q got. ⊎_elim
        (λ (old : (n : ℕ) × (n < length read.profiles) × (place n ≡ m)). inl (old.0, old.1, pinned_is (length read.profiles) (length whole.profiles) place old.0 old.1 ∙ old.2))
        (λ (new : IsUnreadTop unread q ⊎ IsUnreadChild unread (length read.profiles) whole.profiles place q).
        ⊎_elim (λ (top : IsUnreadTop unread q). inr (inl top)) (λ (child : IsUnreadChild unread (length read.profiles) whole.profiles place q). inr (inr (child_pinned q child))) new)
        (j.added m q got);
  }

  -- a label has its name there, or neither has one
  name_pinned : (k n : ℕ) → name_of (profile_in (whole ∷ []) k (at n)) ≡ name_of (profile_in (read ∷ []) k n)
  name_pinned zero n =
      ⊎_elim
      (λ (here : (x : Profile) × (n < length read.profiles) × (slice_get read.profiles n ≡ Some x) × (get_or read.profiles n x ≡ x)).
      ap name_of ((joined_pinned.kept n here.0 here.2).1) ∙ ap name_of (sym here.2))
      (λ (none : (length read.profiles ≤ n) × (slice_get read.profiles n ≡ None)).
      ap name_of (slice_get_past whole.profiles (at n) (past none.0)) ∙ ap name_of (sym none.1))
      (slice_get_cases read.profiles n).1
    where
      past : length read.profiles ≤ n → length whole.profiles ≤ at n
      past le = subst (λ (i : ℕ). length whole.profiles ≤ i) (sym (pinned_past (length read.profiles) (length whole.profiles) place n le)) (omega arith)
  name_pinned (suc k) n = refl

-- ---- profiles that no skipped file may hold

-- such a profile of a policy of all files is one that is read
found : NamesStand → (u : Unread) (own all : Policy) (at : ℕ → ℕ) → IsJoinedWith u own.profiles all.profiles at → (name : List ℕ) (m : ℕ) (p : Profile)
    → slice_get all.profiles m ≡ Some p → p.name ≡ name → may_be_unread u name ≡ false
    → (n : ℕ) × (q : Profile) × (slice_get own.profiles n ≡ Some q) × (q.name ≡ name) × (at n ≡ m)
found stand u own all at j name m p got called never_so =
    by (named own.profiles name) refl (sym (stand u own all at j name sure) ∙ (ap (named all.profiles) (sym called) ∙ named_is all.profiles all.lawful.distinct m p got))
  where
    never : (b : Bool) → (b && false) ≡ false
    never true = refl
    never false = refl

    sure : is_doubtful own.profiles u name ≡ false
    sure = ap (λ (b : Bool). not (is_some (named own.profiles name)) && b) never_so ∙ never (not (is_some (named own.profiles name)))

    by : (o : Option ℕ) → named own.profiles name ≡ o → option_map at (named own.profiles name) ≡ Some m
        → (n : ℕ) × (q : Profile) × (slice_get own.profiles n ≡ Some q) × (q.name ≡ name) × (at n ≡ m)
    by None none e = absurd (none-some m (ap (option_map at) (sym none) ∙ e))
    by (Some n) some e =
        let x = position-Some (λ (q : Profile). bytes_eq name q.name) own.profiles n p some in (
          n,
          get_or own.profiles n p,
          slice_get-get_or own.profiles n p x.0,
          sym ((bytes_eq-Decides name (get_or own.profiles n p).name).0 x.1),
          same_Some (at n) m (ap (option_map at) (sym some) ∙ e),
        )

-- ---- replies

module _ (unread unread' : Unread) (read whole read' whole' : Policy) (place place' : ℕ → ℕ)
    (j : IsJoinedWith unread read.profiles whole.profiles place) (k : IsJoinedWith unread' read'.profiles whole'.profiles place') where
  abbrev f : ℕ → ℕ
  f = pinned (length read.profiles) (length whole.profiles) place

  abbrev g : ℕ → ℕ
  g = pinned (length read'.profiles) (length whole'.profiles) place'

  label_moved : (l m : Label) → SameLabel (read ∷ []) (read' ∷ []) l m → SameLabel (whole ∷ []) (whole' ∷ []) (moved f l) (moved g m)
  label_moved (Unconfined a) (Unconfined b) same = same
  label_moved (Confined a n) (Confined b m) same =
      (same.0, name_pinned unread read whole place j a n ∙ (same.1 ∙ sym (name_pinned unread' read' whole' place' k b m)))
  label_moved (Unconfined a) (Confined b m) same = absurd same
  label_moved (Confined a n) (Unconfined b) same = absurd same

  answer_moved : (a b : Answer) → SameAnswer (read ∷ []) (read' ∷ []) a b → SameAnswer (whole ∷ []) (whole' ∷ []) (moved_answer f a) (moved_answer g b)
  answer_moved a b same = record { granted = same.granted; scrub = same.scrub; note = same.note; label = label_moved a.label b.label same.label }

-- ---- together

module _ (stand : NamesStand) (each : EachDecides) (closed : ClosedLabels) where
  -- a label that no file could change anything at
  module _ (d : Part) (read : Policy) (one : d.decided.policies.now ≡ read ∷ []) (l : Label) (none : files_opening d l ≡ []) where
    shut : list_any (λ (u : Unread). is_open_label read.profiles u l) (unreads d.skipped.now) ≡ false
    unfolding files_opening
    shut = none_such (λ (u : Unread). is_open_label read.profiles u l) d.skipped.now
        (subst (λ (ps : List Policy). option_map_or (λ (p : Policy). map placed (filter (λ (x : Skipped). is_open_label p.profiles x.unread l) d.skipped.now)) (slice_get ps 0) [] ≡ []) one none)

    sure : (r : Request) → one_decides read.profiles l r (unreads d.skipped.now) ≡ false
    sure r = none_more (λ (u : Unread). is_open_label read.profiles u l) (λ (u : Unread). undecided read.profiles u l r) (λ u e. closed read.profiles u l e r) (unreads d.skipped.now) shut

    deciding_none : (r : Request) → files_deciding d.decided.policies.now d.skipped.now l r ≡ []
    unfolding files_deciding
    deciding_none r = subst (λ (ps : List Policy). files_deciding ps d.skipped.now l r ≡ []) (sym one) (such_none (λ (u : Unread). undecided read.profiles u l r) d.skipped.now (sure r))

  module _ (lines : LinesTellEntries) (w : Wanted) (limit : ℕ) (d e : Part) (xs : List Difference) (ls : List UntoldLabels) (read whole read' whole' : Policy) (place place' : ℕ → ℕ)
      (b : AreBeside w d e xs ls read whole read' whole' place place') where
    abbrev us : List Unread
    us = unreads d.skipped.now

    abbrev vs : List Unread
    vs = unreads e.skipped.now

    abbrev f' : ℕ → ℕ
    f' = pinned (length read.profiles) (length whole.profiles) place

    abbrev g' : ℕ → ℕ
    g' = pinned (length read'.profiles) (length whole'.profiles) place'

    -- one of the lines is at the label of a difference that no file could decide, and at an unclean path only where that is
    line_of : (x : Difference) → Contains (decided_of d e xs) x
        → (f : Finding) × Contains (lines_told d e xs) f × (f.from ≡ x.from) × (is_at_unclean_path f.request ≡ true → is_at_unclean_path x.request ≡ true)
    line_of x c = by ((lines.lines d.decided e.decided (decided_of d e xs)).told x c)
      where
        by : IsTold d.decided e.decided (decided_of d e xs) (lines_told d e xs) x
            → (f : Finding) × Contains (lines_told d e xs) f × (f.from ≡ x.from) × (is_at_unclean_path f.request ≡ true → is_at_unclean_path x.request ≡ true)
        by (Itself t) = (t.0, t.1, t.2.label, t.2.clean)
        by (ByPart y among covered t) =
            let signs = and_parts (is_same y.from x.from && is_part y.request x.request)
            (is_as_well (sign_of d.decided.policies.now e.decided.policies.now y) (sign_of d.decided.policies.now e.decided.policies.now x)) covered in
            let part = and_parts (is_same y.from x.from) (is_part y.request x.request) signs.0 in
            (t.0, t.1, t.2.label ∙ label_same y.from x.from part.0, λ u. part_unclean y.request x.request part.1 (t.2.clean u))

    -- at labels at which nothing is undecided and no line that counts is
    quiet_at : (unclean : Bool) (l m : Label) → has_label read.profiles l ≡ true → has_label read'.profiles m ≡ true → SameLabel d.decided.policies.now e.decided.policies.now l m
        → AreTold ls l m → files_opening d l ≡ [] → files_opening e m ≡ [] → ((f : Finding) → Contains (lines_told d e xs) f → DoesCount unclean f → f.from ≡ l → ⊥) → (r : Request) → IsAskable r
        → does_request_count unclean r ≡ true
        → AnsweredAlike (whole ∷ []) (whole' ∷ []) (moved f' l) (moved g' m) r
    quiet_at unclean l m here there same told none none' never_so r askable counts =
        ⊎_elim
        (λ (alike : AnsweredAlike d.decided.policies.now e.decided.policies.now l m r). stands (subst (λ (qs : List Policy). AnsweredAlike (read ∷ []) qs l m r) b.new.one
        (subst (λ (ps : List Policy). AnsweredAlike ps e.decided.policies.now l m r) b.old.one alike)))
        (λ (entry : (x : Difference) × Contains xs x × IsEntryOf d.decided.policies.now e.decided.policies.now l m r x). absurd (listed entry.0 entry.1 entry.2))
        (b.listed l m same told r askable)
      where
        stands : AnsweredAlike (read ∷ []) (read' ∷ []) l m r → AnsweredAlike (whole ∷ []) (whole' ∷ []) (moved f' l) (moved g' m) r
        stands alike =
            let j = joined_pinned (together us) read whole place b.old.joined in
            let k = joined_pinned (together vs) read' whole' place' b.new.joined in
            let old = each us read whole f' j l r here (sure d read b.old.one l none r) in
            let new = each vs read' whole' g' k m r there (sure e read' b.new.one m none' r) in
            let moved_alike = answer_moved (together us) (together vs) read whole read' whole' place place' b.old.joined b.new.joined (reply (read ∷ []) l r) (reply (read' ∷ []) m r) alike in
            subst (λ (a : Answer). SameAnswer (whole ∷ []) (whole' ∷ []) a (reply (whole' ∷ []) (moved g' m) r)) (sym old)
            (subst (λ (a : Answer). SameAnswer (whole ∷ []) (whole' ∷ []) (moved_answer f' (reply (read ∷ []) l r)) a) (sym new) moved_alike)

        listed : (x : Difference) → Contains xs x → IsEntryOf d.decided.policies.now e.decided.policies.now l m r x → ⊥
        listed x c is =
            let first = deciding_none d read b.old.one l none x.request in
            let second = deciding_none e read' b.new.one m none' x.request in
            let decided : is_decided d e x ≡ true =
            ap (λ (fs : List PlacedFile). is_nil fs && is_nil (files_deciding e.decided.policies.now e.skipped.now x.to x.request))
            (ap (λ (a : Label). files_deciding d.decided.policies.now d.skipped.now a x.request) is.from ∙ first)
            ∙ ap is_nil (ap (λ (a : Label). files_deciding e.decided.policies.now e.skipped.now a x.request) is.to ∙ second) in
            let line = line_of x (flat_map_in (decided_if d e) xs x x c (subst (λ (own : Bool). Contains (cond own (x ∷ []) []) x) (sym decided) (in_head x []))) in
            never_so line.0 line.1 (counts_too unclean line.0.request x.request r line.3 is.clean counts) (line.2 ∙ is.from)

    free_quiet : (unclean : Bool) → IsQuietFree unclean w limit d e xs ls → (r : Request) → IsAskable r → does_request_count unclean r ≡ true → AnsweredAlike (whole ∷ []) (whole' ∷ []) (Unconfined 0) (Unconfined 0) r
    free_quiet unclean quiet r askable counts =
        let none = free_none w b.all d e quiet.decided in
        let told = free_told w b.all d.decided.policies.now limit ls (Unconfined 0) quiet.small in
        quiet_at unclean (Unconfined 0) (Unconfined 0) refl refl refl told none.0 none.1 quiet.lines r askable counts

    profile_quiet : (unclean : Bool) (name : List ℕ) → IsQuiet unclean w limit d e xs ls name → (m n : ℕ) (p q : Profile) → slice_get whole.profiles m ≡ Some p
        → p.name ≡ name → slice_get whole'.profiles n ≡ Some q → q.name ≡ name
        → (r : Request) → IsAskable r → does_request_count unclean r ≡ true → AnsweredAlike (whole ∷ []) (whole' ∷ []) (Confined 0 m) (Confined 0 n) r
    profile_quiet unclean name quiet m n p q got called got' called' r askable counts =
        let apart = none_apart w b.all name d e quiet.compared in
        let old = found stand (together us) read whole place b.old.joined name m p got called apart.0 in
        let new = found stand (together vs) read' whole' place' b.new.joined name n q got' called' apart.1 in
        let none = profile_none w b.all d e read read' b.old.one b.new.one name old.0 new.0 old.1 new.1 old.2 old.3 new.2 new.3 quiet.decided in
        let there : profile_in d.decided.policies.now 0 old.0 ≡ Some old.1 = ap (λ (ps : List Policy). profile_in ps 0 old.0) b.old.one ∙ old.2 in
        let there' : profile_in e.decided.policies.now 0 new.0 ≡ Some new.1 = ap (λ (ps : List Policy). profile_in ps 0 new.0) b.new.one ∙ new.2 in
        let same : SameLabel d.decided.policies.now e.decided.policies.now (Confined 0 old.0) (Confined 0 new.0) =
        (refl, ap name_of there ∙ (ap Some (old.3 ∙ sym new.3) ∙ sym (ap name_of there'))) in
        let told = profile_told w b.all d.decided.policies.now limit ls old.0 old.1 (Confined 0 new.0) name there old.3 quiet.small in
        let alike = quiet_at unclean (Confined 0 old.0) (Confined 0 new.0) (held read.profiles old.0 old.1 old.2) (held read'.profiles new.0 new.1 new.2) same told none.0 none.1
        (λ f c own at. quiet.lines f c own (ap (called_at d.decided.policies.now) at ∙ (ap name_of there ∙ ap Some old.3))) r askable counts in
        let first : f' old.0 ≡ m = pinned_is (length read.profiles) (length whole.profiles) place old.0 (slice_get_within read.profiles old.0 old.1 old.2) ∙ old.4 in
        let second : g' new.0 ≡ n = pinned_is (length read'.profiles) (length whole'.profiles) place' new.0 (slice_get_within read'.profiles new.0 new.1 new.2) ∙ new.4 in
        subst (λ (i : ℕ). AnsweredAlike (whole ∷ []) (whole' ∷ []) (Confined 0 m) (Confined 0 i) r) second
        (subst (λ (i : ℕ). AnsweredAlike (whole ∷ []) (whole' ∷ []) (Confined 0 i) (Confined 0 (g' new.0)) r) first alike)
      where
        held : (ps : List Profile) (k : ℕ) (x : Profile) → slice_get ps k ≡ Some x → has_label ps (Confined 0 k) ≡ true
        held ps k x e = ap (λ (o : Option Profile). is_some o) e

pub profiles_hold : NamesStand → EachDecides → ClosedLabels → LinesTellEntries → ProfilesHold
profiles_hold stand each closed lines unclean w limit d e xs ls read whole read' whole' place place' b name quiet m n p q got called got' called' r askable counts =
    profile_quiet stand each closed lines w limit d e xs ls read whole read' whole' place place' b unclean name quiet m n p q got called got' called' r askable counts

pub free_hold : NamesStand → EachDecides → ClosedLabels → LinesTellEntries → FreeHold
free_hold stand each closed lines unclean w limit d e xs ls read whole read' whole' place place' b quiet r askable counts =
    free_quiet stand each closed lines w limit d e xs ls read whole read' whole' place place' b unclean quiet r askable counts
