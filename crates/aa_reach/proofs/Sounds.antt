-- What is told of labels holds in the policy of all files.
use Rattle.std.proofs.Common.{◌≡◌, ℕ, zero, suc, List, [], ◌∷◌, ◌++◌, map, Bool, true, false, true≢false, cond, Option, Some, None, All}
use Rattle.std.proofs.Common.{Contains}
use Rattle.std.proofs.Common.{refl, sym, ap, ◌∙◌, subst, arith}
use Rattle.std.specs.Prelude.{◌||◌, ◌&&◌, ◌==◌, filter, flat_map, if◌then◌else◌}
use Rattle.std.specs.Option.{option_map_or}
use Rattle.std.specs.List.{list_any, slice_get}
use Rattle.std.proofs.lemmas.Option.{same_Some, slice_get_within}
use Rattle.std.proofs.lemmas.List.Elements.{All-head, All-tail, All-push, All-nil, All-cons}
use Rattle.std.proofs.lemmas.Bool.{eqb-true, and_parts}
use Rattle.aa_model.specs.declared.policy.Policy.{Policy}
use Rattle.aa_model.specs.declared.policy.Profile.{Profile}
use Rattle.aa_model.specs.declared.label.Label.{Label}
use Rattle.aa_model.specs.declared.request.Request.{Request}
use Rattle.aa_model.specs.declared.answer.Answer.{Answer}
use Rattle.aa_mediate.specs.Reply.{reply}
use Rattle.aa_command.specs.declared.decided.Decided.{Decided}
use Rattle.aa_skipping.specs.declared.unread.Unread.{Unread}
use Rattle.aa_skipping.specs.Joined.{IsJoinedWith}
use Rattle.aa_skipping.specs.Laws.{moved, moved_answer}
use Rattle.aa_differences.specs.Openings.{ClosedLabels}
use Rattle.aa_skipped.specs.declared.skipped.Skipped.{Skipped}
use Rattle.aa_skipped.specs.Together.{together, one_decides, has_label, EachDecides}
use Rattle.aa_undecided.specs.Answers.{PlacedFile, placed}
use Rattle.aa_undecided.specs.Holding.{unreads, IsWhole}
use Rattle.aa_undecided.proofs.Sound.{has_some}
use Rattle.aa_representatives.specs.Askable.{IsAskable}
use Rattle.aa_reachability.specs.declared.trail.Arrival.{Arrival}
use Rattle.aa_reachability.specs.declared.reached.Untold.{Untold}
use Rattle.aa_model.specs.declared.label.Label.TheVariants.{Unconfined, Confined}
use Rattle.aa_ask.specs.Told.{is_same}
use Rattle.aa_reachability.specs.Moves.{is_by_complain, label_kept, label_going, is_left_out}
use Rattle.aa_reachability.specs.Reach.{IsOpen, PassBy, AreTold, led_by, way_at}
use Rattle.aa_reachability.specs.Beside.{is_doubted, label_decided, label_taken, HoldAlong, IsSure}
use Rattle.aa_reach.specs.Names.{Name, name_of}
use Rattle.aa_reach.specs.Doubts.{files_opening, is_opened_in, is_opened, IsShut, IsDecided, IsTaken, Doubted, doubted_if, doubted_at, opens, files_opening_in}
use Rattle.aa_reach.specs.Doubts.{doubted_of, is_reached_by, doubted_but}
use Rattle.aa_reach.specs.Routes.{Routed, Barred, barred_but, AreFound, IsSearched, AreRoutes}
use Rattle.aa_reach.specs.Holding.{label_there, IsSureThere, IsOneThere, AllCount, HoldsOf, HoldsThere, LabelsHold}
use Rattle.aa_reach.proofs.Shutting.{shut_decided}

-- ---- labels of which nothing is listed

kept_none : (b : Bool) (k : Skipped) (ks : List Skipped) → map placed (if b then k ∷ ks else ks) ≡ [] → (b ≡ false) × (map placed ks ≡ [])
kept_none true k ks e = absurd (cc e)
kept_none false k ks e = (refl, e)

none_kept : (profiles : List Profile) (l : Label) (skipped : List Skipped) → map placed (filter (opens profiles l) skipped) ≡ []
    → list_any (opens profiles l) skipped ≡ false
none_kept profiles l [] e = refl
none_kept profiles l (k ∷ ks) e =
    let h = kept_none (opens profiles l k) k (filter (opens profiles l) ks) e in
    ap (λ (b : Bool). b || list_any (opens profiles l) ks) h.0 ∙ none_kept profiles l ks h.1

none_if : (at : Name) (files : List PlacedFile) → doubted_if at files ≡ [] → files ≡ []
none_if at [] e = refl
none_if at (f ∷ fs) e = absurd (cc e)

-- a label that isn't listed is shut
unlisted_shut : (read : Policy) (skipped : List Skipped) (l : Label) → doubted_at (read ∷ []) skipped l ≡ [] → IsShut (read ∷ []) skipped l
unfolding files_opening is_opened
unlisted_shut read skipped l e = none_kept read.profiles l skipped (none_if (name_of (read ∷ []) l) (files_opening_in skipped l read) e)

front_none : {X : Type 0} (xs ys : List X) → xs ++ ys ≡ [] → (xs ≡ []) × (ys ≡ [])
front_none [] ys e = (refl, e)
front_none (x ∷ xs) ys e = absurd (cc e)

each_none : {X Y : Type 0} (f : X → List Y) (xs : List X) → flat_map f xs ≡ [] → (i : ℕ) (x : X) → slice_get xs i ≡ Some x → f x ≡ []
each_none f [] e i x at = absurd (omega (arith, slice_get_within [] i x at))
each_none f (y ∷ ys) e zero x at = subst (λ z. f z ≡ []) (same_Some y x at) (front_none (f y) (flat_map f ys) e).0
each_none f (y ∷ ys) e (suc i) x at = each_none f ys (front_none (f y) (flat_map f ys) e).1 i x at

-- ---- one request

kept_moved : (place : ℕ → ℕ) (b : Bool) (l m : Label) → cond b (moved place l) (moved place m) ≡ moved place (cond b l m)
kept_moved place true l m = refl
kept_moved place false l m = refl

going_moved : (place : ℕ → ℕ) (enforced : Bool) (l : Label) (a : Answer)
    → cond enforced (label_kept (moved place l) (moved_answer place a)) (moved_answer place a).label ≡ moved place (cond enforced (label_kept l a) a.label)
going_moved place true l a = kept_moved place (is_by_complain a) l a.label
going_moved place false l a = refl

module _ (each : EachDecides) (closed : ClosedLabels) (skipped : List Skipped) (read whole : Policy) (place : ℕ → ℕ) (file : Skipped)
    (files : List Skipped)
    (some : skipped ≡ file ∷ files) (joined : IsJoinedWith (together (unreads skipped)) read.profiles whole.profiles place) (clean enforced : Bool) where
  abbrev ps : List Policy
  ps = read ∷ []

  abbrev go : Label → Request → Label
  go = label_taken clean enforced ps (unreads skipped)

  abbrev there : Label → Request → Label
  there = label_going enforced (whole ∷ [])

  answers_moved : (l : Label) (r : Request) → IsDecided ps skipped l r → reply (whole ∷ []) (moved place l) r ≡ moved_answer place (reply ps l r)
  unfolding is_doubted
  answers_moved l r e =
      let no : one_decides read.profiles l r (unreads skipped) ≡ false = e in
      let has : has_label read.profiles l ≡ true =
      has_some read.profiles l r file files (subst (λ (ks : List Skipped). one_decides read.profiles l r (unreads ks) ≡ false) some no) in
      each (unreads skipped) read whole place joined l r has no

  taken_goes : (l : Label) (r : Request) → IsTaken clean ps skipped l r → go l r ≡ label_going enforced ps l r
  taken_goes l r e =
      ap (λ (b : Bool). cond b l (label_decided enforced ps (unreads skipped) l r)) e.1
      ∙ ap (λ (b : Bool). cond b l (label_going enforced ps l r)) e.0

  moved_goes : (l : Label) (r : Request) → IsTaken clean ps skipped l r → there (moved place l) r ≡ moved place (go l r)
  moved_goes l r e =
      ap (λ (a : Answer). cond enforced (label_kept (moved place l) a) a.label) (answers_moved l r e.0)
      ∙ going_moved place enforced l (reply ps l r)
      ∙ ap (moved place) (sym (taken_goes l r e))

  -- ---- requests one after another

  moved_leads : (rs : List Request) (l : Label) → HoldAlong go (IsTaken clean ps skipped) l rs
      → led_by there (moved place l) rs ≡ moved place (led_by go l rs)
  moved_leads [] l all = refl
  moved_leads (r ∷ rs) l all = ap (λ (m : Label). led_by there m rs) (moved_goes l r all.0) ∙ moved_leads rs (go l r) all.1

  led_more : (l : Label) (rs : List Request) (r : Request) → led_by go l (rs ++ r ∷ []) ≡ go (led_by go l rs) r
  led_more l [] r = refl
  led_more l (q ∷ rs) r = led_more (go l q) rs r

  pass_more : (Open : Label → Type 0) (l : Label) (rs : List Request) (r : Request) → PassBy go Open l rs → Open (led_by go l rs)
      → PassBy go Open l (rs ++ r ∷ [])
  pass_more Open l [] r pass one = (one, tt)
  pass_more Open l (q ∷ rs) r pass one = (pass.0, pass_more Open (go l q) rs r pass.1 one)

  module _ (untold : List Untold) (from : Label) (arrivals : List Arrival) (are : AreFound clean enforced ps skipped untold from arrivals) where
    abbrev Sure : Label → Type 0
    Sure = IsSure untold (IsShut ps skipped)

    abbrev Counts : Request → Type 0
    Counts r = is_left_out clean r ≡ false

    abbrev There : Label → Type 0
    There = IsSureThere ps skipped untold arrivals place

    pub reached_there : (i : ℕ) (a : Arrival) → slice_get arrivals i ≡ Some a
        → led_by there (moved place from) (way_at are.ways i) ≡ moved place a.label
    reached_there i a e =
        let it = are.each i a e in
        moved_leads (way_at are.ways i) from it.kept ∙ ap (moved place) it.leads

    goes_on : (rs pre : List Request) → AreTold go Sure from pre → All IsAskable rs → AllCount clean rs → PassBy there There (moved place (led_by go from pre)) rs
        → IsOneThere arrivals place (led_by there (moved place (led_by go from pre)) rs)
    goes_on [] pre told asked counts pass =
        let at = are.all pre told in
        (at.0, at.1, at.2, ap (moved place) (sym at.3))
    goes_on (r ∷ rs) pre told asked counts pass =
        let l : Label = led_by go from pre in
        let at = are.all pre told in
        let sure : Sure l = subst Sure at.3 (pass.0 at.0 at.1 at.2 (ap (moved place) (sym at.3))) in
        let taken : IsTaken clean ps skipped l r = (shut_decided closed ps skipped l sure.1 r, All-head Counts r rs counts) in
        let next : AreTold go Sure from (pre ++ r ∷ []) = record {
          asked = All-push IsAskable pre r told.asked (All-head IsAskable r rs asked);
          pass = pass_more Sure from pre r told.pass sure;
        } in
        let is : moved place (led_by go from (pre ++ r ∷ [])) ≡ there (moved place l) r =
        ap (moved place) (led_more from pre r) ∙ sym (moved_goes l r taken) in
        subst (λ (m : Label). IsOneThere arrivals place (led_by there m rs)) is
        (goes_on rs (pre ++ r ∷ []) next (All-tail IsAskable r rs asked) (All-tail Counts r rs counts) (subst (λ (m : Label). PassBy there There m rs) (sym is) pass.1))

    pub others_there : (rs : List Request) → AllCount clean rs → AreTold there There (moved place from) rs
        → IsOneThere arrivals place (led_by there (moved place from) rs)
    others_there rs counts told = goes_on rs [] (record { asked = All-nil IsAskable; pass = tt }) told.asked counts told.pass

    all_pass : ((m : Label) → There m) → (m : Label) (rs : List Request) → PassBy there There m rs
    all_pass sure m [] = tt
    all_pass sure m (r ∷ rs) = (sure m, all_pass sure (there m r) rs)

    pub all_there : untold ≡ [] → ((i : ℕ) (a : Arrival) → slice_get arrivals i ≡ Some a → doubted_of ps skipped a ≡ []) → (rs : List Request)
        → All IsAskable rs → AllCount clean rs → IsOneThere arrivals place (led_by there (moved place from) rs)
    all_there none unlisted rs asked counts =
        let sure : (m : Label) → There m = λ m i a e same. (
          subst (λ (us : List Untold). IsOpen us a.label) (sym none) (λ u c is. absurd (omega (arith, c.1))),
          unlisted_shut read skipped a.label (unlisted i a e),
        ) in
        others_there rs counts (record { asked = asked; pass = all_pass sure (moved place from) rs })

-- ---- what both searches find

none_barred : (ps : List Policy) (untold : List Untold) → flat_map (barred_but ps []) untold ≡ [] → untold ≡ []
none_barred ps [] none = refl
none_barred ps (u ∷ us) none = absurd (cc none)

same_label : (l m : Label) → is_same l m ≡ true → l ≡ m
same_label (Unconfined j) (Unconfined k) e = ap Unconfined (eqb-true j k e)
same_label (Unconfined j) (Confined k n) e = absurd (cc e)
same_label (Confined j m) (Unconfined k) e = absurd (cc e)
same_label (Confined j m) (Confined k n) e =
    let h = and_parts (j == k) (m == n) e in
    ap (λ (x : ℕ). Confined x m) (eqb-true j k h.0) ∙ ap (Confined k) (eqb-true m n h.1)

one_at : (l : Label) (arrivals : List Arrival) → is_reached_by arrivals l ≡ true → (i : ℕ) × (a : Arrival) × (slice_get arrivals i ≡ Some a) × (l ≡ a.label)
one_at l [] e = absurd (true≢false (sym e))
one_at l (a ∷ as') e = at (λ (f : is_reached_by as' l ≡ true). one_at l as' f) (is_same l a.label) refl e
  where
    at : (is_reached_by as' l ≡ true → (i : ℕ) × (b : Arrival) × (slice_get as' i ≡ Some b) × (l ≡ b.label)) → (b : Bool) → is_same l a.label ≡ b
        → (b || is_reached_by as' l) ≡ true → (i : ℕ) × (b : Arrival) × (slice_get (a ∷ as') i ≡ Some b) × (l ≡ b.label)
    at rest true is e = (0, a, refl, same_label l a.label is)
    at rest false is e = let f = rest e in (suc f.0, f.1, f.2, f.3)

-- a label that is listed by neither search isn't doubted
module _ (ps : List Policy) (skipped : List Skipped) (clean all : List Arrival) (none : flat_map (doubted_but ps skipped []) clean ≡ [])
    (no_more : flat_map (doubted_but ps skipped clean) all ≡ []) where
  clean_unlisted : (i : ℕ) (a : Arrival) → slice_get clean i ≡ Some a → doubted_of ps skipped a ≡ []
  clean_unlisted i a at = each_none (doubted_but ps skipped []) clean none i a at

  unlisted_by : (a : Arrival) (b : Bool) → is_reached_by clean a.label ≡ b → (if b then [] else doubted_of ps skipped a) ≡ [] → doubted_of ps skipped a ≡ []
  unlisted_by a false is e = e
  unlisted_by a true is e =
      let at = one_at a.label clean is in
      ap (λ (l : Label). doubted_at ps skipped l) at.3 ∙ clean_unlisted at.0 at.1 at.2

  all_unlisted : (i : ℕ) (a : Arrival) → slice_get all i ≡ Some a → doubted_of ps skipped a ≡ []
  all_unlisted i a at =
      unlisted_by a (is_reached_by clean a.label) refl (each_none (doubted_but ps skipped clean) all no_more i a at)

counted : {X : Type 0} (b : Bool) (xs : List X) → b ≡ true → (if b then xs else []) ≡ [] → xs ≡ []
counted true xs is e = e
counted false xs is e = absurd (true≢false (sym is))

neither : {X : Type 0} (b : Bool) (xs : List X) → (if b then xs else []) ≡ [] → (if b then [] else xs) ≡ [] → xs ≡ []
neither true xs e f = e
neither false xs e f = f

all_count : (rs : List Request) → AllCount false rs
all_count [] = All-nil (λ (r : Request). is_left_out false r ≡ false)
all_count (r ∷ rs) = All-cons (λ (q : Request). is_left_out false q ≡ false) r rs refl (all_count rs)

module _ (each : EachDecides) (closed : ClosedLabels) (skipped : List Skipped) (read whole : Policy) (place : ℕ → ℕ) (file : Skipped)
    (files : List Skipped) (some : skipped ≡ file ∷ files) (joined : IsJoinedWith (together (unreads skipped)) read.profiles whole.profiles place)
    (counts enforced : Bool) (limit : ℕ) (from : Label) (targets : Option (List Label)) (routes : List Routed) (bars : List Barred) (doubts : List Doubted)
    (apart : List Routed) (apart_bars : List Barred) (apart_doubts : List Doubted)
    (told : AreRoutes counts enforced (read ∷ []) skipped limit from targets routes bars doubts apart apart_bars apart_doubts) where
  holds_of : (clean : Bool) (s : IsSearched clean enforced (read ∷ []) skipped limit from)
      → HoldsOf clean enforced (read ∷ []) skipped whole place limit from s
  holds_of clean s = record {
    reached = reached_there each closed skipped read whole place file files some joined clean enforced s.untold from s.arrivals s.are;
    others = others_there each closed skipped read whole place file files some joined clean enforced s.untold from s.arrivals s.are;
  }

  bars_none : bars ≡ [] → (flat_map (barred_but (read ∷ []) []) told.clean.untold ≡ [])
      × ((if counts then flat_map (barred_but (read ∷ []) told.clean.untold) told.all.untold else []) ≡ [])
  bars_none none = front_none _ _ (sym told.bars_are ∙ none)

  doubts_none : doubts ≡ [] → (flat_map (doubted_but (read ∷ []) skipped []) told.clean.arrivals ≡ [])
      × ((if counts then flat_map (doubted_but (read ∷ []) skipped told.clean.arrivals) told.all.arrivals else []) ≡ [])
  doubts_none none = front_none _ _ (sym told.doubts_are ∙ none)

  clean_told : bars ≡ [] → told.clean.untold ≡ []
  clean_told no_bars = none_barred (read ∷ []) told.clean.untold (bars_none no_bars).0

  -- what the search over all paths leaves untold beyond the other, and at which of its labels something is undecided
  abbrev more_bars : List Barred
  more_bars = flat_map (barred_but (read ∷ []) told.clean.untold) told.all.untold

  abbrev more_doubts : List Doubted
  more_doubts = flat_map (doubted_but (read ∷ []) skipped told.clean.arrivals) told.all.arrivals

  all_told : bars ≡ [] → more_bars ≡ [] → told.all.untold ≡ []
  all_told no_bars no_more =
      none_barred (read ∷ []) told.all.untold
      (subst (λ (us : List Untold). flat_map (barred_but (read ∷ []) us) told.all.untold ≡ []) (clean_told no_bars) no_more)

  -- where neither is, no requests lead elsewhere
  every_there : bars ≡ [] → doubts ≡ [] → more_bars ≡ [] → more_doubts ≡ [] → (rs : List Request) → All IsAskable rs
      → IsOneThere told.all.arrivals place (label_there enforced whole (moved place from) rs)
  every_there no_bars no_doubts no_more none rs asked =
      all_there each closed skipped read whole place file files some joined false enforced told.all.untold from told.all.arrivals told.all.are
      (all_told no_bars no_more)
      (all_unlisted (read ∷ []) skipped told.clean.arrivals told.all.arrivals (doubts_none no_doubts).0 none)
      rs asked (all_count rs)

  hold_there : HoldsThere counts enforced (read ∷ []) skipped whole place limit from targets routes bars doubts apart apart_bars apart_doubts told
  hold_there = record {
    clean = holds_of true told.clean;
    all = holds_of false told.all;
    every_clean = λ no_bars no_doubts.
        all_there each closed skipped read whole place file files some joined true enforced told.clean.untold from told.clean.arrivals told.clean.are
        (clean_told no_bars) (each_none (doubted_but (read ∷ []) skipped []) told.clean.arrivals (doubts_none no_doubts).0);
    every = λ so no_bars no_doubts.
        every_there no_bars no_doubts (counted counts more_bars so (bars_none no_bars).1) (counted counts more_doubts so (doubts_none no_doubts).1);
    every_apart = λ no_bars no_doubts no_apart_bars no_apart_doubts.
        every_there no_bars no_doubts (neither counts more_bars (bars_none no_bars).1 (sym told.apart_bars_are ∙ no_apart_bars))
        (neither counts more_doubts (doubts_none no_doubts).1 (sym told.apart_doubts_are ∙ no_apart_doubts));
  }

pub labels_hold : EachDecides → ClosedLabels → LabelsHold
labels_hold each closed d skipped read whole place w =
    subst
    (λ (ps : List Policy). (counts enforced : Bool) (limit : ℕ) (from : Label) (targets : Option (List Label)) (routes : List Routed) (bars : List Barred)
    (doubts : List Doubted) (apart : List Routed) (apart_bars : List Barred) (apart_doubts : List Doubted)
    (told : AreRoutes counts enforced ps skipped limit from targets routes bars doubts apart apart_bars apart_doubts)
    → HoldsThere counts enforced ps skipped whole place limit from targets routes bars doubts apart apart_bars apart_doubts told)
    (sym w.one)
    (λ counts enforced limit from targets routes bars doubts apart apart_bars apart_doubts told.
    hold_there each closed skipped read whole place w.file w.files w.some w.joined counts enforced limit from targets routes bars doubts apart apart_bars
    apart_doubts told)
