-- What is known of each label where a claim is clear.
use Rattle.std.proofs.Common.{◌≡◌, ℕ, zero, suc, ◌+◌, ◌⊎◌, inl, inr, ⊎_elim, List, [], ◌∷◌, ◌++◌, map, flat_map, Bool, true, false, true≢false, Option, Some}
use Rattle.std.proofs.Common.{None, refl, sym, ap, subst, ◌∙◌, arith}
use Rattle.std.specs.Prelude.{not, ◌&&◌, MatchBool, if◌then◌else◌}
use Rattle.std.specs.Option.{option_map_or}
use Rattle.std.specs.List.{slice_get}
use Rattle.std.proofs.lemmas.Option.{same_Some}
use Rattle.aa_model.specs.declared.policy.Policy.{Policy}
use Rattle.aa_model.specs.declared.policy.Profile.{Profile}
use Rattle.aa_model.specs.declared.label.Label.{Label}
use Rattle.aa_model.specs.declared.label.Label.TheVariants.{Unconfined, Confined}
use Rattle.aa_model.specs.declared.request.Request.{Request}
use Rattle.aa_compile.specs.FileRules.{is_nil}
use Rattle.aa_compile.specs.Labels.{profile_in, first_profiles}
use Rattle.aa_ask.specs.Verdicts.{profile_at}
use Rattle.aa_quantifiers.specs.declared.word.Word.{Word}
use Rattle.aa_quantifiers.specs.Words.{IsOf}
use Rattle.aa_quantifiers.specs.Quantities.{IsAnswered}
use Rattle.aa_quantifiers.specs.declared.aim.Labels.{Labels}
use Rattle.aa_skipped.specs.declared.skipped.Skipped.{Skipped}
use Rattle.aa_undecided.specs.Answers.{PlacedFile, placed, files_among, files_deciding}
use Rattle.aa_unclean_paths.specs.Requests.{does_request_count}
use Rattle.aa_reachability.specs.Reach.{AreTold}
use Rattle.aa_claims.specs.declared.words.ClaimWord.{ClaimWord}
use Rattle.aa_assert.specs.declared.passage.Passage.{Passage}
use Rattle.aa_assert.specs.declared.passage.Passage.TheVariants as passage
use Rattle.aa_assert.specs.declared.asked.Asked.{Asked}
use Rattle.aa_assert.specs.declared.asked.Asked.TheVariants.{Never, Leads, Always, Reaches, Enforced}
use Rattle.aa_assert.specs.declared.judging.Judgement.{Judgement}
use Rattle.aa_assert.specs.declared.judging.Judgement.TheVariants as is
use Rattle.aa_assert.specs.declared.part.Part.{Part}
use Rattle.aa_assert.specs.Enforced.{complains_at}
use Rattle.aa_assert.specs.Judging.{IsBroken, IsJudged}
use Rattle.aa_assert.specs.Leading.{IsLedTo}
use Rattle.aa_assert.specs.Passages.{going, do_count, IsWayTo, IsTellable, IsTellableWay, IsFirstWay, IsPassage, way_told}
use Rattle.aa_assert.specs.Scope.{is_about, is_about_free}
use Rattle.aa_assert.specs.Findings.{Found, AllFound, ByWay, Complaining, files_changing, or_else, told_unless, broken_if, judged_found, IsFoundOf}
use Rattle.aa_assert.specs.Findings.{files_on_way, by_way, by_unclean_way, passed_by, way_counts, passed_if, untold_past, passage_found, complaining_in, IsFoundAt, is_found, AreFoundAt, first_some, all_of}
use Rattle.aa_assert.specs.Findings.{labels_from, labels_about, files_concerned}
use Rattle.aa_assert.specs.Holding.{Counted, IsClear, IsAbout}
use Rattle.aa_assert.proofs.Counted.{uncounted_too, none_counted}
use Rattle.aa_assert.proofs.Looking.{numbered}
use Rattle.aa_assert.proofs.Passing.{tellable_all}

-- ---- lists

-- the element is one of the list's
abbrev pub In : {X : Type 0} → X → List X → Type 0
In x [] = ⊥
In x (y ∷ ys) = (y ≡ x) ⊎ In x ys

pub in_left : {X : Type 0} (x : X) (xs ys : List X) → In x xs → In x (xs ++ ys)
in_left x [] ys i = absurd i
in_left x (y ∷ xs) ys i = ⊎_elim (λ e. inl e) (λ more. inr (in_left x xs ys more)) i

pub in_right : {X : Type 0} (x : X) (xs ys : List X) → In x ys → In x (xs ++ ys)
in_right x [] ys i = i
in_right x (y ∷ xs) ys i = inr (in_right x xs ys i)

pub in_parts : {X : Type 0} (x : X) (xs ys : List X) → In x (xs ++ ys) → In x xs ⊎ In x ys
in_parts x [] ys i = inr i
in_parts x (y ∷ xs) ys i = ⊎_elim (λ e. inl (inl e)) (λ more. ⊎_elim (λ a. inl (inr a)) (λ b. inr b) (in_parts x xs ys more)) i

pub cons_nil : {X : Type 0} (x : X) (xs : List X) → x ∷ xs ≡ [] → ⊥
cons_nil x xs e = cc

pub nil_parts : {X : Type 0} (xs ys : List X) → xs ++ ys ≡ [] → (xs ≡ []) × (ys ≡ [])
nil_parts [] ys e = (refl, e)
nil_parts (x ∷ xs) ys e = absurd (cons_nil x (xs ++ ys) e)

pub no_else : (xs ys : List PlacedFile) → or_else xs ys ≡ [] → (xs ≡ []) × (ys ≡ [])
no_else [] ys e = (refl, e)
no_else (x ∷ xs) ys e = absurd (cons_nil x xs e)

map_nil : {X Y : Type 0} (f : X → Y) (xs : List X) → map f xs ≡ [] → xs ≡ []
map_nil f [] e = refl
map_nil f (x ∷ xs) e = absurd (cons_nil (f x) (map f xs) e)

some_file : (files : List PlacedFile) (f : Found) → told_unless files f ≡ [] → files ≡ [] → ⊥
some_file [] f e none = cons_nil f [] e
some_file (file ∷ files) f e none = cons_nil file files none

-- ---- at a label

-- no file could change a word's answers at the label, and where it is broken there, some request of it is one that a file could decide
pub record IsKept (d : Part) (l : Label) (w : Word) (Is : Request → Type 0) : Type 0 where
  pub closed : files_changing d l w ≡ []
  pub holds : IsBroken w Is → (r : Request) × IsOf w r × (files_deciding d.decided.policies.now d.skipped.now l r ≡ [] → ⊥)

-- no file is skipped, and no requests lead there that count
abbrev pub IsPassed : Part → Label → Labels → Type 0
IsPassed d l ls =
    (d.skipped.now ≡ []) × ((rs : List Request) → do_count d.unclean rs ≡ true → IsWayTo d.decided.policies.now l ls rs → ⊥)

-- so of what a claim says; where it says that nothing leads to some labels no file is skipped, and nothing that counts does; and no profile
-- complains
abbrev pub AreKept : Part → Label → Asked → Type 0
AreKept d l (Never w) = IsKept d l w (Counted d.unclean (IsAnswered d.decided.policies.now l true))
AreKept d l (Leads w ls) = IsKept d l w (Counted d.unclean (IsLedTo d.decided.policies.now l ls))
AreKept d l (Always w) = IsKept d l w (Counted d.unclean (IsAnswered d.decided.policies.now l false))
AreKept d l (Reaches ls) = IsPassed d l ls
AreKept d l Enforced = complains_at d.decided.policies.now l ≡ false

-- without skipped files none decides
none_decide : (ps : List Policy) (l : Label) (r : Request) → files_deciding ps [] l r ≡ []
unfolding files_deciding
none_decide ps l r = at (slice_get ps 0)
  where
    at : (o : Option Policy) → option_map_or (files_among [] l r) o [] ≡ []
    at None = refl
    at (Some p) = refl

none_on_way : (ps : List Policy) (l : Label) (rs : List Request) → files_on_way ps [] l rs ≡ []
none_on_way ps l [] = refl
none_on_way ps l (r ∷ rs) =
    ap (λ (fs : List PlacedFile). or_else fs (files_on_way ps [] (going ps l r) rs)) (none_decide ps l r) ∙ none_on_way ps (going ps l r) rs

-- where nobody is told to break a claim, and no file is skipped
module _ (d : Part) (limit : ℕ) (l : Label) (fs : AllFound) (nobody : fs.list ≡ []) (sure : fs.doubt ≡ []) where
  abbrev ps : List Policy
  ps = d.decided.policies.now

  no_files : (p : Passage) → fs ≡ passage_found d limit l p → d.skipped.now ≡ []
  no_files p eq = map_nil placed d.skipped.now (sym (ap (λ (x : AllFound). x.doubt) eq) ∙ sure)

  -- a list that leads there is told
  some_way : (way : List Request) → d.skipped.now ≡ [] → by_way d l way ≡ [] → ⊥
  some_way way none e =
      some_file (files_on_way ps d.skipped.now l way) (ByWay (complains_at ps l) (way_told ps l way)) e
      (ap (λ (ks : List Skipped). files_on_way ps ks l way) none ∙ none_on_way ps l way)

  first_told : (ls : Labels) (way : List Request) → IsFirstWay ps limit l ls way → d.skipped.now ≡ []
      → (do_count d.unclean way ≡ true → by_way d l way ≡ []) → (rs : List Request) → do_count d.unclean rs ≡ true → IsWayTo ps l ls rs → ⊥
  first_told ls way is none untold rs count leads = at (do_count d.unclean way) refl
    where
      at : (b : Bool) → do_count d.unclean way ≡ b → ⊥
      at true e = some_way way none (untold e)
      at false e = none_counted d.unclean way rs (λ f. is.clean rs leads f) e count

  -- the first of the lists that lead there is told where one counts
  none_through : (ls : Labels) (p : Passage) (way : List Request) → IsFirstWay ps limit l ls way → fs ≡ passage_found d limit l p
      → way_counts d p ≡ do_count d.unclean way → passed_by d l p ≡ by_way d l way → (rs : List Request) → do_count d.unclean rs ≡ true
      → IsWayTo ps l ls rs → ⊥
  none_through ls p way is eq counted by rs count leads = first_told ls way is (no_files p eq) untold rs count leads
    where
      untold : do_count d.unclean way ≡ true → by_way d l way ≡ []
      untold e =
          sym by
          ∙ (sym (ap (λ (b : Bool). passed_if b d l p) (counted ∙ e)) ∙ (sym (ap (λ (x : AllFound). x.list) eq) ∙ nobody))

  -- so is a list that leads there where unclean paths count, and it can't be told whether one at clean paths does
  none_unclean : (p : Passage) (way : List Request) → fs ≡ passage_found d limit l p → way_counts d p ≡ true
      → passed_by d l p ≡ by_unclean_way d l way → d.unclean ≡ true → ⊥
  none_unclean p way eq counted by e =
      some_way way (no_files p eq)
      (sym (ap (λ (b : Bool). if b then by_way d l way else []) e)
      ∙ (sym by ∙ (sym (ap (λ (b : Bool). passed_if b d l p) counted) ∙ (sym (ap (λ (x : AllFound). x.list) eq) ∙ nobody))))

  tellable_too : (ls : Labels) (rs : List Request) (b : Bool) → do_count b rs ≡ true → AreTold (going ps) (IsTellable (not b) ps limit) l rs
      → IsWayTo ps l ls rs → IsTellableWay false ps limit l ls rs
  tellable_too ls rs true count told is = record { counted = count; told = told; leads = is.leads }
  tellable_too ls rs false count told is =
      tellable_all ps limit l ls rs (record { counted = count; told = told; leads = is.leads })

  -- no list that counts leads there past labels of which it can be told where such lead on
  pub none_told : (ls : Labels) (p : Passage) → IsPassage ps limit l ls p → fs ≡ passage_found d limit l p → (rs : List Request)
      → do_count d.unclean rs ≡ true → AreTold (going ps) (IsTellable (not d.unclean) ps limit) l rs → IsWayTo ps l ls rs → ⊥
  none_told ls (passage.Through way) is eq rs count told leads = none_through ls (passage.Through way) way.items is eq refl refl rs count leads
  none_told ls passage.Nowhere is eq rs count told leads = is rs leads
  none_told ls (passage.Untold at why) is eq rs count told leads = is.none rs (tellable_too ls rs d.unclean count told leads)
  none_told ls (passage.CleanUntold way at why) is eq rs count told leads = on d.unclean refl count told
    where
      on : (b : Bool) → d.unclean ≡ b → do_count b rs ≡ true → AreTold (going ps) (IsTellable (not b) ps limit) l rs → ⊥
      on true e c t = none_unclean (passage.CleanUntold way at why) way.items eq refl refl e
      on false e c t = is.clean.none rs (record { counted = c; told = t; leads = leads.leads })

module _ (d : Part) (limit : ℕ) (text : List ℕ) (l : Label) (fs : AllFound) (clear : IsClear fs) where
  judged_kept : (Is : Request → Type 0) (w : Word) (j : Judgement) → IsJudged d.decided.policies.now limit l Is w text j
      → fs ≡ judged_found d l w j → IsKept d l w (Counted d.unclean Is)
  judged_kept Is w (is.Holds r) judged eq =
      record { closed = sym (ap (λ (x : AllFound). x.doubt) eq) ∙ clear.sure; holds = λ broken. absurd (judged.1 (broken.0, broken.1, broken.2.1)) }
  judged_kept Is w (is.Untold line) judged eq = absurd (cons_nil _ _ (sym (ap (λ (x : AllFound). x.untold) eq) ∙ clear.told))
  judged_kept Is w (is.Broken r) judged eq =
      record {
        closed = sym (ap (λ (x : AllFound). x.doubt) eq) ∙ clear.sure;
        holds = λ broken. at (does_request_count d.unclean r) refl broken;
      }
    where
      at : (b : Bool) → does_request_count d.unclean r ≡ b → IsBroken w (Counted d.unclean Is)
          → (q : Request) × IsOf w q × (files_deciding d.decided.policies.now d.skipped.now l q ≡ [] → ⊥)
      at true e broken = (
        r,
        judged.1.is,
        some_file _ _
            (sym (ap (λ (b : Bool). broken_if b d l (is.Broken r)) e) ∙ (sym (ap (λ (x : AllFound). x.list) eq) ∙ clear.nobody)),
      )
      at false e broken = absurd (uncounted_too d.unclean r broken.0 e (judged.1.first broken.0 broken.1 broken.2.1).clean broken.2.0)

  found_kept : (Is : Request → Type 0) (w : Word) → IsFoundOf d limit l Is w text fs → IsKept d l w (Counted d.unclean Is)
  found_kept Is w is = judged_kept Is w is.0 is.1 is.2

  passage_kept : (ls : Labels) (p : Passage) → IsPassage d.decided.policies.now limit l ls p → fs ≡ passage_found d limit l p → IsPassed d l ls
  passage_kept ls (passage.Through way) is eq = (
    no_files d limit l fs clear.nobody clear.sure (passage.Through way) eq,
    none_through d limit l fs clear.nobody clear.sure ls (passage.Through way) way.items is eq refl refl,
  )
  passage_kept ls passage.Nowhere is eq = (no_files d limit l fs clear.nobody clear.sure passage.Nowhere eq, λ rs count leads. is rs leads)
  passage_kept ls (passage.Untold at why) is eq = absurd (cons_nil _ _ (sym (ap (λ (x : AllFound). x.untold) eq) ∙ clear.told))
  passage_kept ls (passage.CleanUntold way at why) is eq = absurd (on d.unclean refl)
    where
      on : (b : Bool) → d.unclean ≡ b → ⊥
      on true e = none_unclean d limit l fs clear.nobody clear.sure (passage.CleanUntold way at why) way.items eq refl refl e
      on false e =
          cons_nil _ _
          (sym (ap (λ (b : Bool). if b then [] else untold_past d.decided.policies.now limit l at why) e)
          ∙ (sym (ap (λ (x : AllFound). x.untold) eq) ∙ clear.told))

  enforced_kept : (o : Option Profile) → complaining_in o ≡ [] → option_map_or (λ (p : Profile). p.complain) o false ≡ false
  enforced_kept None e = refl
  enforced_kept (Some p) e = at p.complain e
    where
      at : (b : Bool) → (if b then Complaining p.name ∷ [] else []) ≡ [] → b ≡ false
      at true f = absurd (cons_nil _ _ f)
      at false f = refl

  kept_at : (says : Asked) → IsFoundAt d limit says text l fs → AreKept d l says
  kept_at (Never w) is = found_kept (IsAnswered d.decided.policies.now l true) w is
  kept_at (Leads w ls) is = found_kept (IsLedTo d.decided.policies.now l ls) w is
  kept_at (Always w) is = found_kept (IsAnswered d.decided.policies.now l false) w is
  kept_at (Reaches ls) is = passage_kept ls is.0 is.1 is.2
  kept_at Enforced is = enforced_kept (profile_at d.decided.policies.now l) (sym (ap (λ (x : AllFound). x.list) is) ∙ clear.nobody)

-- ---- at all labels

pub none_of : {X : Type 0} (of : AllFound → List X) (fs : AllFound) (found : List AllFound) → In fs found → flat_map of found ≡ [] → of fs ≡ []
none_of of fs [] i e = absurd i
none_of of fs (g ∷ found) i e =
    let parts = nil_parts (of g) (flat_map of found) e in
    ⊎_elim (λ (same : g ≡ fs). subst (λ (x : AllFound). of x ≡ []) same parts.0) (λ more. none_of of fs found more parts.1) i

pub sure_of : (fs : AllFound) (found : List AllFound) → In fs found → first_some (map (λ (x : AllFound). x.doubt) found) ≡ [] → fs.doubt ≡ []
sure_of fs [] i e = absurd i
sure_of fs (g ∷ found) i e =
    let parts = no_else g.doubt (first_some (map (λ (x : AllFound). x.doubt) found)) e in
    ⊎_elim (λ (same : g ≡ fs). subst (λ (x : AllFound). x.doubt ≡ []) same parts.0) (λ more. sure_of fs found more parts.1) i

module _ (first : Bool) (At : Label → AllFound → Type 0) where
  -- where nobody is found each label was looked at
  pub each_looked : (ls : List Label) (found : List AllFound) → AreFoundAt first At ls found → flat_map (λ (fs : AllFound). fs.list) found ≡ []
      → (l : Label) → In l ls → (fs : AllFound) × At l fs × In fs found
  each_looked [] found are none l i = absurd i
  each_looked (k ∷ ls) [] are none l i = absurd are
  each_looked (k ∷ ls) (g ∷ found) are none l i =
      let a = nil_parts g.list (flat_map (λ (fs : AllFound). fs.list) found) none in
      ⊎_elim
      (λ (e : k ≡ l). (g, subst (λ (x : Label). At x g) e are.0, inl refl))
      (λ (more : In l ls).
      let t = each_looked ls found (on (first && is_found g) (ap (λ (xs : List Found). first && not (is_nil xs)) a.0 ∙ never first) are.1) a.1 l more in
      (t.0, t.1, inr t.2))
      i
    where
      never : (b : Bool) → (b && false) ≡ false
      never true = refl
      never false = refl

      on : (b : Bool) → b ≡ false → MatchBool b (found ≡ []) (AreFoundAt first At ls found) → AreFoundAt first At ls found
      on true e m = absurd (true≢false e)
      on false e m = m

  -- where all is clear what is found there is clear
  each_clear : (ls : List Label) (found : List AllFound) → AreFoundAt first At ls found → flat_map (λ (fs : AllFound). fs.list) found ≡ []
      → flat_map (λ (fs : AllFound). fs.untold) found ≡ [] → first_some (map (λ (fs : AllFound). fs.doubt) found) ≡ [] → (l : Label) → In l ls
      → (fs : AllFound) × At l fs × IsClear fs
  each_clear ls found are none told sure l i =
      let t = each_looked ls found are none l i in (
        t.0,
        t.1,
        record {
          nobody = none_of (λ (fs : AllFound). fs.list) t.0 found t.2 none;
          told = none_of (λ (fs : AllFound). fs.untold) t.0 found t.2 told;
          sure = sure_of t.0 found t.2 sure;
        },
      )

module _ (ws : List ClaimWord) where
  -- a label behind one profile more
  behind_in : (k : ℕ) (q : Profile) (ps : List Profile) (l : Label) → In l (labels_from ws (suc k) ps) → In l (labels_from ws k (q ∷ ps))
  behind_in k q ps l i = on (is_about ws q.name)
    where
      on : (b : Bool) → In l (if b then Confined 0 k ∷ labels_from ws (suc k) ps else labels_from ws (suc k) ps)
      on true = inr i
      on false = i

  -- a profile that the claim is about has one of the labels
  from_in : (k : ℕ) (ps : List Profile) (i : ℕ) (p : Profile) → slice_get ps i ≡ Some p → is_about ws p.name ≡ true
      → In (Confined 0 (k + i)) (labels_from ws k ps)
  from_in k [] i p e about = absurd (let f : None ≡ Some p = e in cc)
  from_in k (q ∷ ps) zero p e about =
      subst (λ (b : Bool). In (Confined 0 (k + 0)) (if b then Confined 0 k ∷ labels_from ws (suc k) ps else labels_from ws (suc k) ps))
      (sym (ap (λ (x : Profile). is_about ws x.name) (same_Some q p e) ∙ about))
      (inl (ap (λ (n : ℕ). Confined 0 n) (let same : k ≡ k + 0 = omega arith in same)))
  from_in k (q ∷ ps) (suc i) p e about =
      behind_in k q ps (Confined 0 (k + suc i))
      (subst (λ (n : ℕ). In (Confined 0 n) (labels_from ws (suc k) ps)) (let same : suc k + i ≡ k + suc i = omega arith in same)
      (from_in (suc k) ps i p e about))

  -- and the claim is about each of them
  pub record IsFrom (k : ℕ) (ps : List Profile) (l : Label) : Type 0 where
    pub place : ℕ
    pub profile : Profile
    pub label : Confined 0 (k + place) ≡ l
    pub there : slice_get ps place ≡ Some profile
    pub about : is_about ws profile.name ≡ true

  in_from : (k : ℕ) (ps : List Profile) (l : Label) → In l (labels_from ws k ps) → IsFrom k ps l
  in_from k [] l i = absurd i
  in_from k (q ∷ ps) l i = on (is_about ws q.name) refl i (λ (more : In l (labels_from ws (suc k) ps)). in_from (suc k) ps l more)
    where
      next : IsFrom (suc k) ps l → IsFrom k (q ∷ ps) l
      next f = record {
        place = suc f.place;
        profile = f.profile;
        label = ap (λ (n : ℕ). Confined 0 n) (let same : k + suc f.place ≡ suc k + f.place = omega arith in same) ∙ f.label;
        there = f.there;
        about = f.about;
      }

      on : (b : Bool) → is_about ws q.name ≡ b → In l (if b then Confined 0 k ∷ labels_from ws (suc k) ps else labels_from ws (suc k) ps)
          → (In l (labels_from ws (suc k) ps) → IsFrom (suc k) ps l) → IsFrom k (q ∷ ps) l
      on true e j onward =
          ⊎_elim
          (λ (here : Confined 0 k ≡ l). record {
            place = 0;
            profile = q;
            label = ap (λ (n : ℕ). Confined 0 n) (let same : k + 0 ≡ k = omega arith in same) ∙ here;
            there = refl;
            about = e;
          })
          (λ (more : In l (labels_from ws (suc k) ps)). next (onward more))
          j
      on false e j onward = next (onward j)

module _ (policies : List Policy) (ws : List ClaimWord) where
  abbrev profiles : List Profile
  profiles = first_profiles policies

  pub about_in : (n : ℕ) (p : Profile) → profile_in policies 0 n ≡ Some p → is_about ws p.name ≡ true → In (Confined 0 n) (labels_about ws profiles)
  about_in n p e about = on (is_about_free ws)
    where
      there : In (Confined 0 n) (labels_from ws 0 profiles)
      there =
          subst (λ (m : ℕ). In (Confined 0 m) (labels_from ws 0 profiles)) (let same : 0 + n ≡ n = omega arith in same)
          (from_in ws 0 profiles n p (sym (numbered policies n) ∙ e) about)

      on : (b : Bool) → In (Confined 0 n) (if b then Unconfined 0 ∷ labels_from ws 0 profiles else labels_from ws 0 profiles)
      on true = inr there
      on false = there

  pub free_in : is_about_free ws ≡ true → In (Unconfined 0) (labels_about ws profiles)
  free_in about =
      subst (λ (b : Bool). In (Unconfined 0) (if b then Unconfined 0 ∷ labels_from ws 0 profiles else labels_from ws 0 profiles)) (sym about) (inl refl)

  -- the claim is about each of the labels
  pub in_about : (l : Label) → In l (labels_about ws profiles) → IsAbout policies ws l
  in_about l i = on (is_about_free ws) refl i
    where
      one : In l (labels_from ws 0 profiles) → IsAbout policies ws l
      one j =
          let f = in_from ws 0 profiles l j in
          let same : f.place ≡ 0 + f.place = omega arith in
          subst (IsAbout policies ws) (ap (λ (n : ℕ). Confined 0 n) same ∙ f.label) (refl, (f.profile, numbered policies f.place ∙ f.there, f.about))

      on : (b : Bool) → is_about_free ws ≡ b → In l (if b then Unconfined 0 ∷ labels_from ws 0 profiles else labels_from ws 0 profiles)
          → IsAbout policies ws l
      on true e j = ⊎_elim (λ (here : Unconfined 0 ≡ l). subst (IsAbout policies ws) here (refl, e)) (λ more. one more) j
      on false e j = one j

module _ (first : Bool) (d : Part) (limit : ℕ) (ws : List ClaimWord) (says : Asked) (text : List ℕ) where
  -- what is known where a claim is clear
  pub record AllKept : Type 0 where
    pub unconcerned : files_concerned ws d ≡ []
    pub free : is_about_free ws ≡ true → AreKept d (Unconfined 0) says
    pub each : (n : ℕ) (p : Profile) → profile_in d.decided.policies.now 0 n ≡ Some p → is_about ws p.name ≡ true → AreKept d (Confined 0 n) says

  pub all_clear : (found : List AllFound)
      → AreFoundAt first (IsFoundAt d limit says text) (labels_about ws (first_profiles d.decided.policies.now)) found
      → IsClear (all_of (files_concerned ws d) found) → AllKept
  all_clear found are clear =
      let labels = labels_about ws (first_profiles d.decided.policies.now) in
      let sure = no_else (files_concerned ws d) (first_some (map (λ (fs : AllFound). fs.doubt) found)) clear.sure in
      let at : (l : Label) → In l labels → AreKept d l says =
      λ l i. let s = each_clear first (IsFoundAt d limit says text) labels found are clear.nobody clear.told sure.1 l i in
      kept_at d limit text l s.0 s.2 says s.1 in
      record {
        unconcerned = sure.0;
        free = λ about. at (Unconfined 0) (free_in d.decided.policies.now ws about);
        each = λ n p e about. at (Confined 0 n) (about_in d.decided.policies.now ws n p e about);
      }
