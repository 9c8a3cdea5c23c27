-- Each by whom a claim is told to be broken breaks it.
use Rattle.std.proofs.Common.{◌≡◌, ℕ, zero, suc, ◌<◌, inl, inr, ⊎_elim, List, [], ◌∷◌, length, flat_map, get_or, Bool, true, false, Option, Some, None, refl, sym, ap, subst, ◌∙◌, arith}
use Rattle.std.specs.Prelude.{not, ◌&&◌, MatchBool, if◌then◌else◌}
use Rattle.std.specs.Option.{option_map_or}
use Rattle.std.proofs.lemmas.Grind.{common_steps}
use Rattle.aa_model.specs.declared.policy.Profile.{Profile}
use Rattle.aa_model.specs.declared.label.Label.{Label}
use Rattle.aa_model.specs.declared.label.Label.TheVariants.{Unconfined, Confined}
use Rattle.aa_model.specs.declared.request.Request.{Request}
use Rattle.aa_compile.specs.Labels.{first_profiles}
use Rattle.aa_ask.specs.Verdicts.{profile_at}
use Rattle.aa_quantifiers.specs.declared.word.Word.{Word}
use Rattle.aa_quantifiers.specs.Quantities.{IsAnswered}
use Rattle.aa_quantifiers.specs.declared.aim.Labels.{Labels}
use Rattle.aa_undecided.specs.Answers.{PlacedFile}
use Rattle.aa_unclean_paths.specs.Requests.{does_request_count}
use Rattle.aa_claims.specs.declared.words.ClaimWord.{ClaimWord}
use Rattle.aa_assert.specs.declared.passage.Passage.{Passage}
use Rattle.aa_assert.specs.declared.passage.Passage.TheVariants as passage
use Rattle.aa_assert.specs.declared.asked.Asked.{Asked}
use Rattle.aa_assert.specs.declared.asked.Asked.TheVariants.{Never, Leads, Always, Reaches, Enforced}
use Rattle.aa_assert.specs.declared.judging.Judgement.{Judgement}
use Rattle.aa_assert.specs.declared.judging.Judgement.TheVariants as is
use Rattle.aa_assert.specs.declared.part.Part.{Part}
use Rattle.aa_assert.specs.Judging.{IsBroken, IsJudged}
use Rattle.aa_assert.specs.Leading.{IsLedTo}
use Rattle.aa_assert.specs.Passages.{do_count, IsPassage}
use Rattle.aa_assert.specs.Findings.{Found, AllFound, Complaining, told_unless, counts, broken_if, IsFoundOf, by_way, way_counts, passed_if, complaining_in}
use Rattle.aa_assert.specs.Findings.{IsFoundAt, is_found, AreFoundAt, labels_about}
use Rattle.aa_assert.specs.Holding.{Counted, Uncounted, IsBrokenAt, Holds, ToldBreak, ToldApart, ToldFail, IsAbout, ByRequestOf, ByWayOf, Shows, ShowsApart}
use Rattle.aa_assert.proofs.Counted.{all_count, uncounted_too, none_counted}
use Rattle.aa_assert.proofs.Clear.{In, in_parts, in_about}
use Rattle.aa_assert.proofs.Naming.{AreSaid, are_said, ends_led, led_ends, way_comes, comes_way}

contains_in : {X : Type 0} (xs : List X) (x : X) (i : ℕ) → i < length xs → get_or xs i x ≡ x → In x xs
contains_in [] x i lt e = absurd (omega (arith, lt))
contains_in (y ∷ xs) x zero lt e = inl e
contains_in (y ∷ xs) x (suc i) lt e = inr (contains_in xs x i (grind (arith, common_steps)) e)

in_one : {X : Type 0} (x y : X) → In x (y ∷ []) → x ≡ y
in_one x y i = ⊎_elim (λ e. sym e) (λ more. absurd more) i

-- what is told is told at one of the labels
module _ (first : Bool) (At : Label → AllFound → Type 0) (of : AllFound → List Found) (f : Found) where
  told_at : (ls : List Label) (found : List AllFound) → AreFoundAt first At ls found → In f (flat_map of found)
      → (l : Label) × In l ls × ((fs : AllFound) × At l fs × In f (of fs))
  told_at [] found are i = absurd (subst (λ (gs : List AllFound). In f (flat_map of gs)) are i)
  told_at (l ∷ ls) [] are i = absurd are
  told_at (l ∷ ls) (g ∷ found) are i =
      ⊎_elim
      (λ (here : In f (of g)). (l, inl refl, (g, are.0, here)))
      (λ (more : In f (flat_map of found)). on (first && is_found g) are.1 more (λ m. told_at ls found m more))
      (in_parts f (of g) (flat_map of found) i)
    where
      on : (b : Bool) → MatchBool b (found ≡ []) (AreFoundAt first At ls found) → In f (flat_map of found)
          → (AreFoundAt first At ls found → (k : Label) × In k ls × ((fs : AllFound) × At k fs × In f (of fs)))
          → (k : Label) × In k (l ∷ ls) × ((fs : AllFound) × At k fs × In f (of fs))
      on true m more onward = absurd (subst (λ (gs : List AllFound). In f (flat_map of gs)) m more)
      on false m more onward = let t = onward m in (t.0, inr t.1, t.2)

-- ---- at a label

module _ (d : Part) (limit : ℕ) (ws : List ClaimWord) (text : List ℕ) (l : Label) (fs : AllFound) (f : Found) (there : In f fs.list) where
  unless_one : (files : List PlacedFile) (g : Found) → In f (told_unless files g) → f ≡ g
  unless_one [] g i = in_one f g i
  unless_one (file ∷ files) g i = absurd i

  by_judgement : (Is : Request → Type 0) (w : Word) (j : Judgement) → IsJudged d.decided.policies.now limit l Is w text j
      → In f (broken_if (counts d j) d l j) → ByRequestOf d l w (Counted d.unclean Is) f
  by_judgement Is w (is.Broken r) judged i = at (does_request_count d.unclean r) refl i
    where
      at : (b : Bool) → does_request_count d.unclean r ≡ b → In f (broken_if b d l (is.Broken r)) → ByRequestOf d l w (Counted d.unclean Is) f
      at true e k = (r, judged.1.is, (e, judged.1.answer), unless_one _ _ k)
      at false e k = absurd k
  by_judgement Is w (is.Holds r) judged i = absurd i
  by_judgement Is w (is.Untold line) judged i = absurd i

  by_request : (Is : Request → Type 0) (w : Word) → IsFoundOf d limit l Is w text fs → ByRequestOf d l w (Counted d.unclean Is) f
  by_request Is w is = by_judgement Is w is.0 is.1 (subst (λ (x : AllFound). In f x.list) is.2 there)

  by_passage : (ls : Labels) → AreSaid d.decided.policies.now ws (Reaches ls) → (p : Passage) → IsPassage d.decided.policies.now limit l ls p
      → In f (passed_if (way_counts d p) d l p) → ByWayOf d ws l true f
  by_passage ls said (passage.Through way) is i = at (do_count d.unclean way.items) refl i
    where
      at : (b : Bool) → do_count d.unclean way.items ≡ b → In f (passed_if b d l (passage.Through way)) → ByWayOf d ws l true f
      at true e k = (way.items, e, way_comes d.decided.policies.now ws ls said l way.items is.shortest.is, unless_one _ _ k)
      at false e k = absurd k
  by_passage ls said passage.Nowhere is i = absurd i
  by_passage ls said (passage.Untold at why) is i = absurd i
  by_passage ls said (passage.CleanUntold way at why) is i = on d.unclean refl i
    where
      on : (b : Bool) → d.unclean ≡ b → In f (if b then by_way d l way.items else []) → ByWayOf d ws l true f
      on true e k = (
        way.items,
        ap (λ (u : Bool). do_count u way.items) e ∙ all_count way.items,
        way_comes d.decided.policies.now ws ls said l way.items is.shortest.is,
        unless_one _ _ k,
      )
      on false e k = absurd k

  by_complaining : (o : Option Profile) → profile_at d.decided.policies.now l ≡ o → In f (complaining_in o) → Shows d ws l Enforced f
  by_complaining None e i = absurd i
  by_complaining (Some p) e i = at p.complain refl i
    where
      at : (b : Bool) → p.complain ≡ b → In f (if b then Complaining p.name ∷ [] else []) → Shows d ws l Enforced f
      at true same j = (p, e, same, in_one f (Complaining p.name) j)
      at false same j = absurd j

  shown : (says : Asked) → AreSaid d.decided.policies.now ws says → IsFoundAt d limit says text l fs → Shows d ws l says f
  shown (Never w) said is = by_request (IsAnswered d.decided.policies.now l true) w is
  shown (Always w) said is = by_request (IsAnswered d.decided.policies.now l false) w is
  shown (Leads w ls) said is =
      let t = by_request (IsLedTo d.decided.policies.now l ls) w is in
      (t.0, t.1, (t.2.0, led_ends d.decided.policies.now ws ls said l t.0 t.2.1), t.3)
  shown (Reaches ls) said is = by_passage ls said is.0 is.1 (subst (λ (x : AllFound). In f x.list) is.2 there)
  shown Enforced said is = by_complaining (profile_at d.decided.policies.now l) refl (subst (λ (x : AllFound). In f x.list) is there)

pub told_break : ToldBreak
told_break first d limit ws head asked fs answer f c =
    let are = answer.are in
    let i = subst (λ (x : AllFound). In f x.list) are.2 (contains_in fs.list f c.0 c.1 c.2) in
    let t = told_at first (IsFoundAt d limit answer.says asked.text.items) (λ (x : AllFound). x.list) f
    (labels_about ws (first_profiles d.decided.policies.now)) are.0 are.1 i in (
      t.0,
      in_about d.decided.policies.now ws t.0 t.1,
      shown d limit ws asked.text.items t.0 t.2.0 f t.2.2 answer.says (are_said d ws head asked answer.says answer.is_asked) t.2.1,
    )

-- ---- at unclean paths alone

module _ (d : Part) (limit : ℕ) (ws : List ClaimWord) (text : List ℕ) (l : Label) (fs : AllFound) (f : Found) (there : In f fs.apart) where
  apart_one : (files : List PlacedFile) (g : Found) → In f (told_unless files g) → f ≡ g
  apart_one [] g i = in_one f g i
  apart_one (file ∷ files) g i = absurd i

  -- by such a request, and by none that counts
  abbrev IsApart : (w : Word) (Is : Request → Type 0) → Type 0
  IsApart w Is = ByRequestOf d l w (Uncounted d.unclean Is) f × (IsBroken w (Counted d.unclean Is) → ⊥)

  apart_judged : (Is : Request → Type 0) (w : Word) (j : Judgement) → IsJudged d.decided.policies.now limit l Is w text j
      → In f (broken_if (not (counts d j)) d l j) → IsApart w Is
  apart_judged Is w (is.Broken r) judged i = at (does_request_count d.unclean r) refl i
    where
      at : (b : Bool) → does_request_count d.unclean r ≡ b → In f (broken_if (not b) d l (is.Broken r)) → IsApart w Is
      at true e k = absurd k
      at false e k = (
        (r, judged.1.is, (e, judged.1.answer), apart_one _ _ k),
        λ broken. uncounted_too d.unclean r broken.0 e (judged.1.first broken.0 broken.1 broken.2.1).clean broken.2.0,
      )
  apart_judged Is w (is.Holds r) judged i = absurd i
  apart_judged Is w (is.Untold line) judged i = absurd i

  apart_request : (Is : Request → Type 0) (w : Word) → IsFoundOf d limit l Is w text fs → IsApart w Is
  apart_request Is w is = apart_judged Is w is.0 is.1 (subst (λ (x : AllFound). In f x.apart) is.2 there)

  apart_passage : (ls : Labels) → AreSaid d.decided.policies.now ws (Reaches ls) → (p : Passage) → IsPassage d.decided.policies.now limit l ls p
      → In f (passed_if (not (way_counts d p)) d l p)
      → ByWayOf d ws l false f × (IsBrokenAt d.unclean d.decided.policies.now ws l (Reaches ls) → ⊥)
  apart_passage ls said (passage.Through way) is i = at (do_count d.unclean way.items) refl i
    where
      at : (b : Bool) → do_count d.unclean way.items ≡ b → In f (passed_if (not b) d l (passage.Through way))
          → ByWayOf d ws l false f × (IsBrokenAt d.unclean d.decided.policies.now ws l (Reaches ls) → ⊥)
      at true e k = absurd k
      at false e k = (
        (way.items, e, way_comes d.decided.policies.now ws ls said l way.items is.shortest.is, apart_one _ _ k),
        λ broken. none_counted d.unclean way.items broken.0
            (λ clean. is.clean broken.0 (comes_way d.decided.policies.now ws ls said l broken.0 broken.2) clean) e broken.1,
      )
  apart_passage ls said passage.Nowhere is i = absurd i
  apart_passage ls said (passage.Untold at why) is i = absurd i
  apart_passage ls said (passage.CleanUntold way at why) is i = absurd i

  shown_apart : (says : Asked) → AreSaid d.decided.policies.now ws says → IsFoundAt d limit says text l fs
      → ShowsApart d ws l says f × (IsBrokenAt d.unclean d.decided.policies.now ws l says → ⊥)
  shown_apart (Never w) said is = apart_request (IsAnswered d.decided.policies.now l true) w is
  shown_apart (Always w) said is = apart_request (IsAnswered d.decided.policies.now l false) w is
  shown_apart (Leads w ls) said is =
      let t = apart_request (IsLedTo d.decided.policies.now l ls) w is in (
        (t.0.0, t.0.1, (t.0.2.0, led_ends d.decided.policies.now ws ls said l t.0.0 t.0.2.1), t.0.3),
        λ broken. t.1 (broken.0, broken.1, (broken.2.0, ends_led d.decided.policies.now ws ls said l broken.0 broken.2.1)),
      )
  shown_apart (Reaches ls) said is = apart_passage ls said is.0 is.1 (subst (λ (x : AllFound). In f x.apart) is.2 there)
  shown_apart Enforced said is = absurd (subst (λ (x : AllFound). In f x.apart) is there)

pub told_apart : ToldApart
told_apart first d limit ws head asked fs answer f c =
    let are = answer.are in
    let i = subst (λ (x : AllFound). In f x.apart) are.2 (contains_in fs.apart f c.0 c.1 c.2) in
    let t = told_at first (IsFoundAt d limit answer.says asked.text.items) (λ (x : AllFound). x.apart) f
    (labels_about ws (first_profiles d.decided.policies.now)) are.0 are.1 i in
    let s = shown_apart d limit ws asked.text.items t.0 t.2.0 f t.2.2 answer.says (are_said d ws head asked answer.says answer.is_asked) t.2.1 in
    (t.0, in_about d.decided.policies.now ws t.0 t.1, s.0, s.1)

-- ---- so that the claim doesn't hold

module _ (d : Part) (ws : List ClaimWord) (says : Asked) (f : Found) where
  broken_there : (l : Label) (a : Asked) → Shows d ws l a f → IsBrokenAt d.unclean d.decided.policies.now ws l a
  broken_there l (Never w) s = (s.0, s.1, s.2)
  broken_there l (Always w) s = (s.0, s.1, s.2)
  broken_there l (Leads w ls) s = (s.0, s.1, s.2)
  broken_there l (Reaches ls) s = (s.0, s.1, s.2)
  broken_there (Confined k n) Enforced s = ap (λ (o : Option Profile). option_map_or (λ (p : Profile). p.complain) o false) s.1 ∙ s.2
  broken_there (Unconfined k) Enforced s = absurd (let e : None ≡ Some s.0 = s.1 in cc)

  fails_at : (l : Label) → IsAbout d.decided.policies.now ws l → IsBrokenAt d.unclean d.decided.policies.now ws l says
      → Holds d.unclean d.decided.policies.now ws says → ⊥
  fails_at (Unconfined k) about broken h =
      h.free about.1 (subst (λ (i : ℕ). IsBrokenAt d.unclean d.decided.policies.now ws (Unconfined i) says) about.0 broken)
  fails_at (Confined k n) about broken h =
      h.each n about.1.0 about.1.1 about.1.2 (subst (λ (i : ℕ). IsBrokenAt d.unclean d.decided.policies.now ws (Confined i n) says) about.0 broken)

pub told_fail : ToldFail
told_fail first d limit ws head asked fs answer f c =
    let t = told_break first d limit ws head asked fs answer f c in
    fails_at d ws answer.says f t.0 t.1 (broken_there d ws answer.says f t.0 answer.says t.2)
