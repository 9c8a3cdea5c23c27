-- Answers by which nobody breaks a claim, at unclean paths neither.
use Rattle.std.proofs.Common.{◌≡◌, ℕ, List, [], ◌∷◌, ◌++◌, Bool, true, false, Option, Some, None, refl, sym, ap, subst, ◌∙◌}
use Rattle.std.specs.Prelude.{not, ◌&&◌, ◌||◌, flat_map, codes, MatchBool, if◌then◌else◌}
use Rattle.aa_model.specs.declared.label.Label.{Label}
use Rattle.aa_compile.specs.Labels.{first_profiles}
use Rattle.aa_model.specs.declared.request.Request.TheVariants.{File, Link, Exec as Execute, Cap, Net, Change, Reload}
use Rattle.aa_quantifiers.specs.declared.word.Word.{Word}
use Rattle.aa_quantifiers.specs.declared.word.Word.TheVariants.{Files, Execs, One}
use Rattle.aa_claims.specs.declared.fault.Wrong.TheVariants.{Granted}
use Rattle.aa_assert.specs.declared.asked.Asked.{Asked}
use Rattle.aa_assert.specs.declared.asked.Asked.TheVariants.{Never, Leads, Always, Reaches, Enforced}
use Rattle.aa_assert.specs.declared.passage.Passage.{Passage}
use Rattle.aa_assert.specs.declared.passage.Passage.TheVariants as passage
use Rattle.aa_assert.specs.declared.judging.Judgement.{Judgement}
use Rattle.aa_assert.specs.declared.judging.Judgement.TheVariants as is
use Rattle.aa_assert.specs.declared.part.Part.{Part}
use Rattle.aa_who.specs.Untold.{Untold}
use Rattle.aa_claims.specs.declared.words.ClaimWord.{ClaimWord}
use Rattle.aa_claims.specs.Forms.{is_word, keyword_of, names_behind, names_within, names_led}
use Rattle.aa_assert.specs.Asked.{IsNeverAskedBy, IsNeverAsked, IsAlwaysAsked, IsAskedFor, IsAskedBy}
use Rattle.aa_assert.specs.Scope.{is_about_profile, AreSomebody}
use Rattle.aa_assert.specs.Breaking.{is_refused_free, never_wrong, leads_wrong, unbreakable}
use Rattle.aa_assert.specs.Findings.{Found, AllFound, broken_by, counts, broken_if, judged_found, by_way, by_unclean_way, passed_by, way_counts, passed_if}
use Rattle.aa_assert.specs.Findings.{untold_past, untold_of, passage_found, IsFoundAt, is_found, AreFoundAt, labels_about}
use Rattle.aa_assert.specs.Holding.{AreWaysTold, QuietAnswersCountAll}
use Rattle.aa_assert.proofs.Looking.{made}
use Rattle.aa_assert.proofs.Counted.{all_count}
use Rattle.aa_assert.proofs.Clear.{cons_nil, nil_parts}

abbrev counting_all : Part → Part
counting_all d = record d { unclean = true }

module _ (d : Part) (limit : ℕ) (text : List ℕ) (l : Label) (fs : AllFound) (nobody : fs.list ≡ []) (quiet : fs.apart ≡ []) where
  all_counts : (j : Judgement) → counts (counting_all d) j ≡ true
  all_counts (is.Broken r) = refl
  all_counts (is.Holds r) = refl
  all_counts (is.Untold line) = refl

  none_by : (c : Bool) (j : Judgement) → broken_if c d l j ≡ [] → broken_if (not c) d l j ≡ [] → broken_by d l j ≡ []
  none_by true j a b = a
  none_by false j a b = b

  judged_all : (w : Word) (j : Judgement) → fs ≡ judged_found d l w j → fs ≡ judged_found (counting_all d) l w j
  judged_all w j eq =
      let counted : broken_if (counts d j) d l j ≡ [] = sym (ap (λ (x : AllFound). x.list) eq) ∙ nobody in
      let others : broken_if (not (counts d j)) d l j ≡ [] = sym (ap (λ (x : AllFound). x.apart) eq) ∙ quiet in
      let none : broken_by d l j ≡ [] = none_by (counts d j) j counted others in
      eq ∙ made _ _ _ _ _ _ _ _
      (counted ∙ sym (ap (λ (c : Bool). broken_if c (counting_all d) l j) (all_counts j) ∙ none))
      (others ∙ sym (ap (λ (c : Bool). broken_if (not c) (counting_all d) l j) (all_counts j)))
      refl refl

  -- the same of lists of requests
  all_ways : (p : Passage) → way_counts (counting_all d) p ≡ true
  all_ways (passage.Through way) = all_count way.items
  all_ways passage.Nowhere = refl
  all_ways (passage.Untold at why) = refl
  all_ways (passage.CleanUntold way at why) = refl

  none_through : (c : Bool) (p : Passage) → passed_if c d l p ≡ [] → passed_if (not c) d l p ≡ [] → passed_by d l p ≡ []
  none_through true p a b = a
  none_through false p a b = b

  -- where all is told nothing else can't be told
  told_same : (p : Passage) → fs ≡ passage_found d limit l p → fs.untold ≡ [] → untold_of d limit l p ≡ untold_of (counting_all d) limit l p
  told_same (passage.Through way) eq told = refl
  told_same passage.Nowhere eq told = refl
  told_same (passage.Untold at why) eq told = refl
  told_same (passage.CleanUntold way at why) eq told = sym (ap (λ (x : AllFound). x.untold) eq) ∙ told

  counted_same : (p : Passage) → fs ≡ passage_found d limit l p → fs.untold ≡ [] → passed_by d l p ≡ passed_by (counting_all d) l p
  counted_same (passage.Through way) eq told = refl
  counted_same passage.Nowhere eq told = refl
  counted_same (passage.Untold at why) eq told = refl
  counted_same (passage.CleanUntold way at why) eq told = on d.unclean refl
    where
      on : (b : Bool) → d.unclean ≡ b → by_unclean_way d l way.items ≡ by_way d l way.items
      on true e = ap (λ (u : Bool). if u then by_way d l way.items else []) e
      on false e =
          absurd (cons_nil _ _
          (sym (ap (λ (u : Bool). if u then [] else untold_past d.decided.policies.now limit l at why) e)
          ∙ (sym (ap (λ (x : AllFound). x.untold) eq) ∙ told)))

  passed_all : (p : Passage) → fs ≡ passage_found d limit l p → fs.untold ≡ [] → fs ≡ passage_found (counting_all d) limit l p
  passed_all p eq told =
      let counted : passed_if (way_counts d p) d l p ≡ [] = sym (ap (λ (x : AllFound). x.list) eq) ∙ nobody in
      let others : passed_if (not (way_counts d p)) d l p ≡ [] = sym (ap (λ (x : AllFound). x.apart) eq) ∙ quiet in
      let none : passed_by (counting_all d) l p ≡ [] = sym (counted_same p eq told) ∙ none_through (way_counts d p) p counted others in
      eq ∙ made _ _ _ _ _ _ _ _
      (counted ∙ sym (ap (λ (c : Bool). passed_if c (counting_all d) l p) (all_ways p) ∙ none))
      (others ∙ sym (ap (λ (c : Bool). passed_if (not c) (counting_all d) l p) (all_ways p)))
      (told_same p eq told)
      refl

  found_all : (says : Asked) → AreWaysTold says fs.untold → IsFoundAt d limit says text l fs → IsFoundAt (counting_all d) limit says text l fs
  found_all (Never w) told is = (is.0, is.1, judged_all w is.0 is.2)
  found_all (Leads w ls) told is = (is.0, is.1, judged_all w is.0 is.2)
  found_all (Always w) told is = (is.0, is.1, judged_all w is.0 is.2)
  found_all (Reaches ls) told is = (is.0, is.1, passed_all is.0 is.2 told)
  found_all Enforced told is = is

-- all is told of each part
ways_parts : (says : Asked) (us vs : List Untold) → AreWaysTold says (us ++ vs) → AreWaysTold says us × AreWaysTold says vs
ways_parts (Never w) us vs told = (tt, tt)
ways_parts (Leads w ls) us vs told = (tt, tt)
ways_parts (Always w) us vs told = (tt, tt)
ways_parts (Reaches ls) us vs told = nil_parts us vs told
ways_parts Enforced us vs told = (tt, tt)

module _
    (first : Bool)
    (says : Asked)
    (At Bt : Label → AllFound → Type 0)
    (all : (l : Label) (fs : AllFound) → fs.list ≡ [] → fs.apart ≡ [] → AreWaysTold says fs.untold → At l fs → Bt l fs) where
  each_all : (ls : List Label) (found : List AllFound) → flat_map (λ (fs : AllFound). fs.list) found ≡ []
      → flat_map (λ (fs : AllFound). fs.apart) found ≡ [] → AreWaysTold says (flat_map (λ (fs : AllFound). fs.untold) found)
      → AreFoundAt first At ls found → AreFoundAt first Bt ls found
  each_all [] found none quiet told are = are
  each_all (l ∷ ls) [] none quiet told are = absurd are
  each_all (l ∷ ls) (fs ∷ found) none quiet told are =
      let a = nil_parts fs.list (flat_map (λ (gs : AllFound). gs.list) found) none in
      let b = nil_parts fs.apart (flat_map (λ (gs : AllFound). gs.apart) found) quiet in
      let t = ways_parts says fs.untold (flat_map (λ (gs : AllFound). gs.untold) found) told in
      (all l fs a.0 b.0 t.0 are.0, on (first && is_found fs) are.1 (λ more. each_all ls found a.1 b.1 t.1 more))
    where
      on : (c : Bool) → MatchBool c (found ≡ []) (AreFoundAt first At ls found) → (AreFoundAt first At ls found → AreFoundAt first Bt ls found)
          → MatchBool c (found ≡ []) (AreFoundAt first Bt ls found)
      on true m rest = m
      on false m rest = rest m

-- ---- what a claim says, and of whom, is the same

module _ (d : Part) (ws : List ClaimWord) where
  never_too : (o : Option ClaimWord) (v : Word) (a : Asked) → IsNeverAskedBy o d ws v a → IsNeverAskedBy o (counting_all d) ws v a
  never_too None v (Never w) h = h
  never_too None v (Leads w ls) h = absurd h
  never_too None v (Always w) h = absurd h
  never_too None v (Reaches ls) h = absurd h
  never_too None v Enforced h = absurd h
  never_too (Some to) v (Never w) h = absurd h
  never_too (Some to) v (Leads w ls) h = h
  never_too (Some to) v (Always w) h = absurd h
  never_too (Some to) v (Reaches ls) h = absurd h
  never_too (Some to) v Enforced h = absurd h

  asked_of_too : (b : Bool) (v : Word) (a : Asked) → MatchBool b (IsNeverAsked d ws v a) (IsAlwaysAsked v a)
      → MatchBool b (IsNeverAsked (counting_all d) ws v a) (IsAlwaysAsked v a)
  asked_of_too true v a h = never_too (keyword_of (codes "to") ws) v a h
  asked_of_too false v a h = h

  asked_for_too : (head asked : ClaimWord) (a : Asked) → IsAskedFor d ws head asked a → IsAskedFor (counting_all d) ws head asked a
  asked_for_too head asked a h = (h.0, h.1, (h.2.0, h.2.1, asked_of_too (is_word (codes "never") head) h.2.0 a h.2.2))

  asked_too : (head asked : ClaimWord) (a : Asked) → IsAskedBy d ws head asked a → IsAskedBy (counting_all d) ws head asked a
  asked_too head asked (Never w) h = asked_for_too head asked (Never w) h
  asked_too head asked (Leads w ls) h = asked_for_too head asked (Leads w ls) h
  asked_too head asked (Always w) h = asked_for_too head asked (Always w) h
  asked_too head asked (Reaches ls) h = h
  asked_too head asked Enforced h = h

somebody_too : (d : Part) (o : Option (List ClaimWord)) → AreSomebody d o → AreSomebody (counting_all d) o
somebody_too d None h = h
somebody_too d (Some ws) h = h

-- nor does it matter for what can break a claim
same_breaks : (d : Part) (ws : List ClaimWord) (w : Word)
    → (never_wrong d w ≡ never_wrong (counting_all d) w) × (leads_wrong d ws w ≡ leads_wrong (counting_all d) ws w)
    × (is_refused_free d w ≡ is_refused_free (counting_all d) w)
same_breaks d ws (Files w) = (refl, refl, refl)
same_breaks d ws (Execs w) = (refl, refl, refl)
same_breaks d ws (One (File r)) = (refl, refl, refl)
same_breaks d ws (One (Link r)) = (refl, refl, refl)
same_breaks d ws (One (Execute r)) = (refl, refl, refl)
same_breaks d ws (One (Cap c)) = (refl, refl, refl)
same_breaks d ws (One (Net f s)) = (refl, refl, refl)
same_breaks d ws (One (Change name)) = (refl, refl, refl)
same_breaks d ws (One (Reload m)) = (refl, refl, refl)

breakable_too : (d : Part) (ws : List ClaimWord) (a : Asked) → unbreakable d ws a ≡ None → unbreakable (counting_all d) ws a ≡ None
breakable_too d ws (Never w) h = sym (same_breaks d ws w).0 ∙ h
breakable_too d ws (Leads w ls) h = sym (same_breaks d ws w).1 ∙ h
breakable_too d ws (Always w) h =
    sym (ap (λ (b : Bool). if is_about_profile d ws || b then None else Some Granted) (same_breaks d ws w).2) ∙ h
breakable_too d ws (Reaches ls) h = h
breakable_too d ws Enforced h = h

pub quiet_answers_count_all : QuietAnswersCountAll
quiet_answers_count_all first d limit ws head asked fs answer nobody quiet told =
    let are = answer.are in
    let text = asked.text.items in
    record {
      says = answer.says;
      is_asked = asked_too d ws head asked answer.says answer.is_asked;
      scope = record {
        within = somebody_too d (names_within ws) answer.scope.within;
        excepted = somebody_too d (names_behind (codes "except") ws) answer.scope.excepted;
        led = somebody_too d (names_led ws) answer.scope.led;
        some = answer.scope.some;
      };
      breakable = breakable_too d ws answer.says answer.breakable;
      are = (
        are.0,
        each_all first answer.says (IsFoundAt d limit answer.says text) (IsFoundAt (counting_all d) limit answer.says text)
            (λ l gs none none_apart all_told is. found_all d limit text l gs none none_apart answer.says all_told is)
            (labels_about ws (first_profiles d.decided.policies.now)) are.0
            (sym (ap (λ (x : AllFound). x.list) are.2) ∙ nobody) (sym (ap (λ (x : AllFound). x.apart) are.2) ∙ quiet)
            (subst (λ (x : AllFound). AreWaysTold answer.says x.untold) are.2 told) are.1,
        are.2,
      );
    }
