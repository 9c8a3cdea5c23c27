-- The profiles against which a claim is broken.
-- Source: own.
use Rattle.std.specs.Prelude.{◌≡◌, ℕ, suc, ◌&&◌, not, List, [], ◌∷◌, map, flat_map, filter, Bool, true, false, Option, Some, None, MatchBool, if◌then◌else◌}
use Rattle.std.specs.Option.{option_map_or}
use Rattle.std.specs.List.{slice_get}
use Rattle.aa_model.specs.declared.policy.Policy.{Policy}
use Rattle.aa_model.specs.declared.policy.Profile.{Profile}
use Rattle.aa_model.specs.declared.label.Label.{Label}
use Rattle.aa_model.specs.declared.label.Label.TheVariants.{Unconfined, Confined}
use Rattle.aa_compile.specs.FileRules.{is_nil}
use Rattle.aa_reachability.specs.declared.reached.Why.{Why}
use Rattle.aa_skipped.specs.declared.skipped.Skipped.{Skipped}
use Rattle.aa_compile.specs.Labels.{first_profiles}
use Rattle.aa_ask.specs.Told.{Told, told}
use Rattle.aa_ask.specs.Verdicts.{profile_at}
use Rattle.aa_unclean_paths.specs.Requests.{does_request_count}
use Rattle.aa_who.specs.Untold.{Untold, untold, untold_at}
use Rattle.aa_quantifiers.specs.declared.word.Word.{Word}
use Rattle.aa_claims.specs.declared.words.ClaimWord.{ClaimWord}
use Rattle.aa_undecided.specs.Answers.{PlacedFile, placed, placed_all, files_deciding}
use Rattle.aa_quantifiers.specs.Doubts.{is_open_word}
use Rattle.aa_assert.specs.declared.part.Part.{Part}
use Rattle.aa_assert.specs.declared.asked.Asked.{Asked}
use Rattle.aa_assert.specs.declared.asked.Asked.TheVariants.{Never, Leads, Always, Reaches, Enforced}
use Rattle.aa_assert.specs.declared.passage.Passage.{Passage}
use Rattle.aa_assert.specs.declared.passage.Passage.TheVariants as passage
use Rattle.aa_assert.specs.Passages.{going, WayTold, way_told, way_in, untold_line, do_count, IsPassage}
use Rattle.aa_quantifiers.specs.declared.aim.Labels.{Labels}
use Rattle.aa_quantifiers.specs.Quantities.{IsAnswered}
use Rattle.aa_model.specs.declared.request.Request.{Request}
use Rattle.aa_assert.specs.Leading.{IsLedTo}
use Rattle.aa_assert.specs.declared.judging.Judgement.{Judgement}
use Rattle.aa_assert.specs.declared.judging.Judgement.TheVariants as is
use Rattle.aa_assert.specs.declared.finding.Finding.{Finding}
use Rattle.aa_assert.specs.declared.finding.Finding.TheVariants as finding
use Rattle.aa_assert.specs.declared.finding.Findings.{Findings}
use Rattle.aa_assert.specs.Enforced.{complains_at, enforced_on}
use Rattle.aa_assert.specs.Scope.{is_about, is_about_free, may_concern}
use Rattle.aa_assert.specs.Judging.{IsJudged}

-- a claim is broken by a request, with the verdict on it where rules are enforced, by a profile that complains or one that doesn't; or by
-- the profile of that name, which complains
pub data Found : Type 0 where
  ByRequest : Bool → Told → Found
  ByWay : Bool → WayTold → Found
  Complaining : List ℕ → Found

-- so, without where it lies in memory
abbrev pub found : Finding → Found
found (finding.ByRequest complains v) = ByRequest complains (told v)
found (finding.ByWay complains w) = ByWay complains (way_in w)
found (finding.Complaining name) = Complaining name.items

-- by whom a claim is broken, by whom at unclean paths alone, where these don't count, and those of whom that can't be told; and skipped files
-- that could break it
pub record AllFound : Type 0 where
  pub list : List Found
  pub apart : List Found
  pub untold : List Untold
  pub doubt : List PlacedFile

-- all of them
abbrev pub all_found : Findings → AllFound
all_found fs =
    record { list = map found fs.list.items; apart = map found fs.apart.items; untold = map untold fs.untold.items; doubt = placed_all fs.doubt.items }

-- ---- at a label

-- by what is known of a skipped file's profiles, these could change what is answered to requests of the word at a label
abbrev pub could_change : List Profile → Label → Word → Skipped → Bool
could_change profiles l w k = is_open_word profiles k.unread l w

-- the files of which that is so
abbrev pub files_changing_in : List Skipped → Label → Word → Policy → List PlacedFile
files_changing_in skipped l w policy = map placed (filter (could_change policy.profiles l w) skipped)

-- the same by the one policy
abbrev pub files_changing : Part → Label → Word → List PlacedFile
files_changing d l w = option_map_or (files_changing_in d.skipped.now l w) (slice_get d.decided.policies.now 0) []

-- these, or else those
abbrev pub or_else : List PlacedFile → List PlacedFile → List PlacedFile
or_else [] others = others
or_else (file ∷ files) others = file ∷ files

-- what is told, where none of these files could decide it
abbrev pub told_unless : List PlacedFile → Found → List Found
told_unless [] f = f ∷ []
told_unless (file ∷ files) f = []

-- by what a claim is broken at a label, as it is judged
abbrev pub broken_by : Part → Label → Judgement → List Found
broken_by d l (is.Broken r) =
    told_unless (files_deciding d.decided.policies.now d.skipped.now l r) (ByRequest (complains_at d.decided.policies.now l) (enforced_on d.decided l r))
broken_by d l _ = []

-- it counts: no request at an unclean path, or such requests count
abbrev pub counts : Part → Judgement → Bool
counts d (is.Broken r) = does_request_count d.unclean r
counts d _ = true

-- by what it is broken, if that is wanted
abbrev pub broken_if : Bool → Part → Label → Judgement → List Found
broken_if wanted d l j = if wanted then broken_by d l j else []

-- that it can't be told there
abbrev pub untold_by : List Policy → Label → Judgement → List Untold
untold_by ps l (is.Untold line) = untold_at ps l line.items ∷ []
untold_by ps l _ = []

-- these, and the files that could change what is answered to requests of the word
abbrev pub judged_found : Part → Label → Word → Judgement → AllFound
judged_found d l w j = record {
  list = broken_if (counts d j) d l j;
  apart = broken_if (not (counts d j)) d l j;
  untold = untold_by d.decided.policies.now l j;
  doubt = files_changing d l w;
}

-- what is found of the claim that of no request of the word it is so
abbrev pub IsFoundOf : Part → ℕ → Label → (Request → Type 0) → Word → List ℕ → AllFound → Type 0
IsFoundOf d limit l Is w text fs = (j : Judgement) × IsJudged d.decided.policies.now limit l Is w text j × (fs ≡ judged_found d l w j)

-- the skipped files that could decide the first of some requests, asked one after another, that any could decide
abbrev pub files_on_way : List Policy → List Skipped → Label → List Request → List PlacedFile
files_on_way ps skipped l [] = []
files_on_way ps skipped l (r ∷ rs) = or_else (files_deciding ps skipped l r) (files_on_way ps skipped (going ps l r) rs)

-- a list of requests that leads a task from a label to another
abbrev pub by_way : Part → Label → List Request → List Found
by_way d l way =
    told_unless (files_on_way d.decided.policies.now d.skipped.now l way)
    (ByWay (complains_at d.decided.policies.now l) (way_told d.decided.policies.now l way))

-- so, where requests at unclean paths count
abbrev pub by_unclean_way : Part → Label → List Request → List Found
by_unclean_way d l way = if d.unclean then by_way d l way else []

-- by what the claim is broken that none leads it there: by a list; or, where it can't be told whether one at clean paths leads there, by one
-- that has unclean ones, if these count
abbrev pub passed_by : Part → Label → Passage → List Found
passed_by d l (passage.Through way) = by_way d l way.items
passed_by d l (passage.CleanUntold way at why) = by_unclean_way d l way.items
passed_by d l _ = []

-- it counts: each request of the list does
abbrev pub way_counts : Part → Passage → Bool
way_counts d (passage.Through way) = do_count d.unclean way.items
way_counts d _ = true

-- by what it is broken, if that is wanted
abbrev pub passed_if : Bool → Part → Label → Passage → List Found
passed_if wanted d l p = if wanted then passed_by d l p else []

-- that it isn't told at that label where requests lead on
abbrev pub untold_past : List Policy → ℕ → Label → Label → Why → List Untold
untold_past ps limit l at why = untold_at ps l (untold_line ps limit at why) ∷ []

-- so of requests at clean paths, where those at unclean ones don't count
abbrev pub clean_untold_past : Part → ℕ → Label → Label → Why → List Untold
clean_untold_past d limit l at why = if d.unclean then [] else untold_past d.decided.policies.now limit l at why

-- that it can't be told
abbrev pub untold_of : Part → ℕ → Label → Passage → List Untold
untold_of d limit l (passage.Untold at why) = untold_past d.decided.policies.now limit l at why
untold_of d limit l (passage.CleanUntold way at why) = clean_untold_past d limit l at why
untold_of d limit l _ = []

-- these; and each skipped file could lead further
abbrev pub passage_found : Part → ℕ → Label → Passage → AllFound
passage_found d limit l p = record {
  list = passed_if (way_counts d p) d l p;
  apart = passed_if (not (way_counts d p)) d l p;
  untold = untold_of d limit l p;
  doubt = map placed d.skipped.now;
}

-- what is found of the claim that a task doesn't come to these labels
abbrev pub IsFoundOfPassage : Part → ℕ → Label → Labels → AllFound → Type 0
IsFoundOfPassage d limit l ls fs = (p : Passage) × IsPassage d.decided.policies.now limit l ls p × (fs ≡ passage_found d limit l p)

-- a profile, if it complains
abbrev pub complaining_in : Option Profile → List Found
complaining_in None = []
complaining_in (Some p) = if p.complain then Complaining p.name ∷ [] else []

-- that of a label
abbrev pub complaining_found : List Policy → Label → AllFound
complaining_found ps l = record { list = complaining_in (profile_at ps l); apart = []; untold = []; doubt = [] }

-- what is found at a label of a claim that says this, whose word has this text
abbrev pub IsFoundAt : Part → ℕ → Asked → List ℕ → Label → AllFound → Type 0
IsFoundAt d limit (Never w) text l fs = IsFoundOf d limit l (IsAnswered d.decided.policies.now l true) w text fs
IsFoundAt d limit (Leads w ls) text l fs = IsFoundOf d limit l (IsLedTo d.decided.policies.now l ls) w text fs
IsFoundAt d limit (Always w) text l fs = IsFoundOf d limit l (IsAnswered d.decided.policies.now l false) w text fs
IsFoundAt d limit (Reaches ls) text l fs = IsFoundOfPassage d limit l ls fs
IsFoundAt d limit Enforced text l fs = fs ≡ complaining_found d.decided.policies.now l

-- ---- at all labels that a claim is about

-- somebody is found
abbrev pub is_found : AllFound → Bool
is_found fs = not (is_nil fs.list)

-- what is found at each of some labels, in their order; where the first is wanted alone, nothing behind one at which somebody is found
abbrev pub AreFoundAt : Bool → (Label → AllFound → Type 0) → List Label → List AllFound → Type 0
AreFoundAt first At [] found = found ≡ []
AreFoundAt first At (l ∷ ls) [] = ⊥
AreFoundAt first At (l ∷ ls) (fs ∷ found) = At l fs × MatchBool (first && is_found fs) (found ≡ []) (AreFoundAt first At ls found)

-- of lists of files the first that isn't empty
abbrev pub first_some : List (List PlacedFile) → List PlacedFile
first_some [] = []
first_some (files ∷ rest) = or_else files (first_some rest)

-- all that is found, where these files may have profiles that the claim is about
abbrev pub all_of : List PlacedFile → List AllFound → AllFound
all_of concerned found =
    record {
      list = flat_map (λ (fs : AllFound). fs.list) found;
      apart = flat_map (λ (fs : AllFound). fs.apart) found;
      untold = flat_map (λ (fs : AllFound). fs.untold) found;
      doubt = or_else concerned (first_some (map (λ (fs : AllFound). fs.doubt) found));
    }

-- the labels of profiles that a claim of these words is about, where the first of them has that number
abbrev pub labels_from : List ClaimWord → ℕ → List Profile → List Label
labels_from ws n [] = []
labels_from ws n (p ∷ ps) = if is_about ws p.name then Confined 0 n ∷ labels_from ws (suc n) ps else labels_from ws (suc n) ps

-- the labels that it is about, if there are these profiles: of tasks without a profile, and of profiles, in this order
abbrev pub labels_about : List ClaimWord → List Profile → List Label
labels_about ws ps = if is_about_free ws then Unconfined 0 ∷ labels_from ws 0 ps else labels_from ws 0 ps

-- the skipped files that may have a profile which it is about
abbrev pub files_concerned : List ClaimWord → Part → List PlacedFile
files_concerned ws d = map placed (filter (may_concern ws) d.skipped.now)

-- by whom of tasks without a profile and of these profiles a claim of these words is broken, which says this
abbrev pub AreFoundOf : Bool → Part → ℕ → List ClaimWord → Asked → List ℕ → List Profile → AllFound → Type 0
AreFoundOf first d limit ws says text ps fs =
    (found : List AllFound) × AreFoundAt first (IsFoundAt d limit says text) (labels_about ws ps) found × (fs ≡ all_of (files_concerned ws d) found)

-- by whom of all
abbrev pub AreFound : Bool → Part → ℕ → List ClaimWord → Asked → List ℕ → AllFound → Type 0
AreFound first d limit ws says text fs = AreFoundOf first d limit ws says text (first_profiles d.decided.policies.now) fs
