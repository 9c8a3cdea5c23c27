-- What the answers to a claim say of it: whether it holds, also by the policy of all files, whatever profiles the skipped ones have.
-- Source: own.
use Rattle.std.specs.Prelude.{◌≡◌, ℕ, List, [], ◌∷◌, Bool, true, false, not, Some, Contains}
use Rattle.std.specs.Option.{option_map_or}
use Rattle.std.specs.List.{All, slice_get}
use Rattle.aa_pattern.specs.Globs.{IsNonzeroByte}
use Rattle.aa_model.specs.declared.policy.Policy.{Policy}
use Rattle.aa_model.specs.declared.policy.Profile.{Profile}
use Rattle.aa_model.specs.declared.label.Label.{Label}
use Rattle.aa_model.specs.declared.label.Label.TheVariants.{Unconfined, Confined}
use Rattle.aa_model.specs.declared.request.Request.{Request}
use Rattle.aa_compile.specs.Labels.{profile_in, first_profiles}
use Rattle.aa_mediate.specs.Reply.{reply}
use Rattle.aa_ask.specs.Told.{is_same}
use Rattle.aa_ask.specs.Verdicts.{profile_at}
use Rattle.aa_representatives.specs.Askable.{IsAskable}
use Rattle.aa_reachability.specs.Moves.{label_next}
use Rattle.aa_reachability.specs.Reach.{led_by, AreTold}
use Rattle.aa_skipping.specs.Laws.{moved}
use Rattle.aa_undecided.specs.Answers.{files_deciding}
use Rattle.aa_undecided.specs.Holding.{IsWhole}
use Rattle.aa_quantifiers.specs.declared.aim.Labels.{Labels}
use Rattle.aa_quantifiers.specs.declared.word.Word.{Word}
use Rattle.aa_quantifiers.specs.Words.{IsOf}
use Rattle.aa_quantifiers.specs.Quantities.{grants, IsAnswered}
use Rattle.aa_unclean_paths.specs.Requests.{does_request_count}
use Rattle.aa_who.specs.Untold.{Untold}
use Rattle.aa_who.specs.Enforced.{AreEnforcing}
use Rattle.aa_claims.specs.declared.words.ClaimWord.{ClaimWord}
use Rattle.aa_claims.specs.Forms.{names_led}
use Rattle.aa_assert.specs.declared.asked.Asked.{Asked}
use Rattle.aa_assert.specs.declared.asked.Asked.TheVariants.{Never, Leads, Always, Reaches, Enforced}
use Rattle.aa_assert.specs.declared.part.Part.{Part}
use Rattle.aa_assert.specs.Enforced.{complains_at, enforced_on}
use Rattle.aa_assert.specs.Judging.{IsBroken}
use Rattle.aa_assert.specs.Leading.{is_named_in}
use Rattle.aa_assert.specs.Passages.{going, do_count, IsTellable, way_told}
use Rattle.aa_assert.specs.Scope.{is_about, is_about_free, names_free}
use Rattle.aa_assert.specs.Findings.{AllFound, Found, ByRequest, ByWay, Complaining, files_on_way}
use Rattle.aa_assert.specs.Answers.{IsAnswerBy}

-- ---- what it means that a claim is broken

-- `to` or `reach` names tasks without a profile, or the profile of the label
abbrev pub is_led_to : List Policy → List ClaimWord → Label → Bool
is_led_to ps ws (Unconfined k) = names_free (names_led ws)
is_led_to ps ws (Confined k n) = option_map_or (is_named_in (names_led ws)) (slice_get (first_profiles ps) n) false

-- the rules allow the request at the label, and a label that the claim names is the task's then
abbrev pub EndsThere : List Policy → List ClaimWord → Label → Request → Type 0
EndsThere ps ws l r = (grants (reply ps l r) ≡ true) × (is_led_to ps ws (reply ps l r).label ≡ true)

-- requests that can be asked, which lead one after another, where rules are enforced, from the label to another that the claim names
pub record ComesThere (ps : List Policy) (ws : List ClaimWord) (l : Label) (rs : List Request) : Type 0 where
  pub asked : All IsAskable rs
  pub leaves : is_same l (led_by (going ps) l rs) ≡ false
  pub arrives : is_led_to ps ws (led_by (going ps) l rs) ≡ true

-- it is so of a request that counts: it is at no unclean path, or these count
abbrev pub Counted : Bool → (Request → Type 0) → Request → Type 0
Counted unclean Is r = (does_request_count unclean r ≡ true) × Is r

-- a claim of these words that says this is broken at a label: a request of its word that counts is granted, or ends at a label that it names,
-- or isn't granted; or requests that count come to one; or the profile complains
abbrev pub IsBrokenAt : Bool → List Policy → List ClaimWord → Label → Asked → Type 0
IsBrokenAt unclean ps ws l (Never w) = IsBroken w (Counted unclean (IsAnswered ps l true))
IsBrokenAt unclean ps ws l (Leads w ls) = IsBroken w (Counted unclean (EndsThere ps ws l))
IsBrokenAt unclean ps ws l (Always w) = IsBroken w (Counted unclean (IsAnswered ps l false))
IsBrokenAt unclean ps ws l (Reaches ls) = (rs : List Request) × (do_count unclean rs ≡ true) × ComesThere ps ws l rs
IsBrokenAt unclean ps ws l Enforced = complains_at ps l ≡ true

-- it is broken by nobody whom it is about: neither by tasks without a profile nor by profiles
pub record Holds (unclean : Bool) (ps : List Policy) (ws : List ClaimWord) (says : Asked) : Type 0 where
  pub free : is_about_free ws ≡ true → IsBrokenAt unclean ps ws (Unconfined 0) says → ⊥
  pub each : (n : ℕ) (p : Profile) → profile_in ps 0 n ≡ Some p → is_about ws p.name ≡ true → IsBrokenAt unclean ps ws (Confined 0 n) says → ⊥

-- ---- what an answer says

-- nobody breaks a claim, that can be told of everybody, and no skipped file could break it
pub record IsClear (fs : AllFound) : Type 0 where
  pub nobody : fs.list ≡ []
  pub told : fs.untold ≡ []
  pub sure : fs.doubt ≡ []

-- a claim that is clear holds, as far as requests count
abbrev pub ClearClaimsHold : Type 0
ClearClaimsHold = (first : Bool) (d : Part) (limit : ℕ) (ws : List ClaimWord) (head asked : ClaimWord) (fs : AllFound)
    → (answer : IsAnswerBy first d limit ws head asked fs) → IsClear fs → Holds d.unclean d.decided.policies.now ws answer.says

-- the label is that of tasks without a profile, or of a profile, and the claim is about these
abbrev pub IsAbout : List Policy → List ClaimWord → Label → Type 0
IsAbout ps ws (Unconfined k) = (k ≡ 0) × (is_about_free ws ≡ true)
IsAbout ps ws (Confined k n) = (k ≡ 0) × ((p : Profile) × (profile_in ps 0 n ≡ Some p) × (is_about ws p.name ≡ true))

-- what is told is the verdict on a request of the word of which it is so
abbrev pub ByRequestOf : Part → Label → Word → (Request → Type 0) → Found → Type 0
ByRequestOf d l w Is f = (r : Request) × IsOf w r × Is r × (f ≡ ByRequest (complains_at d.decided.policies.now l) (enforced_on d.decided l r))

-- what is told are requests that come to a label which the claim names, and that all count, or don't
abbrev pub ByWayOf : Part → List ClaimWord → Label → Bool → Found → Type 0
ByWayOf d ws l counted f =
    (rs : List Request) × (do_count d.unclean rs ≡ counted) × ComesThere d.decided.policies.now ws l rs
    × (f ≡ ByWay (complains_at d.decided.policies.now l) (way_told d.decided.policies.now l rs))

-- what is told shows that a claim of these words, which says this, is broken at the label
abbrev pub Shows : Part → List ClaimWord → Label → Asked → Found → Type 0
Shows d ws l (Never w) f = ByRequestOf d l w (Counted d.unclean (IsAnswered d.decided.policies.now l true)) f
Shows d ws l (Leads w ls) f = ByRequestOf d l w (Counted d.unclean (EndsThere d.decided.policies.now ws l)) f
Shows d ws l (Always w) f = ByRequestOf d l w (Counted d.unclean (IsAnswered d.decided.policies.now l false)) f
Shows d ws l (Reaches ls) f = ByWayOf d ws l true f
Shows d ws l Enforced f = (p : Profile) × (profile_at d.decided.policies.now l ≡ Some p) × (p.complain ≡ true) × (f ≡ Complaining p.name)

-- each by whom a claim is told to be broken is one whom it is about, and breaks it
abbrev pub ToldBreak : Type 0
ToldBreak = (first : Bool) (d : Part) (limit : ℕ) (ws : List ClaimWord) (head asked : ClaimWord) (fs : AllFound)
    → (answer : IsAnswerBy first d limit ws head asked fs) → (f : Found) → Contains fs.list f
    → (l : Label) × IsAbout d.decided.policies.now ws l × Shows d ws l answer.says f

-- it is so of a request that doesn't count
abbrev pub Uncounted : Bool → (Request → Type 0) → Request → Type 0
Uncounted unclean Is r = (does_request_count unclean r ≡ false) × Is r

-- what is told shows that the claim is broken at the label, but by requests that don't count
abbrev pub ShowsApart : Part → List ClaimWord → Label → Asked → Found → Type 0
ShowsApart d ws l (Never w) f = ByRequestOf d l w (Uncounted d.unclean (IsAnswered d.decided.policies.now l true)) f
ShowsApart d ws l (Leads w ls) f = ByRequestOf d l w (Uncounted d.unclean (EndsThere d.decided.policies.now ws l)) f
ShowsApart d ws l (Always w) f = ByRequestOf d l w (Uncounted d.unclean (IsAnswered d.decided.policies.now l false)) f
ShowsApart d ws l (Reaches ls) f = ByWayOf d ws l false f
ShowsApart d ws l Enforced f = ⊥

-- each by whom a claim is told to be broken at unclean paths alone is one whom it is about: none of his requests that count breaks it, nor a
-- list of such, and one that doesn't breaks it, or a list of which one doesn't
abbrev pub ToldApart : Type 0
ToldApart = (first : Bool) (d : Part) (limit : ℕ) (ws : List ClaimWord) (head asked : ClaimWord) (fs : AllFound)
    → (answer : IsAnswerBy first d limit ws head asked fs) → (f : Found) → Contains fs.apart f
    → (l : Label) × IsAbout d.decided.policies.now ws l × ShowsApart d ws l answer.says f
    × (IsBrokenAt d.unclean d.decided.policies.now ws l answer.says → ⊥)

-- all is told of a claim that no list of requests leads to some labels
abbrev pub AreWaysTold : Asked → List Untold → Type 0
AreWaysTold (Reaches ls) untold = untold ≡ []
AreWaysTold _ untold = Unit {0}

-- an answer by which nobody breaks the claim, at unclean paths neither, is the answer where requests at these count as others; of lists that lead
-- to some labels all is told there
abbrev pub QuietAnswersCountAll : Type 0
QuietAnswersCountAll = (first : Bool) (d : Part) (limit : ℕ) (ws : List ClaimWord) (head asked : ClaimWord) (fs : AllFound)
    → (answer : IsAnswerBy first d limit ws head asked fs) → fs.list ≡ [] → fs.apart ≡ [] → AreWaysTold answer.says fs.untold
    → IsAnswerBy first (record d { unclean = true }) limit ws head asked fs

-- requests that count come to a label that the claim names, and lead on from no label but such of which it can be told where requests lead on: if
-- those at unclean paths don't count, where those at clean ones do
pub record ComesToldThere (unclean : Bool) (ps : List Policy) (limit : ℕ) (ws : List ClaimWord) (l : Label) (rs : List Request) : Type 0 where
  pub comes : ComesThere ps ws l rs
  pub counted : do_count unclean rs ≡ true
  pub told : AreTold (going ps) (IsTellable (not unclean) ps limit) l rs

-- where requests come so to a label from one whom it is about, a claim that none does is told to be broken, unless skipped files could break it
abbrev pub ToldWaysBreak : Type 0
ToldWaysBreak = (first : Bool) (d : Part) (limit : ℕ) (ws : List ClaimWord) (head asked : ClaimWord) (fs : AllFound)
    → (answer : IsAnswerBy first d limit ws head asked fs) → (ls : Labels) → answer.says ≡ Reaches ls → (l : Label)
    → IsAbout d.decided.policies.now ws l → (rs : List Request) → ComesToldThere d.unclean d.decided.policies.now limit ws l rs
    → fs.doubt ≡ [] → fs.list ≡ [] → ⊥

-- one by whom a claim is told to be broken so that it counts is such that it doesn't hold
abbrev pub ToldFail : Type 0
ToldFail = (first : Bool) (d : Part) (limit : ℕ) (ws : List ClaimWord) (head asked : ClaimWord) (fs : AllFound)
    → (answer : IsAnswerBy first d limit ws head asked fs) → (f : Found) → Contains fs.list f
    → Holds d.unclean d.decided.policies.now ws answer.says → ⊥

-- ---- by the policies whose complain flags are cleared

-- what is claimed is what is answered: not that no profile complains
abbrev pub is_on_answers : Asked → Bool
is_on_answers Enforced = false
is_on_answers _ = true

-- a claim on answers is broken at a label exactly where it is by such policies, which grant nothing by complain mode alone
abbrev pub ClaimsEnforced : Type 0
ClaimsEnforced = (unclean : Bool) (ps qs : List Policy) → AreEnforcing ps qs → (ws : List ClaimWord) (l : Label) (says : Asked) → is_on_answers says ≡ true
    → (IsBrokenAt unclean ps ws l says → IsBrokenAt unclean qs ws l says) × (IsBrokenAt unclean qs ws l says → IsBrokenAt unclean ps ws l says)

-- requests lead, one after another, where by these the mediator's answers lead
abbrev pub WaysEnforced : Type 0
WaysEnforced = (ps qs : List Policy) → AreEnforcing ps qs → (l : Label) (rs : List Request) → led_by (going ps) l rs ≡ led_by (label_next qs) l rs

-- ---- beside skipped files

-- no name holds a byte that no pattern matches: zero
abbrev pub AreNamesText : Policy → Type 0
AreNamesText whole = (m : ℕ) (q : Profile) → slice_get whole.profiles m ≡ Some q → All IsNonzeroByte q.name

-- a claim that is clear is broken by no profile of that policy that it is about
abbrev pub ClaimsHold : Type 0
ClaimsHold = (first : Bool) (d : Part) (limit : ℕ) (ws : List ClaimWord) (head asked : ClaimWord) (fs : AllFound) (read whole : Policy) (place : ℕ → ℕ)
    → IsWhole d.decided d.skipped.now read whole place → AreNamesText whole → (answer : IsAnswerBy first d limit ws head asked fs) → IsClear fs
    → (m : ℕ) (q : Profile) → slice_get whole.profiles m ≡ Some q → is_about ws q.name ≡ true
    → IsBrokenAt d.unclean (whole ∷ []) ws (Confined 0 m) answer.says → ⊥

-- nor by a task without a profile, where it is about these
abbrev pub FreeClaimsHold : Type 0
FreeClaimsHold = (first : Bool) (d : Part) (limit : ℕ) (ws : List ClaimWord) (head asked : ClaimWord) (fs : AllFound) (read whole : Policy) (place : ℕ → ℕ)
    → IsWhole d.decided d.skipped.now read whole place → (answer : IsAnswerBy first d limit ws head asked fs) → IsClear fs
    → is_about_free ws ≡ true → IsBrokenAt d.unclean (whole ∷ []) ws (Unconfined 0) answer.says → ⊥

-- a request that no skipped file could decide is answered so by that policy: one that breaks a claim breaks it there
abbrev pub BreakingsStand : Type 0
BreakingsStand = (d : Part) (read whole : Policy) (place : ℕ → ℕ) → IsWhole d.decided d.skipped.now read whole place
    → (l : Label) (r : Request) (against : Bool) → files_deciding d.decided.policies.now d.skipped.now l r ≡ []
    → IsAnswered d.decided.policies.now l against r → IsAnswered (whole ∷ []) (moved place l) against r

-- and one that ends at a label which the claim names ends at such a one there
abbrev pub EndingsStand : Type 0
EndingsStand = (d : Part) (read whole : Policy) (place : ℕ → ℕ) → IsWhole d.decided d.skipped.now read whole place
    → (ws : List ClaimWord) (l : Label) (r : Request)
    → files_deciding d.decided.policies.now d.skipped.now l r ≡ [] → EndsThere d.decided.policies.now ws l r → EndsThere (whole ∷ []) ws (moved place l) r

-- requests of which no skipped file could decide any, one after another, lead there to the same profile, or out of all
abbrev pub WaysStand : Type 0
WaysStand = (d : Part) (read whole : Policy) (place : ℕ → ℕ) → IsWhole d.decided d.skipped.now read whole place → (l : Label) (rs : List Request)
    → files_on_way d.decided.policies.now d.skipped.now l rs ≡ []
    → led_by (going (whole ∷ [])) (moved place l) rs ≡ moved place (led_by (going d.decided.policies.now) l rs)

-- so that those which come to a label that a claim names, from another, come to such a one there, from another: a way that breaks the claim
-- breaks it there
abbrev pub ArrivalsStand : Type 0
ArrivalsStand = (d : Part) (read whole : Policy) (place : ℕ → ℕ) → IsWhole d.decided d.skipped.now read whole place
    → (ws : List ClaimWord) (l : Label) (rs : List Request) → files_on_way d.decided.policies.now d.skipped.now l rs ≡ []
    → ComesThere d.decided.policies.now ws l rs → ComesThere (whole ∷ []) ws (moved place l) rs
