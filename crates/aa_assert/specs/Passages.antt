-- Whether a task comes to some labels.
-- Source: own.
use Rattle.std.specs.Prelude.{◌≡◌, ◌≤◌, ◌&&◌, ◌∷◌, ◌++◌, [], ℕ, List, Bool, true, false, not, codes, decimal, length, map, Option, option_map, if◌then◌else◌}
use Rattle.std.specs.List.{All, list_all}
use Rattle.aa_model.specs.declared.policy.Policy.{Policy}
use Rattle.aa_model.specs.declared.label.Label.{Label}
use Rattle.aa_model.specs.declared.request.Request.{Request}
use Rattle.aa_model.specs.declared.request.Request.TheVariants.{Exec}
use Rattle.aa_notation.specs.Kinds.{word_text}
use Rattle.aa_representatives.specs.Askable.{IsAskable}
use Rattle.aa_reachability.specs.declared.reached.Untold.{Untold}
use Rattle.aa_reachability.specs.declared.reached.Why.{Why}
use Rattle.aa_reachability.specs.declared.reached.Why.TheVariants.{TooManyPatterns, TooManyStates}
use Rattle.aa_reachability.specs.Moves.{label_going, IsWhyFor}
use Rattle.aa_reachability.specs.Reach.{led_by, AreTold}
use Rattle.aa_quantifiers.specs.declared.aim.Labels.{Labels}
use Rattle.aa_quantifiers.specs.Aims.{has_label}
use Rattle.aa_ask.specs.Told.{is_same, asker_of}
use Rattle.aa_who.specs.Counts.{asker}
use Rattle.aa_unclean_paths.specs.Requests.{does_request_count}
use Rattle.aa_assert.specs.declared.passage.Lead.{Lead}
use Rattle.aa_assert.specs.declared.passage.Lead.TheVariants as lead
use Rattle.aa_assert.specs.declared.passage.Passage.{Passage}
use Rattle.aa_assert.specs.declared.passage.Passage.TheVariants.{Through, Nowhere, Untold as Unknown, CleanUntold}
use Rattle.aa_assert.specs.declared.way.Way.{Way}

-- the label after a request that complain mode alone doesn't grant
abbrev pub going : List Policy → Label → Request → Label
going ps l r = label_going true ps l r

-- another label than that where the task begins, and one of these
abbrev pub is_elsewhere : Labels → Label → Label → Bool
is_elsewhere ls from l = not (is_same from l) && has_label ls l

-- each of the requests counts: it is at a clean path, or unclean ones count as others
abbrev pub do_count : Bool → List Request → Bool
do_count unclean rs = list_all (does_request_count unclean) rs

-- none of them is at an unclean path
abbrev pub are_clean : List Request → Bool
are_clean rs = do_count false rs

-- executions and changes that can be asked, and lead there one after another
pub record IsWayTo (ps : List Policy) (from : Label) (ls : Labels) (rs : List Request) : Type 0 where
  pub asked : All IsAskable rs
  pub leads : is_elsewhere ls from (led_by (going ps) from rs) ≡ true

-- it can be told where requests, those at clean paths alone or all, lead on from the label: the patterns that decide there are neither too many,
-- nor do they need too many states
abbrev pub IsTellable : Bool → List Policy → ℕ → Label → Type 0
IsTellable clean ps limit l = (why : Why) → IsWhyFor clean ps limit l why → ⊥

-- executions and changes, at clean paths alone or at all, that lead there, and on from no label but such
pub record IsTellableWay (clean : Bool) (ps : List Policy) (limit : ℕ) (from : Label) (ls : Labels) (rs : List Request) : Type 0 where
  pub counted : do_count (not clean) rs ≡ true
  pub told : AreTold (going ps) (IsTellable clean ps limit) from rs
  pub leads : is_elsewhere ls from (led_by (going ps) from rs) ≡ true

-- a list that leads there, at clean paths alone or at all, and none of such is shorter
pub record IsShortestWay (clean : Bool) (ps : List Policy) (limit : ℕ) (from : Label) (ls : Labels) (way : List Request) : Type 0 where
  pub is : IsWayTo ps from ls way
  pub counted : do_count (not clean) way ≡ true
  pub shortest : (rs : List Request) → IsTellableWay clean ps limit from ls rs → length way ≤ length rs

-- the first of the lists that lead there: at clean paths where there is one, and of those a shortest
pub record IsFirstWay (ps : List Policy) (limit : ℕ) (from : Label) (ls : Labels) (way : List Request) : Type 0 where
  pub shortest : IsShortestWay (are_clean way) ps limit from ls way
  pub clean : (rs : List Request) → IsWayTo ps from ls rs → are_clean rs ≡ true → are_clean way ≡ true

-- requests that can be asked, at clean paths alone or at all, lead to a label from which it can't be told where such lead on, for this reason;
-- and where it can be told, none leads there
pub record IsUntellable (clean : Bool) (ps : List Policy) (limit : ℕ) (from : Label) (ls : Labels) (at : Label) (why : Why) : Type 0 where
  pub way : List Request
  pub asked : All IsAskable way
  pub counted : do_count (not clean) way ≡ true
  pub leads : led_by (going ps) from way ≡ at
  pub reason : IsWhyFor clean ps limit at why
  pub none : (rs : List Request) → IsTellableWay clean ps limit from ls rs → ⊥

-- a shortest of the lists that lead there has a request at an unclean path, and whether one at clean paths alone leads there can't be told, for
-- this reason at this label
pub record IsCleanUntellable (ps : List Policy) (limit : ℕ) (from : Label) (ls : Labels) (way : List Request) (at : Label) (why : Why) : Type 0 where
  pub shortest : IsShortestWay false ps limit from ls way
  pub unclean : are_clean way ≡ false
  pub clean : IsUntellable true ps limit from ls at why

-- why it isn't told where requests lead on
abbrev pub why_text : ℕ → Why → List ℕ
why_text limit TooManyPatterns = codes "have more than 65535 patterns together\n"
why_text limit TooManyStates = codes "need more than " ++ decimal limit ++ codes " states together; --states allows more\n"

-- at which label it isn't told
abbrev pub untold_line : List Policy → ℕ → Label → Why → List ℕ
untold_line ps limit at why = codes "error: at " ++ asker ps at ++ codes " the rules " ++ why_text limit why

-- whether requests, those at clean paths alone or all, lead there: a list does; or none; or that can't be told, since it can't be told where
-- they lead on from some label
abbrev pub IsLead : Bool → List Policy → ℕ → Label → Labels → Lead → Type 0
IsLead clean ps limit from ls (lead.Through way) = IsShortestWay clean ps limit from ls way.items
IsLead clean ps limit from ls lead.Nowhere = (rs : List Request) → IsWayTo ps from ls rs → do_count (not clean) rs ≡ true → ⊥
IsLead clean ps limit from ls (lead.Untold at why) = IsUntellable clean ps limit from ls at why

-- the claim that a task comes to none of these labels: it is broken by a list of requests, the first of such; or by none; or that can't be
-- told; or it is broken by a list, a shortest, and only whether one at clean paths breaks it can't be told
abbrev pub IsPassage : List Policy → ℕ → Label → Labels → Passage → Type 0
IsPassage ps limit from ls (Through way) = IsFirstWay ps limit from ls way.items
IsPassage ps limit from ls Nowhere = (rs : List Request) → IsWayTo ps from ls rs → ⊥
IsPassage ps limit from ls (Unknown at why) = IsUntellable false ps limit from ls at why
IsPassage ps limit from ls (CleanUntold way at why) = IsCleanUntellable ps limit from ls way.items at why

-- no list is found: so it is, or it isn't told of the first of these labels where requests lead on
abbrev pub lead_past : List Untold → Lead
lead_past [] = lead.Nowhere
lead_past (u ∷ us) = lead.Untold u.label u.why

-- a list of requests that leads to another label: who begins, where it leads, and the words
pub record WayTold : Type 0 where
  pub asker : Option (List ℕ)
  pub to : Option (List ℕ)
  pub words : List (List ℕ)

-- to execute a file of others, where it is one of the task's user's; all else as it is
abbrev pub as_others : Request → Request
as_others (Exec r) = Exec (record { path = r.path; owned = false })
as_others r = r

-- the request as others own the file, where that leads to the same label
abbrev pub plain : List Policy → Label → Request → Request
plain ps l r = if is_same (going ps l (as_others r)) (going ps l r) then as_others r else r

-- the requests of one task, one after another, as words
unfoldable pub words_by : List Policy → Label → List Request → List (List ℕ)
words_by ps l [] = []
words_by ps l (r ∷ rs) = word_text (plain ps l r) ∷ words_by ps (going ps l r) rs

-- so of a task that begins at a label
abbrev pub way_told : List Policy → Label → List Request → WayTold
way_told ps from way = record { asker = asker_of ps from; to = asker_of ps (led_by (going ps) from way); words = words_by ps from way }

-- so, without where it lies in memory
abbrev pub way_in : Way → WayTold
way_in w = record { asker = option_map (λ n. n.items) w.asker; to = option_map (λ n. n.items) w.to; words = map (λ word. word.items) w.words.items }
