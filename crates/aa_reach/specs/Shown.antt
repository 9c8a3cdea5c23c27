-- Answers as they are printed.
-- Source: own.
use Rattle.std.specs.Prelude.{ℕ, ◌==◌, ◌||◌, ◌&&◌, List, [], ◌++◌, length, map, flat_map, codes, decimal, Bool, not, if◌then◌else◌}
use Rattle.aa_ask.specs.Shown.{complain_mark}
use Rattle.aa_reachability.specs.declared.reached.Why.{Why}
use Rattle.aa_reachability.specs.declared.reached.Why.TheVariants.{TooManyPatterns, TooManyStates}
use Rattle.aa_reach.specs.declared.answering.Answer.{Answer}
use Rattle.aa_reach.specs.declared.shown.Manner.{Manner}
use Rattle.aa_reach.specs.Names.{Name, name_in, called}
use Rattle.aa_undecided.specs.Shown.{doubt_text}
use Rattle.aa_reach.specs.Routes.{Turned, Routed, routed, Barred, barred}
use Rattle.aa_reach.specs.Doubts.{Doubted, doubted}

-- a request behind a space, and a mark where complain mode alone grants it
unfoldable pub turn_text : Turned → List ℕ
turn_text t = codes " " ++ t.word ++ complain_mark t.complains

-- where a task begins, where several labels are asked about
abbrev pub from_mark : Bool → Name → List ℕ
from_mark has_fronts from = if has_fronts then codes "from " ++ called from ++ codes ": " else []

-- LABEL WORD WORD..: the requests of one task, one after another, and the label that they lead to
unfoldable pub route_line : Manner → Name → Routed → List ℕ
route_line m from r = from_mark m.has_fronts from ++ called r.to ++ flat_map turn_text r.turns ++ codes "\n"

-- what is said of requests of which some are at unclean paths, where only such lead there
unfoldable pub apart_words : List ℕ
apart_words = codes "only at unclean paths "

-- what is said of a label from which it isn't told where requests lead on
unfoldable pub not_told_words : List ℕ
not_told_words = codes "not told from "

-- only at unclean paths LABEL WORD WORD..: so of one to which requests at clean paths alone don't lead
unfoldable pub apart_line : Manner → Name → Routed → List ℕ
apart_line m from r =
    from_mark m.has_fronts from ++ apart_words ++ called r.to ++ flat_map turn_text r.turns ++ codes "\n"

-- undecided LABEL: an execution or a change could lead into skipped files there, of which the first is named
unfoldable pub doubt_lines : Manner → Name → Doubted → List ℕ
doubt_lines m from d = from_mark m.has_fronts from ++ doubt_text (record { word = called d.at; files = d.files })

-- why it isn't told where requests lead on
abbrev pub why_text : ℕ → Why → List ℕ
why_text limit TooManyPatterns = codes "have more than 65535 patterns together\n"
why_text limit TooManyStates = codes "need more than " ++ decimal limit ++ codes " states together; --states allows more\n"

-- only at unclean paths not told from LABEL: the rules ..: so of one from which it isn't told where requests lead on, and why
unfoldable pub apart_bar_line : Manner → Name → Barred → List ℕ
apart_bar_line m from b =
    from_mark m.has_fronts from ++ apart_words ++ not_told_words ++ called b.at ++ codes ": the rules " ++ why_text m.limit b.why

-- only at unclean paths undecided LABEL: so of one at which an execution or a change could lead into skipped files
unfoldable pub apart_doubt_lines : Manner → Name → Doubted → List ℕ
apart_doubt_lines m from d = from_mark m.has_fronts from ++ apart_words ++ doubt_text (record { word = called d.at; files = d.files })

-- what is told of requests of which some are at unclean paths, where these don't count
abbrev pub apart_text : Manner → Answer → List ℕ
apart_text m a =
    flat_map (apart_line m (name_in a.from)) (map routed a.unclean.routes.items)
    ++ flat_map (apart_bar_line m (name_in a.from)) (map barred a.unclean.bars.items)
    ++ flat_map (apart_doubt_lines m (name_in a.from)) (map doubted a.unclean.doubts.items)

-- it is known which labels are reached
abbrev pub is_known : Answer → Bool
is_known a = length a.bars.items == 0 && length a.doubts.items == 0

-- none of the labels that are asked for is reached, which is told where it is known
abbrev pub none_line : Manner → Answer → List ℕ
none_line m a =
    if not (length a.routes.items == 0) || not (is_known a) then [] else from_mark m.has_fronts (name_in a.from) ++ codes "no\n"

-- there may be more labels, where it isn't known which are reached
abbrev pub at_least : Answer → List ℕ
at_least a = if is_known a then [] else codes "at least "

-- N of M labels from LABEL
unfoldable pub labels_line : Manner → Answer → List ℕ
labels_line m a =
    decimal (length a.routes.items) ++ codes " of " ++ decimal m.labels ++ codes " labels from " ++ called (name_in a.from) ++ codes "\n"

-- so many labels, or at least so many
abbrev pub count_line : Manner → Answer → List ℕ
count_line m a = at_least a ++ labels_line m a

-- what stands behind the routes
abbrev pub end_line : Manner → Answer → List ℕ
end_line m a = if m.is_sought then none_line m a else count_line m a

-- the lines of an answer
abbrev pub answer_text : Manner → Answer → List ℕ
answer_text m a =
    flat_map (route_line m (name_in a.from)) (map routed a.routes.items) ++ flat_map (doubt_lines m (name_in a.from)) (map doubted a.doubts.items)
    ++ end_line m a ++ apart_text m a

-- from which label it isn't told
unfoldable pub bar_line : ℕ → Barred → List ℕ
bar_line limit b = codes "error: at " ++ called b.at ++ codes " the rules " ++ why_text limit b.why

-- what an answer doesn't tell
abbrev pub untold_text : ℕ → Answer → List ℕ
untold_text limit a = flat_map (bar_line limit) (map barred a.bars.items)

-- at a label of an answer something is undecided
abbrev pub is_undecided : Answer → Bool
is_undecided a = not (length a.doubts.items == 0)

-- a label that is wanted is reached
abbrev pub is_reached : Answer → Bool
is_reached a = not (length a.routes.items == 0)
