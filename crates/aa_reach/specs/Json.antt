-- Answers as they are printed in JSON.
-- Source: own.
use Rattle.std.specs.Prelude.{ℕ, ◌==◌, List, [], ◌++◌, length, map, codes, decimal, if◌then◌else◌}
use Rattle.aa_text.specs.Jsons.{json_bytes, key_text, bool_text, member_text, list_text}
use Rattle.aa_reach.specs.declared.parts.Told.{Told}
use Rattle.aa_reach.specs.declared.answering.Answer.{Answer}
use Rattle.aa_reach.specs.Names.{Name, name_in}
use Rattle.aa_undecided.specs.Answers.{PlacedFile}
use Rattle.aa_undecided.specs.Jsons.{json_placed}
use Rattle.aa_reach.specs.Routes.{Turned, Routed, routed, Barred, barred}
use Rattle.aa_reach.specs.Doubts.{Doubted, doubted}

-- the full name of a profile, or null where the task isn't confined
abbrev pub json_name : Name → List ℕ
json_name n = if n.confined then json_bytes n.text else codes "null"

-- a request, and whether it is granted by complain mode alone
unfoldable pub json_turn : Turned → List ℕ
json_turn t = codes "{" ++ key_text (codes "request") ++ json_bytes t.word ++ member_text (codes "complain") (bool_text t.complains) ++ codes "}"

-- a label, and the requests that lead there
unfoldable pub json_route : Routed → List ℕ
json_route r = codes "{" ++ key_text (codes "profile") ++ json_name r.to ++ member_text (codes "requests") (list_text (map json_turn r.turns)) ++ codes "}"

-- labels to which only requests of which some are at unclean paths lead, where there are some
abbrev pub json_apart : List Routed → List ℕ
json_apart routes = if length routes == 0 then [] else member_text (codes "unclean") (list_text (map json_route routes))

-- a label from which it isn't told where requests lead on
abbrev pub json_bar : Barred → List ℕ
json_bar b = json_name b.at

-- such labels to which only requests lead of which some are at unclean paths, where there are some
abbrev pub json_apart_bars : List Barred → List ℕ
json_apart_bars bars = if length bars == 0 then [] else member_text (codes "unclean_untold") (list_text (map json_bar bars))

-- a label at which an execution or a change could lead into skipped files, and these
unfoldable pub json_doubt : Doubted → List ℕ
json_doubt d = codes "{" ++ key_text (codes "profile") ++ json_name d.at ++ member_text (codes "skipped") (list_text (map json_placed d.files)) ++ codes "}"

-- such labels, where there are some
abbrev pub json_doubts : List Doubted → List ℕ
json_doubts doubts = if length doubts == 0 then [] else member_text (codes "undecided") (list_text (map json_doubt doubts))

-- those to which only requests lead of which some are at unclean paths, so too
abbrev pub json_apart_doubts : List Doubted → List ℕ
json_apart_doubts doubts = if length doubts == 0 then [] else member_text (codes "unclean_undecided") (list_text (map json_doubt doubts))

-- what is told of requests of which some are at unclean paths, where these don't count
unfoldable pub json_unclean : Told → List ℕ
json_unclean t =
    json_apart (map routed t.routes.items) ++ json_apart_bars (map barred t.bars.items) ++ json_apart_doubts (map doubted t.doubts.items)

-- behind the labels that are reached: what is told of unclean paths apart, the labels from which it isn't told where requests lead on, and
-- those at which something is undecided
unfoldable pub json_beside : Answer → List ℕ
json_beside a =
    json_unclean a.unclean ++ member_text (codes "untold") (list_text (map json_bar (map barred a.bars.items)))
    ++ json_doubts (map doubted a.doubts.items)

-- a label where a task begins, those that it can get to, and what stands behind them
unfoldable pub json_answer : Answer → List ℕ
json_answer a =
    codes "{" ++ key_text (codes "from") ++ json_name (name_in a.from) ++ member_text (codes "reached") (list_text (map json_route (map routed a.routes.items)))
    ++ json_beside a ++ codes "}"

-- the files that are skipped, where there are some
abbrev pub json_skipped : List PlacedFile → List ℕ
json_skipped files = if length files == 0 then [] else member_text (codes "skipped") (list_text (map json_placed files))

-- the answers, how many labels there are, how many rules decide nothing, and the files that are skipped
unfoldable pub json_answers : ℕ → ℕ → List PlacedFile → List Answer → List ℕ
json_answers labels passed skipped answers =
    codes "{" ++ key_text (codes "answers") ++ list_text (map json_answer answers) ++ member_text (codes "labels") (decimal labels)
    ++ member_text (codes "passed_over") (decimal passed) ++ json_skipped skipped ++ codes "}\n"
