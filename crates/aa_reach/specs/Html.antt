-- The page of labels: what is told of each where a task begins, and the graph of all.
-- Source: own.
use Rattle.std.specs.Prelude.{ℕ, ◌+◌, ◌==◌, ◌||◌, not, max, List, [], ◌∷◌, ◌++◌, length, map, flat_map, codes, decimal, Bool, true}
use Rattle.std.specs.Prelude.{false, if◌then◌else◌}
use Rattle.aa_model.specs.declared.label.Label.{Label}
use Rattle.aa_model.specs.declared.label.Label.TheVariants.{Unconfined, Confined}
use Rattle.aa_files.specs.Texts.{texts}
use Rattle.aa_page.specs.Escaped.{code_text}
use Rattle.aa_page.specs.Pages.{page_start, page_end, section_start, section_end, list_start, list_end}
use Rattle.aa_page.specs.Lines.{plain_start, line_end}
use Rattle.aa_page.specs.Drawing.{drawing_start, drawing_end, node_text, edge_text}
use Rattle.aa_ask.specs.Shown.{complain_mark}
use Rattle.aa_reach.specs.declared.parts.Told.{Told}
use Rattle.aa_reach.specs.declared.answering.Answer.{Answer}
use Rattle.aa_reach.specs.declared.graph.Vertex.{Vertex}
use Rattle.aa_reach.specs.declared.shown.Manner.{Manner}
use Rattle.aa_reach.specs.declared.command.ReachOptions.{ReachOptions}
use Rattle.aa_reach.specs.Names.{Name, name_in, called}
use Rattle.aa_reach.specs.Routes.{Turned, Routed, routed, Barred, barred}
use Rattle.aa_skipped.specs.Telling.{count_text}
use Rattle.aa_reach.specs.Doubts.{Doubted, doubted}
use Rattle.aa_reach.specs.Shown.{turn_text, apart_words, not_told_words, is_known, is_undecided, at_least}
use Rattle.aa_command.specs.Counts.{passed_text}

-- a request, and a mark where complain mode alone grants it
unfoldable pub html_turn : Turned → List ℕ
html_turn t = codes " " ++ code_text t.word ++ complain_mark t.complains

-- a label, and the requests that lead there
unfoldable pub html_route : Routed → List ℕ
html_route r = plain_start ++ code_text (called r.to) ++ flat_map html_turn r.turns ++ line_end

-- a label to which only such lead
unfoldable pub html_apart : Routed → List ℕ
html_apart r = plain_start ++ apart_words ++ code_text (called r.to) ++ flat_map html_turn r.turns ++ line_end

-- a label from which it isn't told where requests lead on
unfoldable pub html_bar : Barred → List ℕ
html_bar b = plain_start ++ not_told_words ++ code_text (called b.at) ++ line_end

-- one to which only requests lead of which some are at unclean paths
unfoldable pub html_apart_bar : Barred → List ℕ
html_apart_bar b = plain_start ++ apart_words ++ not_told_words ++ code_text (called b.at) ++ line_end

-- what is said of a label at which an execution or a change could lead into skipped files
unfoldable pub undecided_words : List ℕ
undecided_words = codes "undecided from "

-- such a label
unfoldable pub html_doubt : Doubted → List ℕ
html_doubt d = plain_start ++ undecided_words ++ code_text (called d.at) ++ line_end

-- one to which only such requests lead
unfoldable pub html_apart_doubt : Doubted → List ℕ
html_apart_doubt d = plain_start ++ apart_words ++ undecided_words ++ code_text (called d.at) ++ line_end

-- to how many labels, or at least how many
unfoldable pub html_labels : Manner → Answer → List ℕ
html_labels m a = codes ": " ++ at_least a ++ decimal (length a.routes.items) ++ codes " of " ++ decimal m.labels ++ codes " labels"

-- none of the labels that are asked for is reached, which is told where it is known
abbrev pub html_none : Answer → List ℕ
html_none a = if not (length a.routes.items == 0) || not (is_known a) then [] else codes ": no"

-- what stands behind the label where a task begins
abbrev pub html_end : Manner → Answer → List ℕ
html_end m a = if m.is_sought then html_none a else html_labels m a

-- the title of an answer
abbrev pub answer_title : Manner → Answer → List ℕ
answer_title m a = codes "from " ++ called (name_in a.from) ++ html_end m a

-- what an answer doesn't tell
abbrev pub html_untold : Answer → List ℕ
html_untold a = flat_map html_bar (map barred a.bars.items) ++ flat_map html_doubt (map doubted a.doubts.items)

-- what is told of requests of which some are at unclean paths, where these don't count
abbrev pub html_unclean : Told → List ℕ
html_unclean t =
    flat_map html_apart (map routed t.routes.items) ++ flat_map html_apart_bar (map barred t.bars.items)
    ++ flat_map html_apart_doubt (map doubted t.doubts.items)

-- what an answer tells, and what it doesn't, in a list
unfoldable pub html_told : Answer → List ℕ
html_told a = list_start ++ flat_map html_route (map routed a.routes.items) ++ html_untold a ++ html_unclean a.unclean ++ list_end

-- an answer, in a section
unfoldable pub html_answer : Manner → Answer → List ℕ
html_answer m a = section_start true (answer_title m a) ++ html_told a ++ section_end

-- which node of the graph a label is: that of tasks without a profile is the first
abbrev pub number_of : Label → ℕ
number_of (Unconfined k) = 0
number_of (Confined k n) = n + 1

-- what stands at a node: the label, and whether something is undecided there
abbrev pub node_name : Vertex → List ℕ
node_name v = called (name_in v.edges.from) ++ (if is_undecided v.edges then codes " (undecided)" else [])

-- a node, of so many
abbrev pub html_node : ℕ → Vertex → List ℕ
html_node count v = node_text count (number_of (name_in v.edges.from).label) (node_name v) v.complains

-- what is told of an edge: both labels, and a request that leads from one to the other
unfoldable pub edge_title : Name → Routed → List ℕ
edge_title from r = called from ++ codes " to " ++ called r.to ++ codes ":" ++ flat_map turn_text r.turns

-- so of one that only unclean paths make
unfoldable pub apart_title : Name → Routed → List ℕ
apart_title from r = apart_words ++ edge_title from r

-- an edge, of a graph of so many nodes
abbrev pub html_edge : ℕ → Name → Routed → List ℕ
html_edge count from r = edge_text count (number_of from.label) (number_of r.to.label) (edge_title from r)

-- one that only unclean paths make
abbrev pub html_apart_edge : ℕ → Name → Routed → List ℕ
html_apart_edge count from r = edge_text count (number_of from.label) (number_of r.to.label) (apart_title from r)

-- the edges from a node
abbrev pub html_edges : ℕ → Vertex → List ℕ
html_edges count v =
    flat_map (html_edge count (name_in v.edges.from)) (map routed v.edges.routes.items)
    ++ flat_map (html_apart_edge count (name_in v.edges.from)) (map routed v.edges.unclean.routes.items)

-- how many bytes the longest name has, and n at least
abbrev pub widest : ℕ → List Vertex → ℕ
widest n [] = n
widest n (v ∷ vs) = widest (max n (length (node_name v))) vs

-- the nodes and the edges
unfoldable pub html_drawing : List Vertex → List ℕ
html_drawing vs =
    drawing_start (length vs) (widest 0 vs) ++ flat_map (html_node (length vs)) vs ++ flat_map (html_edges (length vs)) vs ++ drawing_end

-- the graph, in a section
unfoldable pub html_graph : List Vertex → List ℕ
html_graph vs = section_start true (codes "all labels") ++ html_drawing vs ++ section_end

-- both labels of an edge
unfoldable pub step_labels : Name → Name → List ℕ
step_labels from to = code_text (called from) ++ codes " to " ++ code_text (called to)

-- an edge as a line
unfoldable pub html_step : Name → Routed → List ℕ
html_step from r = plain_start ++ step_labels from r.to ++ flat_map html_turn r.turns ++ line_end

-- so of one that only unclean paths make
unfoldable pub html_apart_step : Name → Routed → List ℕ
html_apart_step from r = plain_start ++ apart_words ++ step_labels from r.to ++ flat_map html_turn r.turns ++ line_end

-- the edges from a node as lines, or that they aren't told
abbrev pub html_steps : Vertex → List ℕ
html_steps v =
    flat_map (html_step (name_in v.edges.from)) (map routed v.edges.routes.items) ++ html_untold v.edges
    ++ flat_map (html_apart_step (name_in v.edges.from)) (map routed v.edges.unclean.routes.items)

-- all edges, in a section that is folded at first
unfoldable pub html_all_steps : List Vertex → List ℕ
html_all_steps vs = section_start false (codes "each step") ++ list_start ++ flat_map html_steps vs ++ list_end ++ section_end

-- a path behind a space
abbrev pub html_path : List ℕ → List ℕ
html_path path = codes " " ++ code_text path

-- whether what complain mode alone grants is left out
abbrev pub enforced_mark : Bool → List ℕ
enforced_mark enforced = if enforced then codes " as enforced" else []

-- the begin of the paragraph of files
unfoldable pub files_words : List ℕ
files_words = codes "<p>labels of"

-- which files are asked about
unfoldable pub html_files : ReachOptions → List ℕ
html_files o = files_words ++ flat_map html_path (texts o.files.now) ++ enforced_mark o.as_enforced ++ codes "</p>\n"

-- how many rules decide nothing, where there are some
abbrev pub html_passed : ℕ → List ℕ
html_passed n = if n == 0 then [] else codes "<p>" ++ passed_text n ++ codes "</p>\n"

-- how many files are skipped, so too
abbrev pub html_skipped : ℕ → List ℕ
html_skipped n = if n == 0 then [] else codes "<p>" ++ count_text n ++ codes "</p>\n"

-- both
unfoldable pub html_counts : ℕ → ℕ → List ℕ
html_counts passed skipped = html_passed passed ++ html_skipped skipped

-- the page's title
unfoldable pub page_title : List ℕ
page_title = codes "aapolicy reach"

-- the head of the page
unfoldable pub html_head : ReachOptions → List ℕ
html_head o = page_start page_title ++ html_files o

-- the graph, and its edges as lines
unfoldable pub html_labels_all : List Vertex → List ℕ
html_labels_all vs = html_graph vs ++ html_all_steps vs

-- what stands last
unfoldable pub html_foot : ℕ → ℕ → List ℕ
html_foot passed skipped = html_counts passed skipped ++ page_end

-- the page
unfoldable pub html_page : ReachOptions → Manner → ℕ → ℕ → List Answer → List Vertex → List ℕ
html_page o m passed skipped answers vs = html_head o ++ flat_map (html_answer m) answers ++ html_labels_all vs ++ html_foot passed skipped
