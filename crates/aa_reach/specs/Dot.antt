-- The graph of all labels, in the language of Graphviz.
-- Source: Graphviz, "DOT Language"; own.
use Rattle.std.specs.Prelude.{ℕ, ◌==◌, ◌||◌, List, [], ◌∷◌, ◌++◌, map, flat_map, codes, decimal, Bool, true, false, if◌then◌else◌}
use Rattle.aa_ask.specs.Shown.{complain_mark}
use Rattle.aa_reach.specs.declared.graph.Vertex.{Vertex}
use Rattle.aa_reach.specs.Names.{Name, name_in, called}
use Rattle.aa_reach.specs.Routes.{Turned, Routed, routed}
use Rattle.aa_skipped.specs.Telling.{count_text}
use Rattle.aa_reach.specs.Shown.{untold_text, is_undecided}

-- a byte between quotes: behind a backslash where it would end them or begin an escape
abbrev pub dot_byte : ℕ → List ℕ
dot_byte b = if b == 34 || b == 92 then 92 ∷ b ∷ [] else b ∷ []

-- a text between quotes
unfoldable pub dot_string : List ℕ → List ℕ
dot_string text = codes "\"" ++ flat_map dot_byte text ++ codes "\""

-- a profile in complain mode is dashed
abbrev pub style_mark : Bool → List ℕ
style_mark complains = if complains then codes " [style=dashed]" else []

-- a label at which something is undecided has two borders
abbrev pub border_mark : Bool → List ℕ
border_mark undecided = if undecided then codes " [peripheries=2]" else []

-- a node
unfoldable pub node_line : Vertex → List ℕ
node_line v = codes "  " ++ dot_string (called (name_in v.edges.from)) ++ style_mark v.complains ++ border_mark (is_undecided v.edges) ++ codes ";\n"

-- a request, and a mark where complain mode alone grants it
abbrev pub edge_word : Turned → List ℕ
edge_word t = t.word ++ complain_mark t.complains

-- an edge that only unclean paths make is dotted
abbrev pub dotted_mark : Bool → List ℕ
dotted_mark dotted = if dotted then codes " [style=dotted]" else []

-- what ends an edge
unfoldable pub edge_end : Bool → List ℕ
edge_end dotted = codes "]" ++ dotted_mark dotted ++ codes ";\n"

-- an edge, with a request that leads on by it
unfoldable pub edge_line : Bool → Name → Routed → List ℕ
edge_line dotted from r =
    codes "  " ++ dot_string (called from) ++ codes " -> " ++ dot_string (called r.to) ++ codes " [label="
    ++ dot_string (flat_map edge_word r.turns) ++ edge_end dotted

-- the edges from a node
abbrev pub node_edges : Vertex → List ℕ
node_edges v =
    flat_map (edge_line false (name_in v.edges.from)) (map routed v.edges.routes.items)
    ++ flat_map (edge_line true (name_in v.edges.from)) (map routed v.edges.unclean.routes.items)

-- how many rules decide nothing, in a comment, where there are some
abbrev pub passed_comment : ℕ → List ℕ
passed_comment n = if n == 0 then [] else codes "// " ++ decimal n ++ codes " rules passed over\n"

-- how many files are skipped, so too
abbrev pub skipped_comment : ℕ → List ℕ
skipped_comment n = if n == 0 then [] else codes "// " ++ count_text n

-- both
unfoldable pub dot_comments : ℕ → ℕ → List ℕ
dot_comments passed skipped = passed_comment passed ++ skipped_comment skipped

-- the graph
unfoldable pub dot_text : ℕ → ℕ → List Vertex → List ℕ
dot_text passed skipped vertices =
    codes "digraph labels {\n" ++ flat_map node_line vertices ++ flat_map node_edges vertices ++ codes "}\n" ++ dot_comments passed skipped

-- what isn't told of the edges from a node
abbrev pub untold_edges : ℕ → Vertex → List ℕ
untold_edges limit v = untold_text limit v.edges
