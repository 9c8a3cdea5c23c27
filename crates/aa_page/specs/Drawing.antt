-- Graphs, drawn as SVG: nodes one below the other in their order, and edges as curves to their left, the longer the farther.
-- Source: SVG, "Paths"; own.
use Rattle.std.specs.Prelude.{ℕ, ◌+◌, ◌-◌, ◌*◌, min, List, [], ◌++◌, codes, decimal, Bool, if◌then◌else◌}
use Rattle.aa_page.specs.Escaped.{shown}

-- how far a node's middle is below the top
abbrev pub row_of : ℕ → ℕ
row_of number = 26 * min number 4294967296 + 24

-- how far the nodes of that many stand from the left edge
abbrev pub left_of : ℕ → ℕ
left_of count = 8 * min count 40 + 40

-- how wide the drawing of that many nodes is, whose longest name has so many bytes
abbrev pub width_of : ℕ → ℕ → ℕ
width_of count widest = left_of count + 8 * min widest 1000 + 120

-- how far from the left edge the curve between two nodes bends
abbrev pub side_of : ℕ → ℕ → ℕ → ℕ
side_of count from to = left_of count - (8 * min ((from - to) + (to - from)) 40 + 24)

-- a point
unfoldable pub point : ℕ → ℕ → List ℕ
point x y = decimal x ++ codes " " ++ decimal y

-- the begin of its element
unfoldable pub element_start : List ℕ
element_start =
    codes "<div class=\"graph\">\n<svg xmlns=\"http://www.w3.org/2000/svg\" role=\"img\" fill=\"none\" stroke=\"currentColor\" font-family=\"monospace\" font-size=\"13\""

-- an attribute that is a number, of which what stands before it is given
unfoldable pub attribute : List ℕ → ℕ → List ℕ
attribute front number = front ++ decimal number ++ codes "\""

-- the begin of a drawing so wide and high
unfoldable pub frame_start : ℕ → ℕ → List ℕ
frame_start width height = element_start ++ attribute (codes " width=\"") width ++ attribute (codes " height=\"") height ++ codes ">\n"

-- the head of an arrow
abbrev pub arrow_text : List ℕ
arrow_text =
    codes "<defs><marker id=\"to\" markerWidth=\"8\" markerHeight=\"8\" refX=\"7\" refY=\"4\" orient=\"auto\"><path d=\"M1 1L7 4L1 7\"/></marker></defs>\n"

-- the begin of the drawing of that many nodes, whose longest name has so many bytes
abbrev pub drawing_start : ℕ → ℕ → List ℕ
drawing_start count widest = frame_start (width_of count widest) (row_of count) ++ arrow_text

-- the end of a drawing
abbrev pub drawing_end : List ℕ
drawing_end = codes "</svg>\n</div>\n"

-- what makes a line dashed
abbrev pub dashes : Bool → List ℕ
dashes is_dashed = if is_dashed then codes " stroke-dasharray=\"3 2\"" else []

-- the word behind the name of one that complains
abbrev pub complain_word : Bool → List ℕ
complain_word complains = if complains then codes " (complains)" else []

-- the begin of the ring round a point
unfoldable pub ring_start : ℕ → ℕ → List ℕ
ring_start x y = codes "<circle" ++ attribute (codes " cx=\"") x ++ attribute (codes " cy=\"") y

-- the ring of a node
unfoldable pub dot_text : ℕ → ℕ → Bool → List ℕ
dot_text x y complains = ring_start x y ++ attribute (codes " r=\"") 6 ++ dashes complains ++ codes "/>"

-- the begin of the text at a node
unfoldable pub text_start : ℕ → ℕ → List ℕ
text_start x y = codes "<text" ++ attribute (codes " x=\"") x ++ attribute (codes " y=\"") y

-- the same with the name
unfoldable pub name_text : ℕ → ℕ → List ℕ → List ℕ
name_text x y name = text_start x y ++ codes " dx=\"14\" dy=\"4\" fill=\"currentColor\" stroke=\"none\">" ++ shown name

-- the node of that number among so many, with its name; one that complains is dashed, and says so
unfoldable pub node_text : ℕ → ℕ → List ℕ → Bool → List ℕ
node_text count number name complains =
    dot_text (left_of count) (row_of number) complains ++ name_text (left_of count) (row_of number) name ++ complain_word complains ++ codes "</text>\n"

-- the points by which a curve bends
unfoldable pub curve_bend : ℕ → ℕ → ℕ → List ℕ
curve_bend side above below = codes "C" ++ point side above ++ codes " " ++ point side below ++ codes " "

-- the curve from one node to another: it leaves below the former's middle, and ends above the latter's
unfoldable pub curve_text : ℕ → ℕ → ℕ → List ℕ
curve_text count from to =
    codes "M" ++ point (left_of count - 7) (row_of from + 5) ++ curve_bend (side_of count from to) (row_of from + 5) (row_of to - 5)
    ++ point (left_of count - 7) (row_of to - 5)

-- what makes an arrow of a curve
unfoldable pub arrow_mark : List ℕ
arrow_mark = codes "\" marker-end=\"url(#to)\">"

-- the begin of the edge from one node to another among so many
unfoldable pub edge_start : ℕ → ℕ → ℕ → List ℕ
edge_start count from to = codes "<path d=\"" ++ curve_text count from to ++ arrow_mark

-- what is told of an edge where it is pointed at
unfoldable pub tip_text : List ℕ → List ℕ
tip_text title = codes "<title>" ++ shown title ++ codes "</title>"

-- the edge from one node to another among so many
unfoldable pub edge_text : ℕ → ℕ → ℕ → List ℕ → List ℕ
edge_text count from to title = edge_start count from to ++ tip_text title ++ codes "</path>\n"
