-- How pages look: by light and by dark, on a screen and on paper.
-- Source: own.
use Rattle.std.specs.Prelude.{ℕ, List, ◌++◌, codes}

-- the colours, by light and by dark
unfoldable pub colours_style : List ℕ
colours_style =
    codes ":root{color-scheme:light dark;--edge:#8888;--gain:#9a4a00;--loss:#0757a5;--other:#555;--passed:#6b3fa0}\n@media(prefers-color-scheme:dark){:root{--gain:#ffa94d;--loss:#74b9ff;--other:#bbb;--passed:#c9a4ff}}\n"

-- texts and sections
unfoldable pub texts_style : List ℕ
texts_style =
    codes "body{font:16px/1.5 system-ui,sans-serif;max-width:64rem;margin:auto;padding:1rem}\nh1{font-size:1.4rem}\ncode{font:.9em ui-monospace,monospace;overflow-wrap:anywhere;unicode-bidi:isolate;white-space:pre-wrap}\ndetails{border:1px solid var(--edge);border-radius:.4rem;margin:1rem 0;padding:.4rem .8rem}\nsummary{cursor:pointer;font-weight:600;overflow-wrap:anywhere}\n"

-- lists, and the edges of marked lines
unfoldable pub lists_style : List ℕ
lists_style =
    codes "ul{list-style:none;margin:.4rem 0;padding:0}\nul:empty{display:none}\nli{border-left:.3rem solid var(--edge);margin:.5rem 0;padding-left:.7rem}\n.gain,.new{border-left-color:var(--gain)}.gain>b,.new>b{color:var(--gain)}\n.loss,.old{border-left-color:var(--loss);border-left-style:dashed}.loss>b,.old>b{color:var(--loss)}\n.other{border-left-color:var(--other);border-left-style:dotted}.other>b{color:var(--other)}\n.passed{border-left-color:var(--passed);border-left-style:double}.passed>b{color:var(--passed)}\n.old,.new{border-left-width:1px;font-size:.95em;margin:.2rem 0}\n"

-- graphs, and what is printed on paper
unfoldable pub others_style : List ℕ
others_style =
    codes ".graph{overflow-x:auto}\nsvg path:hover{stroke-width:3}\n@media print{body{max-width:none;padding:0}li,svg{break-inside:avoid}}\n"

-- all of it
unfoldable pub style_text : List ℕ
style_text = codes "<style>\n" ++ colours_style ++ texts_style ++ lists_style ++ others_style ++ codes "</style>\n"
